-- The value of a number word, by the number as far as it fits 64 bits.
use Rattle.std.proofs.Common.{◌≡◌, ℕ, ℤ, pos, negsuc, false, true, ◌&&◌, ◌^◌, Some, None, List, refl, ◌∙◌, ap, inl, inr, arith}
use Rattle.std.proofs.lemmas.Bool.{cases_Bool, ltb-false, lt-leb}
use Rattle.t1_frac.specs.Numbers.{is_number_word, number_word, number_written, fits_64_bits, capped}
use Rattle.t1_pairs.specs.Kerning.{is_kerning_value, small, kerning_value}

far_out : (n : ℤ) → fits_64_bits n ≡ false → is_kerning_value n ≡ false
far_out (pos n) h = lt-leb n 32000 (omega (arith, ltb-false n (2 ^ 63) h))
far_out (negsuc n) h = ap (λ b. b && true) (lt-leb n 31999 (omega (arith, ltb-false n (2 ^ 63) h)))

small_capped : (n : ℤ) → small (capped n) ≡ small n
small_capped n =
    elim (cases_Bool (fits_64_bits n)) [
      | inl fits ↦ rw fits refl
      | inr large ↦ rw (large, far_out n large) refl
    ]

pub small_word : (w : List ℕ) (v : ℤ) → Some v ≡ number_word w → small v ≡ kerning_value w
unfolding number_word
small_word w v e =
    elim (cases_Bool (is_number_word w)) [
      | inl on ↦
          let same : v ≡ capped (number_written w) = (let is : Some v ≡ Some (capped (number_written w)) = rw on at e in cc) in
          rw on (ap small same ∙ small_capped (number_written w))
      | inr off ↦ let none : Some v ≡ None = rw off at e in cc
    ]

pub no_word : (w : List ℕ) → None ≡ number_word w → None ≡ kerning_value w
unfolding number_word
no_word w e =
    elim (cases_Bool (is_number_word w)) [
      | inl on ↦ let none : None ≡ Some (capped (number_written w)) = rw on at e in cc
      | inr off ↦ rw off refl
    ]
