-- Where the first element of a list stands that passes a test.
use Rattle.std.proofs.Common.{◌≡◌, ℕ, suc, ◌+◌, Bool, not, Option, Some, None, List, [], ◌∷◌, length, nat_lt, refl, sym, ◌∙◌, inl, inr, arith}
use Rattle.std.specs.Option.{unwrap_or, is_some}
use Rattle.std.specs.List.{list_any, position, position_or_len}
use Rattle.std.proofs.lemmas.Bool.{cases_Bool, ltb-true, ltb-false, le-ltb, lt-ltb}
use Rattle.std.proofs.lemmas.List.Sums.{prefix_len-le-length}
use Rattle.memchr.specs.Find.{IsFirstByte}
use Rattle.t1_text.proofs.ScanLaws.{first_place}

-- the place, or the length where there is none
pub or_length : {X : Type 0} (test : X → Bool) (xs : List X) → unwrap_or (position test xs) (length xs) ≡ position_or_len test xs
or_length test xs = elim (cases_Bool (nat_lt (position_or_len test xs) (length xs))) [
  | inl there ↦ rw there refl
  | inr nowhere ↦
      let most = prefix_len-le-length (λ x. not (test x)) xs in
      let least = ltb-false (position_or_len test xs) (length xs) nowhere in
      rw nowhere (omega (arith, most, least))
]

more_below : (p n : ℕ) → nat_lt (1 + p) (suc n) ≡ nat_lt p n
more_below p n = elim (cases_Bool (nat_lt p n)) [
  | inl below ↦ lt-ltb (1 + p) (suc n) (omega (arith, ltb-true p n below)) ∙ sym below
  | inr above ↦ le-ltb (1 + p) (suc n) (omega (arith, ltb-false p n above)) ∙ sym above
]

-- there is one where the place is below the length
pub any_below : {X : Type 0} (test : X → Bool) (xs : List X) → nat_lt (position_or_len test xs) (length xs) ≡ list_any test xs
any_below test [] = refl
any_below test (x ∷ xs) = elim (cases_Bool (test x)) [
  | inl here ↦ rw here (lt-ltb 0 (suc (length xs)) (omega arith))
  | inr later ↦ rw later (more_below (position_or_len test xs) (length xs) ∙ any_below test xs)
]

-- a search for bytes finds one where there is one
pub any_found : (test : ℕ → Bool) (l : List ℕ) (r : Option ℕ) → IsFirstByte test l r → is_some r ≡ list_any test l
any_found test l r h = found r (first_place test l r h) h ∙ any_below test l
  where
    found : (r : Option ℕ) → unwrap_or r (length l) ≡ position_or_len test l → IsFirstByte test l r → is_some r ≡ nat_lt (position_or_len test l) (length l)
    found None e k = sym (le-ltb (position_or_len test l) (length l) (omega (arith, e)))
    found (Some n) e k = sym (lt-ltb (position_or_len test l) (length l) (omega (arith, e, k.0.high)))
