-- The spellings of a number, as the code finds them.
use Rattle.std.proofs.Common.{◌≡◌, ◌⊎◌, ◌≤◌, ◌<◌, ◌+◌, ◌-◌, ℤ, pos, negsuc, ◌+ℤ◌, ◌-ℤ◌, true, false, List, [], ◌∷◌, refl, ap, ◌∙◌, inl, inr, arith, w32, to_z, of_z, FitsSigned}
use Rattle.std.proofs.lemmas.Bool.{leb-true, leb-false, le-leb, lt-leb}
use Rattle.std.specs.Int.{to_be_bytes}
use Rattle.std.proofs.lemmas.Int.{ints, to_z-of_z}
use lib.IntN.{nat_abs}
use lib.Signed.{le_z}
use Rattle.t1_code.specs.Charstring.{number_bytes, two_bytes}

pub near_byte : (n : ℤ) → FitsSigned w32 n → le_z (negsuc 106) (to_z w32 (of_z w32 n)) ≡ true → le_z (to_z w32 (of_z w32 n)) (pos 107) ≡ true
    → nat_abs (to_z w32 (of_z w32 (to_z w32 (of_z w32 n) +ℤ pos 139))) ∷ [] ≡ number_bytes n
near_byte (pos k) fits low high =
    let same = to_z-of_z w32 (pos k) fits in
    let near : k ≤ 107 = leb-true k 107 (rw same at high) in
    let fit : FitsSigned w32 (pos (k + 139)) = record { sfits = omega (arith, near) } in
    let turned : k + 139 ≡ 139 + k = omega arith in
    rw (same, to_z-of_z w32 (pos (k + 139)) fit, le-leb k 107 near) (ap (λ b. b ∷ []) turned)
near_byte (negsuc m) fits low high =
    let same = to_z-of_z w32 (negsuc m) fits in
    let near : m ≤ 106 = leb-true m 106 (rw same at low) in
    let sum : negsuc m +ℤ pos 139 ≡ pos (139 - (m + 1)) = omega (arith, ints) in
    let fit : FitsSigned w32 (pos (139 - (m + 1))) = record { sfits = omega (arith, near) } in
    rw (same, sum, to_z-of_z w32 (pos (139 - (m + 1))) fit, le-leb (m + 1) 107 (omega (arith, near))) refl

pub far_above : (n : ℤ) → FitsSigned w32 n → le_z (pos 108) (to_z w32 (of_z w32 n)) ≡ true → le_z (to_z w32 (of_z w32 n)) (pos 1131) ≡ true
    → two_bytes 247 (nat_abs (to_z w32 (of_z w32 n))) ≡ number_bytes n
far_above (pos k) fits low high =
    let same = to_z-of_z w32 (pos k) fits in
    let past : 108 ≤ k = leb-true 108 k (rw same at low) in
    let within : k ≤ 1131 = leb-true k 1131 (rw same at high) in
    rw (same, lt-leb k 107 (omega (arith, past)), le-leb k 1131 within) refl
far_above (negsuc m) fits low high = let none : false ≡ true = rw (to_z-of_z w32 (negsuc m) fits) at low in absurd (cc)

pub far_below : (n : ℤ) → FitsSigned w32 n → le_z (negsuc 1130) (to_z w32 (of_z w32 n)) ≡ true → le_z (to_z w32 (of_z w32 n)) (negsuc 107) ≡ true
    → two_bytes 251 (nat_abs (to_z w32 (of_z w32 (pos 0 -ℤ to_z w32 (of_z w32 n))))) ≡ number_bytes n
far_below (pos k) fits low high = let none : false ≡ true = rw (to_z-of_z w32 (pos k) fits) at high in absurd (cc)
far_below (negsuc m) fits low high =
    let same = to_z-of_z w32 (negsuc m) fits in
    let within : m ≤ 1130 = leb-true m 1130 (rw same at low) in
    let past : 107 ≤ m = leb-true 107 m (rw same at high) in
    let turned : pos 0 -ℤ negsuc m ≡ pos (m + 1) = omega (arith, ints) in
    let fit : FitsSigned w32 (pos (m + 1)) = record { sfits = omega (arith, within) } in
    let size : nat_abs (to_z w32 (of_z w32 (pos 0 -ℤ to_z w32 (of_z w32 (negsuc m))))) ≡ m + 1 =
    ap (λ z. nat_abs (to_z w32 (of_z w32 (pos 0 -ℤ z)))) same ∙ ap (λ z. nat_abs (to_z w32 (of_z w32 z))) turned ∙ ap nat_abs (to_z-of_z w32 (pos (m + 1)) fit) in
    ap (two_bytes 251) size ∙ rw (lt-leb (m + 1) 107 (omega (arith, past)), le-leb (m + 1) 1131 (omega (arith, within))) refl

pub wide : (n : ℤ) → FitsSigned w32 n → (le_z (negsuc 106) (to_z w32 (of_z w32 n)) ≡ false) ⊎ (le_z (to_z w32 (of_z w32 n)) (pos 107) ≡ false)
    → (le_z (pos 108) (to_z w32 (of_z w32 n)) ≡ false) ⊎ (le_z (to_z w32 (of_z w32 n)) (pos 1131) ≡ false)
    → (le_z (negsuc 1130) (to_z w32 (of_z w32 n)) ≡ false) ⊎ (le_z (to_z w32 (of_z w32 n)) (negsuc 107) ≡ false)
    → 255 ∷ to_be_bytes w32 (of_z w32 (to_z w32 (of_z w32 n))) ≡ number_bytes n
wide (pos k) fits near above below =
    let same = to_z-of_z w32 (pos k) fits in
    let past : 107 < k = elim near [
      | inl e ↦ (let none : true ≡ false = rw same at e in absurd (cc))
      | inr e ↦ leb-false k 107 (rw same at e)
    ] in
    let over : 1131 < k = elim above [
      | inl e ↦ (let less : k < 108 = leb-false 108 k (rw same at e) in absurd (omega (arith, past, less)))
      | inr e ↦ leb-false k 1131 (rw same at e)
    ] in
    rw (same, lt-leb k 107 past, lt-leb k 1131 over) refl
wide (negsuc m) fits near above below =
    let same = to_z-of_z w32 (negsuc m) fits in
    let past : 106 < m = elim near [
      | inl e ↦ leb-false m 106 (rw same at e)
      | inr e ↦ (let none : true ≡ false = rw same at e in absurd (cc))
    ] in
    let over : 1130 < m = elim below [
      | inl e ↦ leb-false m 1130 (rw same at e)
      | inr e ↦ (let less : m < 107 = leb-false 107 m (rw same at e) in absurd (omega (arith, past, less)))
    ] in
    rw (same, lt-leb (m + 1) 107 (omega (arith, past)), lt-leb (m + 1) 1131 (omega (arith, over))) refl
