-- Digits at the front of a text, and texts of digits alone.
use Rattle.std.proofs.Common.{◌≡◌, ℕ, ◌<◌, ◌≤◌, true, false, List, [], ◌∷◌, length, take, take_all, refl, inl, inr, arith}
use Rattle.std.specs.List.{list_all, prefix_len}
use Rattle.std.specs.Char.{is_ascii_digit}
use Rattle.std.proofs.lemmas.Bool.{cases_Bool}

pub digits_to_the_end : (text : List ℕ) → length text ≤ prefix_len is_ascii_digit text → list_all is_ascii_digit text ≡ true
digits_to_the_end [] h = refl
digits_to_the_end (c ∷ text) h = elim (cases_Bool (is_ascii_digit c)) [
  | inl e ↦ (let g = rw e at h in rw e (digits_to_the_end text (omega (arith, g))))
  | inr e ↦ (let g = rw e at h in absurd (omega (arith, g)))
]

pub digits_end_early : (text : List ℕ) → prefix_len is_ascii_digit text < length text → list_all is_ascii_digit text ≡ false
digits_end_early [] h = absurd (omega arith)
digits_end_early (c ∷ text) h = elim (cases_Bool (is_ascii_digit c)) [
  | inl e ↦ (let g = rw e at h in rw e (digits_end_early text (omega (arith, g))))
  | inr e ↦ rw e refl
]

-- all bytes are digits
pub whole_number : (text : List ℕ) (n : ℕ) → n ≡ prefix_len is_ascii_digit text → length text ≤ n → (list_all is_ascii_digit text ≡ true) × (take n text ≡ text)
whole_number text n e h = (digits_to_the_end text (omega arith), take_all n text h)
