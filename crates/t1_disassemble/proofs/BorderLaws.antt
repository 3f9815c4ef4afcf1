-- Lines on which no border begins.
use Rattle.std.proofs.Common.{◌≡◌, ℕ, zero, suc, false, ◌-◌, ◌≤◌, ◌<◌, List, [], ◌∷◌, length, take, drop, reverse, codes, refl, ap, arith, inl, inr}
use Rattle.std.specs.List.{prefix_len}
use Rattle.std.proofs.lemmas.Bool.{cases_Bool}
use Rattle.std.proofs.lemmas.List.{length-drop, length-reverse}
use Rattle.std.proofs.lemmas.Slice.Eq.{bytes_eq-Decides}
use Rattle.t1_frac.specs.Words.{is_blank, trimmed_front}
use Rattle.t1_text.specs.Lines.{trimmed}
use Rattle.t1_parts.specs.Parts.{ends_in}
use Rattle.t1_disassemble.specs.Layouts.{begins_closefile}

dropped : (k : ℕ) (l : List ℕ) → length (drop k l) ≤ length l
dropped k l = omega (arith, length-drop k l)

taken : (k : ℕ) (l : List ℕ) → length (take k l) ≤ length l
taken zero l = omega arith
taken (suc k) [] = omega arith
taken (suc k) (x ∷ l) = omega (arith, taken k l)

trimmed_within : (l : List ℕ) → length (trimmed l) ≤ length l
trimmed_within l =
    let front = trimmed_front l in
    let back = trimmed_front (reverse front) in
    omega (arith, length-reverse back, dropped (prefix_len is_blank (reverse front)) (reverse front), length-reverse front, dropped (prefix_len is_blank l) l)

short_ends : (text line : List ℕ) (n : ℕ) → length text ≡ n → length line < n → ends_in text line ≡ false
short_ends text line n long short = elim (cases_Bool (ends_in text line)) [
  | inl ended ↦ (let cut = length (trimmed line) - length text in
      let last : text ≡ drop cut (trimmed line) = (bytes_eq-Decides text (drop cut (trimmed line))).0 ended in
      absurd (omega (arith, long, short, trimmed_within line, dropped cut (trimmed line), ap length last)))
  | inr other ↦ other
]

-- a line of less than four bytes
pub short_begins : (l : List ℕ) → length l < 4 → begins_closefile l ≡ false
short_begins l h = rw (short_ends (codes "mark") l 4 refl h, short_ends (codes "mark currentfile") l 16 refl (omega (arith, h))) refl
