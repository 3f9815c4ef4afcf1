-- The first line of some bytes, and the lines after it.
use Rattle.std.proofs.Common.{◌≡◌, ℕ, Bool, true, false, not, ◌||◌, ◌==◌, ◌<◌, List, [], ◌∷◌, length, take, drop, refl, sym, ◌∙◌, ap, inl, inr, arith}
use Rattle.std.specs.List.{onto_first, position_or_len}
use Rattle.std.proofs.lemmas.Bool.{cases_Bool, eqb-true, eq-eqb, not-true, not-false, or_parts}
use Rattle.std.proofs.Math.Numerals.{one-add}
use Rattle.t1_text.specs.Lines.{begins_with, lines, is_line_end, after_end}

-- how many bytes stand before the first line end
abbrev pub line_len : List ℕ → ℕ
line_len bytes = position_or_len is_line_end bytes

-- whether a byte goes on with its line
abbrev pub stays : ℕ → Bool
stays c = not (is_line_end c)

-- a byte that goes on with the first line
pub longer : (c : ℕ) (rest : List ℕ) → (c == 13) ≡ false → (c == 10) ≡ false → lines (c ∷ rest) ≡ onto_first c (lines rest)
longer c rest not_cr not_lf = rw (not_cr, not_lf) refl

pub cr_lf : (c : ℕ) (rest : List ℕ) → (c == 13) ≡ true → begins_with 10 rest ≡ true → lines (c ∷ rest) ≡ [] ∷ lines (drop 1 rest)
cr_lf c [] is_cr lf = cc
cr_lf c (d ∷ rest) is_cr lf =
    let is_lf : d ≡ 10 = sym (eqb-true 10 d lf) in
    let ends : (d == 13) ≡ false = rw is_lf refl in
    rw (is_cr, lf, ends, eq-eqb d 10 is_lf) refl

pub cr_alone : (c : ℕ) (rest : List ℕ) → (c == 13) ≡ true → begins_with 10 rest ≡ false → lines (c ∷ rest) ≡ [] ∷ lines rest
cr_alone c rest is_cr lf = rw (is_cr, lf) refl

pub lf_ends : (c : ℕ) (rest : List ℕ) → (c == 13) ≡ false → (c == 10) ≡ true → lines (c ∷ rest) ≡ [] ∷ lines rest
lf_ends c rest not_cr is_lf = rw (not_cr, is_lf) refl

-- the bytes after the first line and its end
abbrev pub after_line : List ℕ → List ℕ
after_line bytes = after_end (drop (line_len bytes) bytes)

-- the lines of bytes are the first one, and the lines after its end
abbrev pub FirstLine : List ℕ → Type 0
FirstLine bytes = lines bytes ≡ take (line_len bytes) bytes ∷ lines (after_line bytes)

-- such a byte is neither LF nor CR
pub not_ended : (c : ℕ) → stays c ≡ true → (c == 10 ≡ false) × (c == 13 ≡ false)
not_ended c h = or_parts (c == 10) (c == 13) (not-true _ h)

pub ends_lf : (x y : Bool) → (x || y) ≡ true → y ≡ false → x ≡ true
ends_lf true y h no_cr = refl
ends_lf false y h no_cr = sym no_cr ∙ h

ends_by : (c : ℕ) (rest : List ℕ) → (c == 10) || (c == 13) ≡ true → lines (c ∷ rest) ≡ [] ∷ lines (after_end (c ∷ rest))
ends_by c rest h =
    elim (cases_Bool (c == 13)) [
      | inl cr ↦ elim (cases_Bool (begins_with 10 rest)) [
        | inl lf ↦ cr_lf c rest cr lf ∙ (rw (cr, lf) refl)
        | inr alone ↦ cr_alone c rest cr alone ∙ (rw (cr, alone) refl)
      ]
      | inr no_cr ↦ lf_ends c rest no_cr (ends_lf (c == 10) (c == 13) h no_cr) ∙ (rw no_cr refl)
    ]

ends_here : (c : ℕ) (rest : List ℕ) → stays c ≡ false → FirstLine (c ∷ rest)
ends_here c rest h = rw h (ends_by c rest (not-false _ h))

goes_further : (c : ℕ) (rest : List ℕ) → stays c ≡ true → FirstLine rest → FirstLine (c ∷ rest)
goes_further c rest h more =
    let off = or_parts (c == 10) (c == 13) (not-true _ h) in
    rw (h, one-add) (longer c rest off.1 off.0 ∙ ap (onto_first c) more)

-- the first line, and the lines after its end
pub first_line_lem : (bytes : List ℕ) → 0 < length bytes → FirstLine bytes
first_line_lem [] h = absurd (omega arith)
first_line_lem (c ∷ []) h =
    elim (cases_Bool (stays c)) [
      | inl on ↦ let off = or_parts (c == 10) (c == 13) (not-true _ on) in rw on (longer c [] off.1 off.0)
      | inr off ↦ ends_here c [] off
    ]
first_line_lem (c ∷ d ∷ rest) h =
    elim (cases_Bool (stays c)) [
      | inl on ↦ goes_further c (d ∷ rest) on (first_line_lem (d ∷ rest) (omega arith))
      | inr off ↦ ends_here c (d ∷ rest) off
    ]
