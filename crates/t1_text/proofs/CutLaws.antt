-- Bytes cut after some of their lines.
use Rattle.std.proofs.Common.{◌≡◌, ℕ, zero, suc, Bool, true, false, ◌&&◌, ◌||◌, if◌then◌else◌, ◌+◌, ◌-◌, ◌==◌, ◌<◌, ◌≤◌, List, [], ◌∷◌, length, take, drop, refl, sym, ◌∙◌, ap, inl, inr, arith}
use Rattle.std.specs.List.{onto_first}
use Rattle.std.proofs.lemmas.Bool.{cases_Bool, not-false}
use Rattle.std.proofs.lemmas.List.{length-drop, length-take-le}
use Rattle.std.proofs.lemmas.List.Sums.{prefix_len-le-length}
use Rattle.std.proofs.Math.Numerals.{one-add}
use Rattle.t1_text.specs.Lines.{begins_with, lines, after_end}
use Rattle.t1_text.proofs.LineLaws.{line_len, stays, longer, cr_lf, cr_alone, ends_lf, lf_ends, not_ended, after_line, first_line_lem}

-- how many bytes a line end takes
abbrev end_len : List ℕ → ℕ
end_len [] = 0
end_len (c ∷ rest) = if c == 13 && begins_with 10 rest then 2 else 1

-- how many bytes the first line takes, with its end
abbrev pub taken_len : List ℕ → ℕ
taken_len bytes = line_len bytes + end_len (drop (line_len bytes) bytes)

-- the first line of bytes that are cut following it
abbrev Cut : List ℕ → ℕ → Type 0
Cut bytes j = lines (take (taken_len bytes + j) bytes) ≡ take (line_len bytes) bytes ∷ lines (take j (after_line bytes))

pub front_begins : (n : ℕ) (l : List ℕ) → begins_with 10 l ≡ false → begins_with 10 (take n l) ≡ false
front_begins zero l h = refl
front_begins (suc n) [] h = refl
front_begins (suc n) (c ∷ l) h = h

pub longer_len : (c : ℕ) (rest : List ℕ) → stays c ≡ true → line_len (c ∷ rest) ≡ suc (line_len rest)
longer_len c rest h = rw (h, one-add) refl

pub ended_len : (c : ℕ) (rest : List ℕ) → stays c ≡ false → line_len (c ∷ rest) ≡ 0
ended_len c rest h = rw h refl

cut_stays : (c : ℕ) (rest : List ℕ) (j : ℕ) → stays c ≡ true → Cut rest j → Cut (c ∷ rest) j
cut_stays c rest j h more =
    let off = not_ended c h in
    let e = end_len (drop (line_len rest) rest) in
    let size : suc (line_len rest) + e + j ≡ suc (line_len rest + e + j) = omega arith in
    rw (longer_len c rest h) (ap (λ k. lines (take k (c ∷ rest))) size ∙ longer c (take (taken_len rest + j) rest) off.1 off.0 ∙ ap (onto_first c) more)

one_end : (c : ℕ) (rest : List ℕ) (j : ℕ) → end_len (c ∷ rest) ≡ 1 → take (0 + end_len (c ∷ rest) + j) (c ∷ rest) ≡ c ∷ take j rest
one_end c rest j e =
    let size : 0 + end_len (c ∷ rest) + j ≡ suc j = omega (arith, e) in
    ap (λ k. take k (c ∷ rest)) size

two_ends : (c d : ℕ) (rest : List ℕ) (j : ℕ) → end_len (c ∷ d ∷ rest) ≡ 2 → take (0 + end_len (c ∷ d ∷ rest) + j) (c ∷ d ∷ rest) ≡ c ∷ d ∷ take j rest
two_ends c d rest j e =
    let size : 0 + end_len (c ∷ d ∷ rest) + j ≡ suc (suc j) = omega (arith, e) in
    ap (λ k. take k (c ∷ d ∷ rest)) size

cut_crlf : (c : ℕ) (rest : List ℕ) (j : ℕ) → (c == 13) ≡ true → begins_with 10 rest ≡ true
    → lines (take (0 + end_len (c ∷ rest) + j) (c ∷ rest)) ≡ [] ∷ lines (take j (drop 1 rest))
cut_crlf c [] j cr lf = absurd (cc)
cut_crlf c (d ∷ rest) j cr lf = ap lines (two_ends c d rest j (rw (cr, lf) refl)) ∙ cr_lf c (d ∷ take j rest) cr lf

cut_end : (c : ℕ) (rest : List ℕ) (j : ℕ) → stays c ≡ false → Cut (c ∷ rest) j
cut_end c rest j h = elim (cases_Bool (c == 13)) [
  | inl cr ↦ elim (cases_Bool (begins_with 10 rest)) [
    | inl lf ↦ rw (ended_len c rest h) (cut_crlf c rest j cr lf ∙ rw (cr, lf) refl)
    | inr alone ↦ rw (ended_len c rest h)
        (ap lines (one_end c rest j (rw (cr, alone) refl)) ∙ cr_alone c (take j rest) cr (front_begins j rest alone) ∙ rw (cr, alone) refl)
  ]
  | inr no_cr ↦ rw (ended_len c rest h)
      (ap lines (one_end c rest j (rw no_cr refl)) ∙ lf_ends c (take j rest) no_cr (ends_lf (c == 10) (c == 13) (not-false _ h) no_cr) ∙ rw no_cr refl)
]

cut_alone : (c j : ℕ) → stays c ≡ true → Cut (c ∷ []) j
cut_alone c j h =
    let off = not_ended c h in
    let size : 1 + 0 + j ≡ suc j = omega arith in
    rw (longer_len c [] h) (ap (λ k. lines (take k (c ∷ []))) size ∙ longer c (take j []) off.1 off.0 ∙ nothing j)
  where
    nothing : (j : ℕ) → onto_first c (lines (take j [])) ≡ (c ∷ []) ∷ lines (take j [])
    nothing zero = refl
    nothing (suc j) = refl

pub cut_following : (bytes : List ℕ) (j : ℕ) → 0 < length bytes → Cut bytes j
cut_following [] j h = absurd (omega arith)
cut_following (c ∷ []) j h = elim (cases_Bool (stays c)) [
  | inl on ↦ cut_alone c j on
  | inr off ↦ cut_end c [] j off
]
cut_following (c ∷ d ∷ rest) j h = elim (cases_Bool (stays c)) [
  | inl on ↦ cut_stays c (d ∷ rest) j on (cut_following (d ∷ rest) j (omega arith))
  | inr off ↦ cut_end c (d ∷ rest) j off
]

end_within : (c : ℕ) (rest : List ℕ) → 0 + end_len (c ∷ rest) ≤ length (c ∷ rest)
end_within c [] = elim (cases_Bool (c == 13)) [
  | inl cr ↦ rw cr (omega arith)
  | inr other ↦ rw other (omega arith)
]
end_within c (d ∷ rest) = elim (cases_Bool (c == 13)) [
  | inl cr ↦ elim (cases_Bool (10 == d)) [
    | inl lf ↦ rw (cr, lf) (omega arith)
    | inr alone ↦ rw (cr, alone) (omega arith)
  ]
  | inr other ↦ rw other (omega arith)
]

end_some : (c : ℕ) (rest : List ℕ) → 0 < 0 + end_len (c ∷ rest)
end_some c rest = elim (cases_Bool (c == 13)) [
  | inl cr ↦ elim (cases_Bool (begins_with 10 rest)) [
    | inl lf ↦ rw (cr, lf) (omega arith)
    | inr alone ↦ rw (cr, alone) (omega arith)
  ]
  | inr other ↦ rw other (omega arith)
]

after_its_end : (c : ℕ) (rest : List ℕ) → drop (0 + end_len (c ∷ rest)) (c ∷ rest) ≡ after_end (c ∷ rest)
after_its_end c rest = elim (cases_Bool (c == 13)) [
  | inl cr ↦ elim (cases_Bool (begins_with 10 rest)) [
    | inl lf ↦ rw (cr, lf) refl
    | inr alone ↦ rw (cr, alone) refl
  ]
  | inr other ↦ rw other refl
]

-- and no more than there are
taken_within : (bytes : List ℕ) → taken_len bytes ≤ length bytes
taken_within [] = omega arith
taken_within (c ∷ rest) = elim (cases_Bool (stays c)) [
  | inl on ↦
      let size : suc (line_len rest) + end_len (drop (line_len rest) rest) ≡ suc (taken_len rest) = omega arith in
      let more = taken_within rest in
      rw (longer_len c rest on) (omega (arith, more))
  | inr off ↦ rw (ended_len c rest off) (end_within c rest)
]

taken_some : (bytes : List ℕ) → 0 < length bytes → 0 < taken_len bytes
taken_some [] h = absurd (omega arith)
taken_some (c ∷ rest) h = elim (cases_Bool (stays c)) [
  | inl on ↦ rw (longer_len c rest on) (omega arith)
  | inr off ↦ rw (ended_len c rest off) (end_some c rest)
]

-- the bytes of the first line and its end are those that aren't following it
pub taken_of : (bytes : List ℕ) → drop (taken_len bytes) bytes ≡ after_line bytes
taken_of [] = refl
taken_of (c ∷ rest) = elim (cases_Bool (stays c)) [
  | inl on ↦
      let size : suc (line_len rest) + end_len (drop (line_len rest) rest) ≡ suc (taken_len rest) = omega arith in
      rw (longer_len c rest on) (ap (λ k. drop k (c ∷ rest)) size ∙ taken_of rest)
  | inr off ↦ rw (ended_len c rest off) (after_its_end c rest)
]

-- bytes cut following their first line, by the bytes that are left after it
pub cut_after : (bytes after : List ℕ) (j : ℕ) → 0 < length bytes → after ≡ after_line bytes
    → lines (take (length bytes - length after + j) bytes) ≡ take (line_len bytes) bytes ∷ lines (take j after)
cut_after bytes after j h e =
    let left = length-drop (taken_len bytes) bytes in
    let same : length (drop (taken_len bytes) bytes) ≡ length after = ap length (taken_of bytes ∙ sym e) in
    let within = taken_within bytes in
    let size : length bytes - length after + j ≡ taken_len bytes + j = omega (arith, left, same, within) in
    rw e (ap (λ k. lines (take k bytes)) (sym (ap (λ a. length bytes - length a + j) e) ∙ size) ∙ cut_following bytes j h)

-- what is left after the first line is shorter
pub line_gone : (bytes : List ℕ) → 0 < length bytes → length (after_line bytes) < length bytes
line_gone bytes h =
    let left = length-drop (taken_len bytes) bytes in
    let same : length (drop (taken_len bytes) bytes) ≡ length (after_line bytes) = ap length (taken_of bytes) in
    let within = taken_within bytes in
    let some = taken_some bytes h in
    omega (arith, left, same, within, some, h)

-- the first line stands at the front
pub line_before : (bytes : List ℕ) → take (length (take (line_len bytes) bytes)) bytes ≡ take (line_len bytes) bytes
line_before bytes = ap (λ k. take k bytes) (length-take-le (line_len bytes) bytes (prefix_len-le-length stays bytes))

-- and the bytes after it at the back
pub line_after : (bytes : List ℕ) → drop (length bytes - length (after_line bytes)) bytes ≡ after_line bytes
line_after bytes =
    let left = length-drop (taken_len bytes) bytes in
    let same : length (drop (taken_len bytes) bytes) ≡ length (after_line bytes) = ap length (taken_of bytes) in
    let within = taken_within bytes in
    let size : length bytes - length (after_line bytes) ≡ taken_len bytes = omega (arith, left, same, within) in
    ap (λ k. drop k bytes) size ∙ taken_of bytes

-- what is left after the first line is no longer, if there is one
pub after_within : (bytes : List ℕ) → length (after_line bytes) ≤ length bytes
after_within bytes =
    let left = length-drop (taken_len bytes) bytes in
    let same : length (drop (taken_len bytes) bytes) ≡ length (after_line bytes) = ap length (taken_of bytes) in
    omega (arith, left, same)

-- there are no more lines than bytes
pub lines_within : (bytes : List ℕ) → length (lines bytes) ≤ length bytes
lines_within bytes = within (length bytes) bytes (omega arith)
  where
    within : (n : ℕ) (bytes : List ℕ) → length bytes ≤ n → length (lines bytes) ≤ length bytes
    within n [] h = omega arith
    within zero (c ∷ rest) h = absurd (omega (arith, h))
    within (suc n) (c ∷ rest) h =
        let first = ap length (first_line_lem (c ∷ rest) (omega arith)) in
        let gone = line_gone (c ∷ rest) (omega arith) in
        let more = within n (after_line (c ∷ rest)) (omega (arith, h, gone)) in
        omega (arith, first, gone, more)
