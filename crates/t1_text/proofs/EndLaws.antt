-- The line ends of a text, counted one by one.
use Rattle.std.proofs.Common.{◌≡◌, ℕ, Bool, true, false, ◌||◌, suc, ◌+◌, ◌==◌, ◌<◌, ◌≤◌, None, List, [], ◌∷◌, count_by, filter, length, drop, refl, sym, ◌∙◌, ap, inl, inr, arith}
use Rattle.std.proofs.lemmas.Bool.{cases_Bool, not-true, not-false, eqb-true, eq-eqb}
use Rattle.std.proofs.lemmas.List.{length-drop}
use Rattle.std.proofs.lemmas.List.Sums.{length-filter}
use Rattle.std.proofs.Math.Numerals.{one-add}
use Rattle.t1_text.specs.Lines.{begins_with, unified, after_end}
use Rattle.t1_text.specs.LineEnds.{line_ends}
use Rattle.t1_text.proofs.LineLaws.{line_len, stays, not_ended, after_line}
use Rattle.t1_text.proofs.ScanLaws.{fails}
use Rattle.memchr.specs.Find.{IsFirstByte, is_byte}

goes_on : (c : ℕ) (rest : List ℕ) → stays c ≡ true → line_ends (c ∷ rest) ≡ line_ends rest
goes_on c rest h = let off = not_ended c h in rw (off.1, off.0) refl

ends : (c : ℕ) (rest : List ℕ) → stays c ≡ false → line_ends (c ∷ rest) ≡ 1 + line_ends (after_end (c ∷ rest))
ends c rest h = elim (cases_Bool (c == 13)) [
  | inl cr ↦ elim (cases_Bool (begins_with 10 rest)) [
    | inl lf ↦ both rest lf cr
    | inr alone ↦ rw (cr, alone, one-add) refl
  ]
  | inr other ↦ rw (other, is_lf (c == 10) (c == 13) (not-false _ h) other, one-add) refl
]
  where
    is_lf : (x y : Bool) → (x || y) ≡ true → y ≡ false → x ≡ true
    is_lf true y g off = refl
    is_lf false y g off = sym off ∙ g

    both : (rest : List ℕ) → begins_with 10 rest ≡ true → (c == 13) ≡ true → line_ends (c ∷ rest) ≡ 1 + line_ends (after_end (c ∷ rest))
    both [] lf cr = absurd (cc)
    both (d ∷ rest) lf cr =
        let is_lf : d ≡ 10 = sym (eqb-true 10 d lf) in
        let other : (d == 13) ≡ false = rw is_lf refl in
        rw (cr, lf, other, eq-eqb d 10 is_lf, one-add) refl

pub after_stays : (c : ℕ) (rest : List ℕ) → stays c ≡ true → after_line (c ∷ rest) ≡ after_line rest
after_stays c rest h = rw (h, one-add) refl

-- a text with a line end has one more than what stands after its first line
pub one_end_more : (text : List ℕ) → line_len text < length text → line_ends text ≡ 1 + line_ends (after_line text)
one_end_more [] h = absurd (omega (arith, h))
one_end_more (c ∷ rest) h = elim (cases_Bool (stays c)) [
  | inl on ↦ (let more : suc (line_len rest) < length (c ∷ rest) = rw (on, one-add) at h in
      goes_on c rest on ∙ one_end_more rest (omega (arith, more)) ∙ ap (λ a. 1 + line_ends a) (sym (after_stays c rest on)))
  | inr off ↦ rw off (ends c rest off)
]

-- so long as a line end is left
pub end_counted : (text : List ℕ) (at count : ℕ) → at ≡ line_len text → at < length text → count + 1 + line_ends (after_end (drop at text)) ≡ count + line_ends text
end_counted text at count e h =
    let within : line_len text < length text = omega (arith, h, e) in
    let one = one_end_more text within in
    let same = ap (λ k. line_ends (after_end (drop k text))) e in
    omega (arith, one, same)

pub no_end : (text : List ℕ) → length text ≤ line_len text → line_ends text ≡ 0
no_end [] h = refl
no_end (c ∷ rest) h = elim (cases_Bool (stays c)) [
  | inl on ↦ (let more : length (c ∷ rest) ≤ 1 + line_len rest = rw on at h in goes_on c rest on ∙ no_end rest (omega (arith, more)))
  | inr off ↦ (let none : length (c ∷ rest) ≤ 0 = rw off at h in absurd (omega (arith, none)))
]

end_shortens : (l : List ℕ) → 0 < length l → length (after_end l) < length l
end_shortens [] h = absurd (omega arith)
end_shortens (c ∷ rest) h = elim (cases_Bool (c == 13)) [
  | inl cr ↦ elim (cases_Bool (begins_with 10 rest)) [
    | inl lf ↦ (let fewer = length-drop 1 rest in rw (cr, lf) (omega (arith, fewer)))
    | inr alone ↦ rw (cr, alone) (omega arith)
  ]
  | inr other ↦ rw other (omega arith)
]

-- a counted line end is gone
pub end_gone : (text : List ℕ) (at : ℕ) → at < length text → length (after_end (drop at text)) < length text
end_gone text at h =
    let size = length-drop at text in
    let fewer = end_shortens (drop at text) (omega (arith, h, size)) in
    omega (arith, fewer, size)

-- ---- a text without CR

no_return : (text : List ℕ) → IsFirstByte (is_byte 13) text None → unified text ≡ text
no_return [] h = refl
no_return (c ∷ rest) h =
    let off : (c == 13) ≡ false = not-true _ (fails _ (h 0 (omega arith) (omega arith))) in
    rw off (ap (λ t. c ∷ t) (no_return rest (λ k low small. h (suc k) (omega arith) (omega (arith, small)))))

-- its line ends are its LF
pub feeds_alone : (text : List ℕ) → IsFirstByte (is_byte 13) text None → count_by (λ c. c == 10) text ≡ line_ends text
feeds_alone text h = sym (ap (λ t. length (filter (λ c. c == 10) t)) (no_return text h) ∙ length-filter (λ c. c == 10) text)
