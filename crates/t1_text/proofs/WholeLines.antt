-- The lines of bytes in two parts, of which the second doesn't begin with LF.
use Rattle.std.proofs.Common.{◌≡◌, ℕ, Bool, true, false, zero, suc, if◌then◌else◌, ◌||◌, ◌+◌, ◌==◌, ◌<◌, List, [], ◌∷◌, ◌++◌, length, take, drop, slice_index, refl, sym, ◌∙◌, ap, inl, inr, arith, append_assoc}
use Rattle.std.specs.List.{flat_map, list_all, onto_first}
use Rattle.std.proofs.lemmas.Bool.{cases_Bool, and_parts, and_from, eqb-true}
use Rattle.std.proofs.lemmas.List.{append-nil}
use Rattle.std.proofs.lemmas.List.Folds.{list_all-append}
use Rattle.t1_frac.specs.Words.{words}
use Rattle.t1_frac.proofs.AppendLaws.{words_apart}
use Rattle.t1_text.specs.Lines.{begins_with, lines, is_line, is_line_end}
use Rattle.t1_text.specs.LineEnds.{line_ends}
use Rattle.t1_text.proofs.LineLaws.{line_len, stays, longer, not_ended, after_line, first_line_lem}
use Rattle.t1_text.proofs.ScanLaws.{fails}
use Rattle.memchr.specs.Find.{Nowhere, Passes}

-- the whole lines of some bytes that stand after a line's front
abbrev pub whole : List ℕ → List ℕ → List (List ℕ)
whole line [] = []
whole line (c ∷ rest) =
    if c == 13 then (if begins_with 10 rest then whole line rest else line ∷ whole [] rest)
    else (if c == 10 then line ∷ whole [] rest else whole (line ++ c ∷ []) rest)

-- the front of a line that is left after them
abbrev pub left : List ℕ → List ℕ → List ℕ
left line [] = line
left line (c ∷ rest) =
    if c == 13 then (if begins_with 10 rest then left line rest else left [] rest)
    else (if c == 10 then left [] rest else left (line ++ c ∷ []) rest)

-- a line's byte before other bytes
onto : (c : ℕ) (x : List ℕ) → stays c ≡ true → lines (c ∷ x) ≡ onto_first c (lines x)
onto c x h = let off = not_ended c h in longer c x off.1 off.0

-- CR before LF adds nothing
cr_before : (line x : List ℕ) → is_line line ≡ true → begins_with 10 x ≡ true → lines (line ++ 13 ∷ x) ≡ lines (line ++ x)
cr_before [] x h lf = rw lf refl
cr_before (c ∷ line) x h lf =
    let parts = and_parts (stays c) (is_line line) h in
    onto c (line ++ 13 ∷ x) parts.0 ∙ ap (onto_first c) (cr_before line x parts.1 lf) ∙ sym (onto c (line ++ x) parts.0)

cr_after : (line x : List ℕ) → is_line line ≡ true → begins_with 10 x ≡ false → lines (line ++ 13 ∷ x) ≡ line ∷ lines x
cr_after [] x h alone = rw alone refl
cr_after (c ∷ line) x h alone =
    let parts = and_parts (stays c) (is_line line) h in
    onto c (line ++ 13 ∷ x) parts.0 ∙ ap (onto_first c) (cr_after line x parts.1 alone)

lf_after : (line x : List ℕ) → is_line line ≡ true → lines (line ++ 10 ∷ x) ≡ line ∷ lines x
lf_after [] x h = refl
lf_after (c ∷ line) x h =
    let parts = and_parts (stays c) (is_line line) h in
    onto c (line ++ 10 ∷ x) parts.0 ∙ ap (onto_first c) (lf_after line x parts.1)

still_alone : (rest back : List ℕ) → begins_with 10 rest ≡ false → begins_with 10 back ≡ false → begins_with 10 (rest ++ back) ≡ false
still_alone [] back h k = k
still_alone (c ∷ rest) back h k = h

longer_line : (line : List ℕ) (c : ℕ) → is_line line ≡ true → (c == 13) ≡ false → (c == 10) ≡ false → is_line (line ++ c ∷ []) ≡ true
longer_line line c h cr lf = list_all-append stays line (c ∷ []) ∙ and_from (is_line line) (is_line (c ∷ [])) h (rw (cr, lf) refl)

pub lines_over : (line rest back : List ℕ) → is_line line ≡ true → begins_with 10 back ≡ false
    → lines (line ++ (rest ++ back)) ≡ whole line rest ++ lines (left line rest ++ back)
lines_over line [] back h k = refl
lines_over line (c ∷ rest) back h k = elim (cases_Bool (c == 13)) [
  | inl cr ↦ elim (cases_Bool (begins_with 10 rest)) [
    | inl lf ↦ rw (cr, lf) (ap (λ d. lines (line ++ d ∷ (rest ++ back))) (eqb-true c 13 cr) ∙ cr_before line (rest ++ back) h (still rest lf) ∙ lines_over line rest back h k)
    | inr alone ↦ rw (cr, alone)
        (ap (λ d. lines (line ++ d ∷ (rest ++ back))) (eqb-true c 13 cr) ∙ cr_after line (rest ++ back) h (still_alone rest back alone k)
        ∙ ap (λ ls. line ∷ ls) (lines_over [] rest back refl k))
  ]
  | inr no_cr ↦ elim (cases_Bool (c == 10)) [
    | inl lf ↦ rw (no_cr, lf)
        (ap (λ d. lines (line ++ d ∷ (rest ++ back))) (eqb-true c 10 lf) ∙ lf_after line (rest ++ back) h ∙ ap (λ ls. line ∷ ls) (lines_over [] rest back refl k))
    | inr no_lf ↦ rw (no_cr, no_lf)
        (ap lines (sym (append_assoc line (c ∷ []) (rest ++ back))) ∙ lines_over (line ++ c ∷ []) rest back (longer_line line c h no_cr no_lf) k)
  ]
]
  where
    still : (rest : List ℕ) → begins_with 10 rest ≡ true → begins_with 10 (rest ++ back) ≡ true
    still [] lf = absurd (cc)
    still (d ∷ rest) lf = lf

-- there are as many as line ends
pub whole_count : (line rest : List ℕ) → length (whole line rest) ≡ line_ends rest
whole_count line [] = refl
whole_count line (c ∷ rest) = elim (cases_Bool (c == 13)) [
  | inl cr ↦ elim (cases_Bool (begins_with 10 rest)) [
    | inl lf ↦ rw (cr, lf) (whole_count line rest)
    | inr alone ↦ rw (cr, alone) (ap suc (whole_count [] rest))
  ]
  | inr no_cr ↦ elim (cases_Bool (c == 10)) [
    | inl lf ↦ rw (no_cr, lf) (ap suc (whole_count [] rest))
    | inr no_lf ↦ rw (no_cr, no_lf) (whole_count (line ++ c ∷ []) rest)
  ]
]

after_words : (line : List ℕ) (ls : List (List ℕ)) (last rest : List ℕ) → flat_map words ls ++ words last ≡ words rest
    → flat_map words (line ∷ ls) ++ words last ≡ words line ++ words rest
after_words line ls last rest e = append_assoc (words line) (flat_map words ls) (words last) ∙ ap (λ ws. words line ++ ws) e

-- their words, and those of the front that is left, are the words of the bytes
pub whole_words : (line rest : List ℕ) → flat_map words (whole line rest) ++ words (left line rest) ≡ words (line ++ rest)
whole_words line [] = ap words (sym (append-nil line))
whole_words line (c ∷ rest) = elim (cases_Bool (c == 13)) [
  | inl cr ↦ elim (cases_Bool (begins_with 10 rest)) [
    | inl lf ↦ rw (cr, lf) (whole_words line rest ∙ crlf line rest lf ∙ ap (λ d. words (line ++ d ∷ rest)) (sym (eqb-true c 13 cr)))
    | inr alone ↦ rw (cr, alone) (after_words line (whole [] rest) (left [] rest) rest (whole_words [] rest) ∙ sym (words_apart line 13 rest refl) ∙ ap (λ d. words (line ++ d ∷ rest)) (sym (eqb-true c 13 cr)))
  ]
  | inr no_cr ↦ elim (cases_Bool (c == 10)) [
    | inl lf ↦ rw (no_cr, lf) (after_words line (whole [] rest) (left [] rest) rest (whole_words [] rest) ∙ sym (words_apart line 10 rest refl) ∙ ap (λ d. words (line ++ d ∷ rest)) (sym (eqb-true c 10 lf)))
    | inr no_lf ↦ rw (no_cr, no_lf) (whole_words (line ++ c ∷ []) rest ∙ ap words (append_assoc line (c ∷ []) rest))
  ]
]
  where
    crlf : (line rest : List ℕ) → begins_with 10 rest ≡ true → words (line ++ rest) ≡ words (line ++ 13 ∷ rest)
    crlf line [] lf = absurd (cc)
    crlf line (d ∷ rest) lf =
        let is_lf : d ≡ 10 = sym (eqb-true 10 d lf) in
        rw is_lf (words_apart line 10 rest refl ∙ sym (words_apart line 13 (10 ∷ rest) refl))

further : (test : ℕ → Bool) (line : List ℕ) (c : ℕ) → list_all test line ≡ true → test c ≡ true → list_all test (line ++ c ∷ []) ≡ true
further test line c h k = list_all-append test line (c ∷ []) ∙ and_from (list_all test line) (list_all test (c ∷ [])) h (and_from (test c) true k refl)

-- what all bytes pass, each line passes
pub whole_all : (test : ℕ → Bool) (line rest : List ℕ) → list_all test line ≡ true → list_all test rest ≡ true → list_all (list_all test) (whole line rest) ≡ true
whole_all test line [] h k = refl
whole_all test line (c ∷ rest) h k = let parts = and_parts (test c) (list_all test rest) k in elim (cases_Bool (c == 13)) [
  | inl cr ↦ elim (cases_Bool (begins_with 10 rest)) [
    | inl lf ↦ rw (cr, lf) (whole_all test line rest h parts.1)
    | inr alone ↦ rw (cr, alone) (and_from (list_all test line) (list_all (list_all test) (whole [] rest)) h (whole_all test [] rest refl parts.1))
  ]
  | inr no_cr ↦ elim (cases_Bool (c == 10)) [
    | inl lf ↦ rw (no_cr, lf) (and_from (list_all test line) (list_all (list_all test) (whole [] rest)) h (whole_all test [] rest refl parts.1))
    | inr no_lf ↦ rw (no_cr, no_lf) (whole_all test (line ++ c ∷ []) rest (further test line c h parts.0) parts.1)
  ]
]

pub left_all : (test : ℕ → Bool) (line rest : List ℕ) → list_all test line ≡ true → list_all test rest ≡ true → list_all test (left line rest) ≡ true
left_all test line [] h k = h
left_all test line (c ∷ rest) h k = let parts = and_parts (test c) (list_all test rest) k in elim (cases_Bool (c == 13)) [
  | inl cr ↦ elim (cases_Bool (begins_with 10 rest)) [
    | inl lf ↦ rw (cr, lf) (left_all test line rest h parts.1)
    | inr alone ↦ rw (cr, alone) (left_all test [] rest refl parts.1)
  ]
  | inr no_cr ↦ elim (cases_Bool (c == 10)) [
    | inl lf ↦ rw (no_cr, lf) (left_all test [] rest refl parts.1)
    | inr no_lf ↦ rw (no_cr, no_lf) (left_all test (line ++ c ∷ []) rest (further test line c h parts.0) parts.1)
  ]
]

pub left_line : (line rest : List ℕ) → is_line line ≡ true → is_line (left line rest) ≡ true
left_line line [] h = h
left_line line (c ∷ rest) h = elim (cases_Bool (c == 13)) [
  | inl cr ↦ elim (cases_Bool (begins_with 10 rest)) [
    | inl lf ↦ rw (cr, lf) (left_line line rest h)
    | inr alone ↦ rw (cr, alone) (left_line [] rest refl)
  ]
  | inr no_cr ↦ elim (cases_Bool (c == 10)) [
    | inl lf ↦ rw (no_cr, lf) (left_line [] rest refl)
    | inr no_lf ↦ rw (no_cr, no_lf) (left_line (line ++ c ∷ []) rest (longer_line line c h no_cr no_lf))
  ]
]

-- a line's front, a byte of it, and the rest of it
pub line_on : (line : List ℕ) (c : ℕ) (rest : List ℕ) → is_line line ≡ true → stays c ≡ true
    → lines (line ++ c ∷ rest) ≡ (line ++ c ∷ take (line_len rest) rest) ∷ lines (after_line rest)
line_on [] c [] h k = onto c [] k
line_on [] c (d ∷ rest) h k = onto c (d ∷ rest) k ∙ ap (onto_first c) (first_line_lem (d ∷ rest) (omega arith))
line_on (b ∷ line) c rest h k =
    let parts = and_parts (stays b) (is_line line) h in
    onto b (line ++ c ∷ rest) parts.0 ∙ ap (onto_first b) (line_on line c rest parts.1 k)

-- a line alone
pub single_line : (c : ℕ) (line : List ℕ) → is_line (c ∷ line) ≡ true → lines (c ∷ line) ≡ (c ∷ line) ∷ []
single_line c [] h = onto c [] (and_parts (stays c) true h).0
single_line c (d ∷ line) h =
    let parts = and_parts (stays c) (is_line (d ∷ line)) h in
    onto c (d ∷ line) parts.0 ∙ ap (onto_first c) (single_line d line parts.1)

-- ---- bytes cut at the beginning of a line

-- nothing is left where the bytes end with a line end
nothing_left : (line bytes : List ℕ) (i : ℕ) → i < length bytes → is_line_end (slice_index bytes i) ≡ true → left line (take (suc i) bytes) ≡ []
nothing_left line [] i within h = absurd (omega (arith, within))
nothing_left line (c ∷ rest) zero within h = elim (cases_Bool (c == 13)) [
  | inl cr ↦ rw cr refl
  | inr other ↦ (let lf : (c == 10) ≡ true = ended_by_lf (c == 10) (c == 13) h other in rw (other, lf) refl)
]
  where
    ended_by_lf : (x y : Bool) → (x || y) ≡ true → y ≡ false → x ≡ true
    ended_by_lf true y g off = refl
    ended_by_lf false y g off = sym off ∙ g
nothing_left line (c ∷ rest) (suc i) within h = elim (cases_Bool (c == 13)) [
  | inl cr ↦ elim (cases_Bool (begins_with 10 (take (suc i) rest))) [
    | inl lf ↦ rw (cr, lf) (nothing_left line rest i (omega (arith, within)) h)
    | inr alone ↦ rw (cr, alone) (nothing_left [] rest i (omega (arith, within)) h)
  ]
  | inr no_cr ↦ elim (cases_Bool (c == 10)) [
    | inl lf ↦ rw (no_cr, lf) (nothing_left [] rest i (omega (arith, within)) h)
    | inr no_lf ↦ rw (no_cr, no_lf) (nothing_left (line ++ c ∷ []) rest i (omega (arith, within)) h)
  ]
]

-- whether bytes end a line, so that the lines of bytes after them are lines of their own
abbrev pub IsCutAt : ℕ → List ℕ → Type 0
IsCutAt n bytes = (back : List ℕ) → begins_with 10 back ≡ false → lines (take n bytes ++ back) ≡ lines (take n bytes) ++ lines back

cut_where : (front back : List ℕ) → left [] front ≡ [] → begins_with 10 back ≡ false → lines (front ++ back) ≡ lines front ++ lines back
cut_where front back h k =
    let alone : lines front ≡ whole [] front =
    ap lines (sym (append-nil front)) ∙ lines_over [] front [] refl refl ∙ ap (λ l. whole [] front ++ lines (l ++ [])) h ∙ append-nil (whole [] front) in
    lines_over [] front back refl k ∙ ap (λ l. whole [] front ++ lines (l ++ back)) h ∙ ap (λ ls. ls ++ lines back) (sym alone)

pub cut_following_end : (bytes : List ℕ) (end : ℕ) → end < length bytes → is_line_end (slice_index bytes end) ≡ true → IsCutAt (end + 1) bytes
cut_following_end bytes end within h back k =
    let size : suc end ≡ end + 1 = omega arith in
    cut_where (take (end + 1) bytes) back (ap (λ n. left [] (take n bytes)) (sym size) ∙ nothing_left [] bytes end within h) k

-- bytes without a line end from a place on
pub line_from : (i : ℕ) (bytes : List ℕ) → Nowhere (Passes is_line_end bytes) i (length bytes) → is_line (drop i bytes) ≡ true
line_from zero [] h = refl
line_from zero (c ∷ rest) h = and_from (stays c) (is_line rest) (fails _ (h 0 (omega arith) (omega arith))) (line_from zero rest (λ k low small. h (suc k) (omega arith) (omega (arith, small))))
line_from (suc i) [] h = refl
line_from (suc i) (c ∷ rest) h = line_from i rest (λ k low small. h (suc k) (omega (arith, low)) (omega (arith, small)))
