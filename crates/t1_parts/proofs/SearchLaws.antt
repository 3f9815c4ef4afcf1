-- A text that is searched for over the lines of some bytes.
use Rattle.std.proofs.Common.{◌≡◌, ℕ, true, false, zero, suc, ◌==◌, ◌+◌, ◌-◌, ◌<◌, ◌≤◌, List, [], ◌∷◌, ◌++◌, length, take, drop, reverse, slice_index, subst, append-nil, append_assoc, refl, sym, ◌∙◌, ap, inl, inr, arith}
use Rattle.std.specs.List.{list_any, prefix_len}
use Rattle.std.proofs.lemmas.Bool.{cases_Bool, and_parts, eqb-true}
use Rattle.std.proofs.lemmas.List.{drop-append-le, get_or-append-add, get_or_append_left, length-append, length-drop, length-reverse, length-take, length-take-le, take-append-drop, take-append-le, take_all}
use Rattle.std.proofs.lemmas.List.Sums.{prefix_len-le-length}
use Rattle.std.proofs.lemmas.Slice.Eq.{bytes_eq-Decides}
use Rattle.std.proofs.Math.Seq.{take-add}
use Rattle.memchr.specs.Find.{NoneBefore, Nowhere, OccursAt}
use Rattle.t1_frac.specs.Words.{is_blank}
use Rattle.t1_text.specs.Lines.{begins_with, is_line, lines, trimmed}
use Rattle.t1_text.proofs.LineLaws.{after_line, first_line_lem, line_len, stays}
use Rattle.t1_text.proofs.CutLaws.{line_gone, taken_len, taken_of, front_begins}
use Rattle.t1_text.proofs.TrimLaws.{cut_at_end}
use Rattle.t1_text.proofs.WholeLines.{IsCutAt}
use Rattle.t1_parts.specs.Parts.{ends_in}
use Rattle.t1_parts.specs.LineCuts.{AreCutAfter, NoneGone}

-- ---- a text that stands nowhere ends no line

-- whether a text stands nowhere in some bytes
abbrev pub IsAbsent : List ℕ → List ℕ → Type 0
IsAbsent text bytes = (front back : List ℕ) → ¬ (bytes ≡ front ++ (text ++ back))

-- bytes whose front has the text have it
more_after : (text bytes front back : List ℕ) (n : ℕ) → take n bytes ≡ front ++ (text ++ back) → bytes ≡ front ++ (text ++ (back ++ drop n bytes))
more_after text bytes front back n e =
    sym (take-append-drop n bytes) ∙ ap (λ t. t ++ drop n bytes) e ∙ append_assoc front (text ++ back) (drop n bytes) ∙ ap (λ t. front ++ t) (append_assoc text back (drop n bytes))

absent_front : (text bytes : List ℕ) (n : ℕ) → IsAbsent text bytes → IsAbsent text (take n bytes)
absent_front text bytes n h front back e = h front (back ++ drop n bytes) (more_after text bytes front back n e)

absent_back : (text bytes : List ℕ) (n : ℕ) → IsAbsent text bytes → IsAbsent text (drop n bytes)
absent_back text bytes n h front back e =
    h (take n bytes ++ front) back (sym (take-append-drop n bytes) ∙ ap (λ t. take n bytes ++ t) e ∙ sym (append_assoc (take n bytes) front (text ++ back)))

absent_trimmed : (text line : List ℕ) → IsAbsent text line → IsAbsent text (trimmed line)
absent_trimmed text line h =
    let rest = drop (prefix_len is_blank line) line in
    let count = prefix_len is_blank (reverse rest) in
    let most = prefix_len-le-length is_blank (reverse rest) in
    let size = length-reverse rest in
    let within : count ≤ length rest = omega (arith, most, size) in
    subst (IsAbsent text) (sym (cut_at_end count rest within)) (absent_front text rest (length rest - count) (absent_back text line (prefix_len is_blank line) h))

not_ended : (text line : List ℕ) → IsAbsent text line → ends_in text line ≡ false
not_ended text line h = elim (cases_Bool (ends_in text line)) [
  | inl ended ↦ (let size = length (trimmed line) - length text in
      let last : text ≡ drop size (trimmed line) = (bytes_eq-Decides text (drop size (trimmed line))).0 ended in
      absurd (absent_trimmed text line h (take size (trimmed line)) [] (sym (take-append-drop size (trimmed line)) ∙ ap (λ t. take size (trimmed line) ++ t) (sym last ∙ sym (append-nil text)))))
  | inr other ↦ other
]

none_ended : (text bytes : List ℕ) → IsAbsent text bytes → list_any (ends_in text) (lines bytes) ≡ false
none_ended text bytes h = within (length bytes) bytes (omega arith) h
  where
    within : (n : ℕ) (bytes : List ℕ) → length bytes ≤ n → IsAbsent text bytes → list_any (ends_in text) (lines bytes) ≡ false
    within n [] small h = refl
    within zero (c ∷ rest) small h = absurd (omega (arith, small))
    within (suc n) (c ∷ rest) small h =
        let first = first_line_lem (c ∷ rest) (omega arith) in
        let fewer = line_gone (c ∷ rest) (omega arith) in
        let line = not_ended text (take (line_len (c ∷ rest)) (c ∷ rest)) (absent_front text (c ∷ rest) (line_len (c ∷ rest)) h) in
        let following = subst (IsAbsent text) (taken_of (c ∷ rest)) (absent_back text (c ∷ rest) (taken_len (c ∷ rest)) h) in
        let more = within n (after_line (c ∷ rest)) (omega (arith, small, fewer)) following in
        ap (list_any (ends_in text)) first ∙ rw (line, more) refl

-- ---- by the places where a text stands

stands : (text front back : List ℕ) → OccursAt (front ++ (text ++ back)) text (length front)
stands text front back =
    let all = length-append front (text ++ back) in
    let more = length-append text back in record {
      fits = omega (arith, all, more);
      reads = λ j small. get_or-append-add front (text ++ back) j 0 ∙ get_or_append_left text back 0 j small;
    }

-- a text that isn't found
absent_all : (text bytes : List ℕ) → Nowhere (OccursAt bytes text) 0 (length bytes + 1) → IsAbsent text bytes
absent_all text bytes h front back e =
    let here = subst (λ b. OccursAt b text (length front)) (sym e) (stands text front back) in
    let fits = here.fits in
    h (length front) (omega arith) (omega (arith, fits)) here

-- one that is, in the bytes before it
absent_before : (text bytes : List ℕ) (place start : ℕ) → NoneBefore (OccursAt bytes text) 0 (length bytes + 1) place → start ≤ place → 0 < length text → IsAbsent text (take start bytes)
absent_before text bytes place start first within some front back e =
    let here = subst (λ b. OccursAt b text (length front)) (sym (more_after text bytes front back start e)) (stands text front (back ++ drop start bytes)) in
    let all = ap length e in
    let size = length-take start bytes in
    let sum = length-append front (text ++ back) in
    let more = length-append text back in
    first.before (length front) (omega arith) (omega (arith, all, size, sum, more, within, some)) here

-- ---- the line in which a text is found

-- the bytes from a place on whose byte goes on with a line
on_line : (bytes : List ℕ) (i : ℕ) → i < length bytes → stays (slice_index bytes i) ≡ true → begins_with 10 (drop i bytes) ≡ false
on_line [] i within h = absurd (omega (arith, within))
on_line (c ∷ rest) (suc i) within h = on_line rest i (omega (arith, within)) h
on_line (c ∷ rest) zero within h = elim (cases_Bool (10 == c)) [
  | inl lf ↦ (let is : c ≡ 10 = sym (eqb-true 10 c lf) in let off : stays c ≡ false = rw is refl in absurd (cc))
  | inr other ↦ other
]

first_stays : (text : List ℕ) → 0 < length text → is_line text ≡ true → stays (slice_index text 0) ≡ true
first_stays [] some h = absurd (omega (arith, some))
first_stays (c ∷ text) some h = (and_parts (stays c) (is_line text) h).0

line_before : (line back : List ℕ) → is_line line ≡ true → begins_with 10 back ≡ false → begins_with 10 (line ++ back) ≡ false
line_before [] back h k = k
line_before (c ∷ line) back h k = on_line (c ∷ line) 0 (omega arith) (and_parts (stays c) (is_line line) h).0

-- bytes cut where a line begins
cut_from : (bytes : List ℕ) (start : ℕ) → start ≤ length bytes → IsCutAt start bytes → begins_with 10 (drop start bytes) ≡ false → AreCutAfter bytes (drop start bytes)
cut_from bytes start within cut h j =
    let size = length-drop start bytes in
    let before : length bytes - length (drop start bytes) ≡ start = omega (arith, size, within) in
    ap (λ n. lines (take (n + j) bytes)) before ∙ ap lines (take-add start j bytes) ∙ cut (take j (drop start bytes)) (front_begins j (drop start bytes) h)
    ∙ sym (ap (λ n. lines (take n bytes) ++ lines (take j (drop start bytes))) before)

-- a search that finds nothing leaves nothing
pub nothing_found : (text bytes : List ℕ) → Nowhere (OccursAt bytes text) 0 (length bytes + 1) → NoneGone (ends_in text) bytes []
nothing_found text bytes h =
    let whole : take (length bytes - 0) bytes ≡ bytes = take_all (length bytes - 0) bytes (omega arith) in (
      omega arith,
      λ j. ap lines (take_all (length bytes - 0 + j) bytes (omega arith)) ∙ sym (append-nil (lines bytes)) ∙ sym (ap (λ t. lines t ++ []) whole) ∙ nothing j,
      ap (λ t. list_any (ends_in text) (lines t)) whole ∙ none_ended text bytes (absent_all text bytes h),
    )
  where
    nothing : (j : ℕ) → lines (take (length bytes - 0) bytes) ++ [] ≡ lines (take (length bytes - 0) bytes) ++ lines (take j [])
    nothing zero = refl
    nothing (suc j) = refl

-- one that finds a place leaves the bytes from its line on
pub line_found : (text bytes front rest : List ℕ) (place start : ℕ) → 0 < length text → is_line text ≡ true
    → NoneBefore (OccursAt bytes text) 0 (length bytes + 1) place → OccursAt bytes text place → front ≡ take place bytes
    → start ≤ length front → is_line (drop start front) ≡ true → IsCutAt start front → rest ≡ drop start bytes → NoneGone (ends_in text) bytes rest
line_found text bytes front rest place start some is first here f within line cut r =
    let fits = here.fits in
    let size : length front ≡ place = ap length f ∙ length-take-le place bytes (omega (arith, fits)) in
    let small : start ≤ length bytes = omega (arith, size, within, fits) in
    let all : bytes ≡ front ++ drop place bytes = sym (take-append-drop place bytes) ∙ ap (λ t. t ++ drop place bytes) (sym f) in
    let same : take start front ≡ take start bytes = sym (take-append-le start front (drop place bytes) within) ∙ ap (take start) (sym all) in
    let following : drop start bytes ≡ drop start front ++ drop place bytes = ap (drop start) all ∙ drop-append-le start front (drop place bytes) within in
    let at : place ≡ place + 0 = omega arith in
    let byte : stays (slice_index bytes place) ≡ true = ap (λ n. stays (slice_index bytes n)) at ∙ ap stays (here.reads 0 some) ∙ first_stays text some is in
    let begins : begins_with 10 (drop start bytes) ≡ false =
    ap (begins_with 10) following ∙ line_before (drop start front) (drop place bytes) line (on_line bytes place (omega (arith, fits, some)) byte) in
    let whole = subst (λ t. (back : List ℕ) → begins_with 10 back ≡ false → lines (t ++ back) ≡ lines t ++ lines back) same cut in
    let left = length-drop start bytes in
    let before : length bytes - length (drop start bytes) ≡ start = omega (arith, left, small) in
    subst (NoneGone (ends_in text) bytes) (sym r) (
      omega (arith, left),
      cut_from bytes start small whole begins,
      ap (λ n. list_any (ends_in text) (lines (take n bytes))) before ∙ none_ended text (take start bytes) (absent_before text bytes place start first (omega (arith, size, within)) some),
    )
