-- Bodies found in the bytes over which they stand.
use Rattle.std.proofs.Common.{◌≡◌, ℕ, Bool, true, false, ◌||◌, ◌==◌, ◌+◌, ◌≤◌, Option, Some, None, List, [], ◌∷◌, ◌++◌, length, take, drop, slice_index, subst, append-nil, refl, sym, ◌∙◌, ap, inl, inr, arith, append_assoc}
use Rattle.std.specs.List.{before_first, after_first, flat_map, list_all, list_any, position_or_len, prefix_len}
use Rattle.std.proofs.lemmas.Bool.{cases_Bool, and_parts, and_from, not-true, eqb-true, ne_eqb}
use Rattle.std.proofs.lemmas.List.{take-append-drop, length-append}
use Rattle.std.proofs.Math.Seq.{drop-append-add, take-append_seam}
use Rattle.std.proofs.Math.Numerals.{one-add}
use Rattle.t1_frac.specs.Words.{words}
use Rattle.t1_text.specs.Delimiters.{is_brace, is_safe}
use Rattle.t1_text.specs.Lines.{begins_with, lines, is_line, trimmed}
use Rattle.t1_text.specs.LineEnds.{line_ends}
use Rattle.t1_text.specs.Tokens.{uncommented}
use Rattle.t1_text.proofs.LineLaws.{line_len, stays, after_line}
use Rattle.t1_text.proofs.WholeLines.{whole, left, lines_over, whole_count, whole_words, whole_all, left_all, left_line, line_on, single_line}
use Rattle.t1_text.proofs.CutLaws.{after_within}
use Rattle.t1_parts.specs.declared.body.EntryBody.{EntryBody}
use Rattle.t1_parts.specs.Entries.{body_of, closes, has_brace, with_front}
use Rattle.t1_parts.specs.declared.body.BodyFront.{BodyFront}
use Rattle.t1_parts.specs.declared.body.BodyFront.TheVariants.{Commented, Closed, Open}
use Rattle.t1_parts.specs.Pieces.{AreLinesAfter}
use Rattle.t1_parts.proofs.BodyLaws.{no_brace, no_comment}
use Rattle.t1_parts.proofs.PartLaws.{ap_both, cut_dropped, longer}

abbrev are_safe : List ℕ → Bool
are_safe l = list_all is_safe l

-- ---- lines without braces and comments in front of a body

front_again : (vs ws : List (List ℕ)) (m n : ℕ) (b : Option EntryBody) → with_front vs m (with_front ws n b) ≡ with_front (vs ++ ws) (m + n) b
front_again vs ws m n None = refl
front_again vs ws m n (Some b) = ap_both (λ xs k. Some (record { words = xs; closing = b.closing; more = k })) _ _ _ _ (sym (append_assoc vs ws b.words)) (omega arith)

no_front : (b : Option EntryBody) → with_front [] 0 b ≡ b
no_front None = refl
no_front (Some b) = ap (λ k. Some (record { words = b.words; closing = b.closing; more = k })) (omega arith)

safe_line : (l : List ℕ) (ls : List (List ℕ)) → are_safe l ≡ true → body_of (l ∷ ls) ≡ with_front (words l) 1 (body_of ls)
safe_line l ls h =
    let same = no_comment l h in
    let off : has_brace l ≡ false = ap (list_any is_brace) same ∙ no_brace l h in
    rw off (ap (λ t. with_front (words t) 1 (body_of ls)) same)

safe_lines : (ws ls : List (List ℕ)) → list_all are_safe ws ≡ true → body_of (ws ++ ls) ≡ with_front (flat_map words ws) (length ws) (body_of ls)
safe_lines [] ls h = sym (no_front (body_of ls))
safe_lines (w ∷ ws) ls h =
    let parts = and_parts (are_safe w) (list_all are_safe ws) h in
    let size : 1 + length ws ≡ length (w ∷ ws) = omega arith in
    safe_line w (ws ++ ls) parts.0 ∙ ap (with_front (words w) 1) (safe_lines ws ls parts.1) ∙ front_again (words w) (flat_map words ws) 1 (length ws) (body_of ls)
    ∙ ap (λ k. with_front (words w ++ flat_map words ws) k (body_of ls)) size

-- ---- the line on which a piece ends

safe_byte : (c : ℕ) → is_safe c ≡ true → (is_brace c ≡ false) × ((c == 37) ≡ false)
safe_byte c h = parts (is_brace c) (c == 37) (not-true _ h)
  where
    parts : (x y : Bool) → (x || y) ≡ false → (x ≡ false) × (y ≡ false)
    parts true y k = cc
    parts false y k = (refl, k)

comment_after : (l rest : List ℕ) → are_safe l ≡ true → uncommented (l ++ 37 ∷ rest) ≡ l
comment_after [] rest h = refl
comment_after (c ∷ l) rest h =
    let parts = and_parts (is_safe c) (are_safe l) h in
    rw ((safe_byte c parts.0).1, one-add) (ap (λ t. c ∷ t) (comment_after l rest parts.1))

brace_after : (l : List ℕ) (b : ℕ) (rest : List ℕ) → are_safe l ≡ true → is_brace b ≡ true → (b == 37) ≡ false → has_brace (l ++ b ∷ rest) ≡ true
brace_after [] b rest h k other = rw (other, one-add, k) refl
brace_after (c ∷ l) b rest h k other =
    let parts = and_parts (is_safe c) (are_safe l) h in
    let bytes = safe_byte c parts.0 in
    rw (bytes.1, one-add, bytes.0) (brace_after l b rest parts.1 k other)

place_of_brace : (l : List ℕ) (b : ℕ) (rest : List ℕ) → are_safe l ≡ true → is_brace b ≡ true → position_or_len is_brace (l ++ b ∷ rest) ≡ length l
place_of_brace [] b rest h k = rw k refl
place_of_brace (c ∷ l) b rest h k =
    let parts = and_parts (is_safe c) (are_safe l) h in
    let more = place_of_brace l b rest parts.1 k in
    rw (safe_byte c parts.0).0 (omega (arith, more))

before_brace : (l : List ℕ) (b : ℕ) (rest : List ℕ) → are_safe l ≡ true → is_brace b ≡ true → before_first is_brace (l ++ b ∷ rest) ≡ l
before_brace l b rest h k = ap (λ n. take n (l ++ b ∷ rest)) (place_of_brace l b rest h k) ∙ take-append_seam l (b ∷ rest)

after_brace : (l : List ℕ) (b : ℕ) (rest : List ℕ) → are_safe l ≡ true → is_brace b ≡ true → after_first is_brace (l ++ b ∷ rest) ≡ rest
after_brace l b rest h k =
    ap (λ n. drop (n + 1) (l ++ b ∷ rest)) (place_of_brace l b rest h k) ∙ drop-append-add l (b ∷ rest) 1

closing_brace : (l : List ℕ) (b : ℕ) (rest : List ℕ) → are_safe l ≡ true → is_brace b ≡ true → closes (l ++ b ∷ rest) ≡ (b == 125)
closing_brace l b rest h k = ap (λ n. slice_index (l ++ b ∷ rest) n == 125) (place_of_brace l b rest h k) ∙ ap (λ c. c == 125) (there l)
  where
    there : (l : List ℕ) → slice_index (l ++ b ∷ rest) (length l) ≡ b
    there [] = refl
    there (c ∷ l) = there l

-- ---- safe bytes and the byte after them

front_safe : (bytes : List ℕ) → are_safe (take (prefix_len is_safe bytes) bytes) ≡ true
front_safe [] = refl
front_safe (c ∷ bytes) = elim (cases_Bool (is_safe c)) [
  | inl e ↦ rw (e, one-add) (and_from (is_safe c) (are_safe (take (prefix_len is_safe bytes) bytes)) e (front_safe bytes))
  | inr e ↦ rw e refl
]

next_unsafe : (bytes : List ℕ) (d : ℕ) (rest : List ℕ) → drop (prefix_len is_safe bytes) bytes ≡ d ∷ rest → is_safe d ≡ false
next_unsafe [] d rest h = absurd (cc)
next_unsafe (c ∷ bytes) d rest h = elim (cases_Bool (is_safe c)) [
  | inl e ↦ next_unsafe bytes d rest (rw (e, one-add) at h)
  | inr e ↦ (let all : c ∷ bytes ≡ d ∷ rest = rw e at h in let same : c ≡ d = cc in subst (λ x. is_safe x ≡ false) same e)
]

-- the lines of safe bytes and of a byte after them, which is no line end
lines_of : (front : List ℕ) (d : ℕ) (rest : List ℕ) → stays d ≡ true → begins_with 10 (d ∷ rest) ≡ false
    → lines (front ++ d ∷ rest) ≡ whole [] front ++ (left [] front ++ d ∷ take (line_len rest) rest) ∷ lines (after_line rest)
lines_of front d rest h k =
    lines_over [] front (d ∷ rest) refl k ∙ ap (λ ls. whole [] front ++ ls) (line_on (left [] front) d rest (left_line [] front refl) h)

after_lines : (front : List ℕ) (d : ℕ) (rest : List ℕ) → stays d ≡ true → begins_with 10 (d ∷ rest) ≡ false → AreLinesAfter (line_ends front + 1) (front ++ d ∷ rest) (after_line rest)
after_lines front d rest h k =
    let all = lines_of front d rest h k in
    let line = left [] front ++ d ∷ take (line_len rest) rest in
    let count = whole_count [] front in
    let size : length (whole [] front) + 1 ≡ line_ends front + 1 = omega (arith, count) in
    let within = longer (whole [] front) line (lines (after_line rest)) in
    let same = ap length all in (
      omega (arith, within, same, count),
      sym (ap (λ n. drop n (lines (front ++ d ∷ rest))) (sym size) ∙ ap (drop (length (whole [] front) + 1)) all ∙ cut_dropped (whole [] front) line (lines (after_line rest))),
    )

-- the body of lines that stand over safe bytes and others
over : (front : List ℕ) (ls : List (List ℕ)) → are_safe front ≡ true → body_of (whole [] front ++ ls) ≡ with_front (flat_map words (whole [] front)) (line_ends front) (body_of ls)
over front ls h =
    safe_lines (whole [] front) ls (whole_all is_safe [] front refl h) ∙ ap (λ n. with_front (flat_map words (whole [] front)) n (body_of ls)) (whole_count [] front)

left_safe : (front : List ℕ) → are_safe front ≡ true → are_safe (left [] front) ≡ true
left_safe front h = left_all is_safe [] front refl h

commented_body : (front rest : List ℕ) → are_safe front ≡ true → body_of (lines (front ++ 37 ∷ rest)) ≡ with_front (words front) (line_ends front + 1) (body_of (lines (after_line rest)))
commented_body front rest h =
    let line = left [] front ++ 37 ∷ take (line_len rest) rest in
    let safe = left_safe front h in
    let text = comment_after (left [] front) (take (line_len rest) rest) safe in
    let off : has_brace line ≡ false = ap (list_any is_brace) text ∙ no_brace (left [] front) safe in
    let last : body_of (line ∷ lines (after_line rest)) ≡ with_front (words (left [] front)) 1 (body_of (lines (after_line rest))) =
    rw off (ap (λ t. with_front (words t) 1 (body_of (lines (after_line rest)))) text) in
    ap body_of (lines_of front 37 rest refl refl) ∙ over front (line ∷ lines (after_line rest)) h
    ∙ ap (with_front (flat_map words (whole [] front)) (line_ends front)) last
    ∙ front_again (flat_map words (whole [] front)) (words (left [] front)) (line_ends front) 1 (body_of (lines (after_line rest)))
    ∙ ap (λ ws. with_front ws (line_ends front + 1) (body_of (lines (after_line rest)))) (whole_words [] front)

closed_body : (front rest : List ℕ) → are_safe front ≡ true
    → body_of (lines (front ++ 125 ∷ rest)) ≡ Some (record { words = words front; closing = trimmed (take (line_len rest) rest); more = line_ends front })
closed_body front rest h =
    let back = take (line_len rest) rest in
    let line = left [] front ++ 125 ∷ back in
    let safe = left_safe front h in
    let on = brace_after (left [] front) 125 back safe refl refl in
    let closing = closing_brace (left [] front) 125 back safe refl in
    let b : EntryBody = record { words = words (left [] front); closing = trimmed back; more = 0 } in
    let last : body_of (line ∷ lines (after_line rest)) ≡ Some b =
    rw (on, closing) (ap_both (λ w t. Some (record { words = words w; closing = trimmed t; more = 0 })) _ _ _ _ (before_brace (left [] front) 125 back safe refl) (after_brace (left [] front) 125 back safe refl)) in
    ap body_of (lines_of front 125 rest refl refl) ∙ over front (line ∷ lines (after_line rest)) h
    ∙ ap (with_front (flat_map words (whole [] front)) (line_ends front)) last
    ∙ ap_both (λ ws n. Some (record { words = ws; closing = trimmed back; more = n })) _ _ _ _ (whole_words [] front) (omega arith)

opened_body : (front rest : List ℕ) → are_safe front ≡ true → body_of (lines (front ++ 123 ∷ rest)) ≡ None
opened_body front rest h =
    let back = take (line_len rest) rest in
    let line = left [] front ++ 123 ∷ back in
    let safe = left_safe front h in
    let on = brace_after (left [] front) 123 back safe refl refl in
    let closing = closing_brace (left [] front) 123 back safe refl in
    let last : body_of (line ∷ lines (after_line rest)) ≡ None = rw (on, closing) refl in
    ap body_of (lines_of front 123 rest refl refl) ∙ over front (line ∷ lines (after_line rest)) h
    ∙ ap (with_front (flat_map words (whole [] front)) (line_ends front)) last

alone : (l : List ℕ) → is_line l ≡ true → are_safe l ≡ true → body_of (lines l) ≡ None
alone [] h k = refl
alone (c ∷ l) h k = ap body_of (single_line c l h) ∙ safe_line (c ∷ l) [] k

ended_body : (front : List ℕ) → are_safe front ≡ true → body_of (lines front) ≡ None
ended_body front h =
    ap (λ t. body_of (lines t)) (sym (append-nil front)) ∙ ap body_of (lines_over [] front [] refl refl) ∙ over front (lines (left [] front ++ [])) h
    ∙ ap (λ t. with_front (flat_map words (whole [] front)) (line_ends front) (body_of (lines t))) (append-nil (left [] front))
    ∙ ap (with_front (flat_map words (whole [] front)) (line_ends front)) (alone (left [] front) (left_line [] front refl) (left_safe front h))

-- ---- the piece at the front of some bytes

bytes_of : (bytes front back : List ℕ) → front ≡ take (prefix_len is_safe bytes) bytes → back ≡ drop (prefix_len is_safe bytes) bytes → (bytes ≡ front ++ back) × (are_safe front ≡ true)
bytes_of bytes front back f b =
    (sym (take-append-drop (prefix_len is_safe bytes) bytes) ∙ ap_both (λ x y. x ++ y) _ _ _ _ (sym f) (sym b), ap are_safe f ∙ front_safe bytes)

size_of : (bytes front : List ℕ) (d : ℕ) (rest : List ℕ) → bytes ≡ front ++ d ∷ rest → length front + 1 + length (after_line rest) ≤ length bytes
size_of bytes front d rest e =
    let all = ap length e in
    let sum = length-append front (d ∷ rest) in
    let fewer = after_within rest in
    omega (arith, all, sum, fewer)

pub commented_piece : (bytes front back rest after : List ℕ) (d : ℕ) → front ≡ take (prefix_len is_safe bytes) bytes → back ≡ drop (prefix_len is_safe bytes) bytes → back ≡ d ∷ rest → d ≡ 37
    → after ≡ after_line rest
    → (body_of (lines bytes) ≡ with_front (words front) (line_ends front + 1) (body_of (lines after))) × AreLinesAfter (line_ends front + 1) bytes after × (length front + 1 + length after ≤ length bytes)
commented_piece bytes front back rest after d f b is_back is a =
    let parts = bytes_of bytes front back f b in
    let all : bytes ≡ front ++ 37 ∷ rest = parts.0 ∙ ap (λ x. front ++ x) (is_back ∙ ap (λ x. x ∷ rest) is) in (
      ap (λ t. body_of (lines t)) all ∙ commented_body front rest parts.1 ∙ ap (λ t. with_front (words front) (line_ends front + 1) (body_of (lines t))) (sym a),
      subst (λ t. AreLinesAfter (line_ends front + 1) t after) (sym all) (subst (λ t. AreLinesAfter (line_ends front + 1) (front ++ 37 ∷ rest) t) (sym a) (after_lines front 37 rest refl refl)),
      subst (λ t. length front + 1 + length t ≤ length bytes) (sym a) (size_of bytes front 37 rest all),
    )

pub closed_piece : (bytes front back rest after line closing : List ℕ) (d : ℕ) → front ≡ take (prefix_len is_safe bytes) bytes → back ≡ drop (prefix_len is_safe bytes) bytes → back ≡ d ∷ rest → d ≡ 125
    → after ≡ after_line rest → line ≡ take (line_len rest) rest → closing ≡ trimmed line
    → (body_of (lines bytes) ≡ Some (record { words = words front; closing = closing; more = line_ends front })) × AreLinesAfter (line_ends front + 1) bytes after × (length front ≤ length bytes)
closed_piece bytes front back rest after line closing d f b is_back is a l c =
    let parts = bytes_of bytes front back f b in
    let all : bytes ≡ front ++ 125 ∷ rest = parts.0 ∙ ap (λ x. front ++ x) (is_back ∙ ap (λ x. x ∷ rest) is) in
    let size = size_of bytes front 125 rest all in (
      ap (λ t. body_of (lines t)) all ∙ closed_body front rest parts.1 ∙ ap (λ t. Some (record { words = words front; closing = t; more = line_ends front })) (sym (c ∙ ap trimmed l)),
      subst (λ t. AreLinesAfter (line_ends front + 1) t after) (sym all) (subst (λ t. AreLinesAfter (line_ends front + 1) (front ++ 125 ∷ rest) t) (sym a) (after_lines front 125 rest refl refl)),
      omega (arith, size),
    )

pub opened_piece : (bytes front back rest : List ℕ) (d : ℕ) → front ≡ take (prefix_len is_safe bytes) bytes → back ≡ drop (prefix_len is_safe bytes) bytes → back ≡ d ∷ rest
    → ¬ (d ≡ 37) → ¬ (d ≡ 125) → body_of (lines bytes) ≡ None
opened_piece bytes front back rest d f b is_back other closed =
    let parts = bytes_of bytes front back f b in
    let unsafe = next_unsafe bytes d rest (sym b ∙ is_back) in
    let is : d ≡ 123 = third d unsafe other closed in
    ap (λ t. body_of (lines t)) (parts.0 ∙ ap (λ x. front ++ x) (is_back ∙ ap (λ x. x ∷ rest) is)) ∙ opened_body front rest parts.1
  where
    third : (d : ℕ) → is_safe d ≡ false → ¬ (d ≡ 37) → ¬ (d ≡ 125) → d ≡ 123
    third d h k m = elim (cases_Bool (d == 123)) [
      | inl e ↦ eqb-true d 123 e
      | inr e ↦ (let safe : is_safe d ≡ true = rw (e, ne_eqb d 125 m, ne_eqb d 37 k) refl in absurd (cc))
    ]

nothing : (l : List ℕ) → length l ≡ 0 → l ≡ []
nothing [] h = refl
nothing (c ∷ l) h = absurd (omega (arith, h))

pub ended_piece : (bytes front back : List ℕ) → front ≡ take (prefix_len is_safe bytes) bytes → back ≡ drop (prefix_len is_safe bytes) bytes → length back ≡ 0 → body_of (lines bytes) ≡ None
ended_piece bytes front back f b none =
    let parts = bytes_of bytes front back f b in
    ap (λ t. body_of (lines t)) (parts.0 ∙ ap (λ x. front ++ x) (nothing back none) ∙ append-nil front) ∙ ended_body front parts.1

-- ---- a body, piece by piece

-- the body that a piece has in front
abbrev pub body_in : BodyFront → Option EntryBody
body_in (Commented front after) = with_front (words front.now) (line_ends front.now + 1) (body_of (lines after.now))
body_in (Closed front closing after) = Some (record { words = words front.now; closing = closing.now; more = line_ends front.now })
body_in Open = None

-- a piece stands so many lines after the front of some bytes
abbrev pub IsPlaced : ℕ → List ℕ → BodyFront → Type 0
IsPlaced m bytes (Commented front after) = AreLinesAfter (m + (line_ends front.now + 1)) bytes after.now × (m + (length front.now + 1) + length after.now ≤ length bytes)
IsPlaced m bytes (Closed front closing after) = AreLinesAfter (m + (line_ends front.now + 1)) bytes after.now × (m + length front.now ≤ length bytes)
IsPlaced m bytes Open = Unit {0}

-- what is left after a piece
abbrev pub left_after : BodyFront → ℕ
left_after (Commented front after) = length after.now + 1
left_after (Closed front closing after) = 0
left_after Open = 0

abbrev pub IsRead : List (List ℕ) → ℕ → List ℕ → BodyFront → Type 0
IsRead ws m bytes p = (with_front ws m (body_in p) ≡ body_of (lines bytes)) × IsPlaced m bytes p
