-- What is made of the pieces of a private text, one after another.
use Rattle.std.proofs.Common.{◌≡◌, ℕ, Bool, true, false, not, ◌==◌, ◌&&◌, ltb, if◌then◌else◌, ◌+◌, ◌<◌, List, [], ◌∷◌, ◌++◌, length, take, drop, Option, None, Some, Result, Ok, Err, sym, ap, ◌∙◌, inl, inr, arith, refl, subst, codes, map}
use Rattle.std.proofs.lemmas.Bool.{and_parts, cases_Bool, eqb-true, eq-eqb}
use Rattle.std.specs.List.{list_all}
use Rattle.std.specs.Str.{bytes_eq}
use Rattle.t1_frac.specs.Outcome.{◌>>=◌}
use Rattle.t1_text.specs.Lines.{begins_with}
use Rattle.t1_text.specs.Tokens.{tokens, places_from}
use Rattle.t1_parts.specs.Parts.{is_closefile}
use Rattle.t1_disassemble.specs.declared.fault.FontCode.{FontCode}
use Rattle.t1_disassemble.specs.declared.fault.FontPlace.TheVariants.{Entry}
use Rattle.t1_disassemble.specs.declared.private.EntryRead.{EntryRead}
use Rattle.t1_disassemble.specs.declared.standing.Part.{Part}
use Rattle.t1_disassemble.specs.declared.standing.Part.TheVariants.{Front, Subrs, Glyphs, Misplaced}
use Rattle.t1_disassemble.specs.Front.{front_line}
use Rattle.t1_disassemble.specs.Opening.{Opening, first_opening}
use Rattle.t1_disassemble.specs.Outcome.{font_reported_at}
use Rattle.t1_disassemble.specs.PieceLeft.{piece_of}
use Rattle.t1_disassemble.specs.PiecesOnto.{entry_left, entry_onto, line_onto}
use Rattle.t1_disassemble.specs.PrivateText.{PieceRead, piece_left, opened_left, source_line, past_source_line, head_line}
use Rattle.t1_disassemble.specs.Standing.{Standing, losing_maybe, taken_for, called, is_like_entry, read_outside, outside_judged, entered, entry_stands, text_judged, entry_judged, then_judged, pieces_judged, judged}
use Rattle.t1_disassemble.specs.Stood.{judged_after, is_other_byte}
use Rattle.t1_disassemble.specs.Words.{words_of_encrypted}
use Rattle.t1_disassemble.specs.WordsOnto.{words_onto}
use Rattle.t1_disassemble.proofs.CutPieces.{left_pieces}
use Rattle.t1_disassemble.proofs.Pieces.{opening_left}
use Rattle.t1_disassemble.proofs.SlashLaws.{token_by, begins_by, places_by}

abbrev opens : List ℕ → List ℕ → Option Opening
opens operator bytes = first_opening operator (places_from 0 (front_line bytes))

-- the first piece, and those after it
pub judged_more : (operator : List ℕ) (lead : ℕ) (bytes : List ℕ) (waits : Bool) (s : Standing) → 0 < length bytes
    → judged operator lead bytes waits s ≡ then_judged (judged operator lead (opened_left operator bytes (opens operator bytes))) operator lead waits s bytes (opens operator bytes)
unfolding judged
judged_more operator lead [] waits s some = absurd (omega (arith, some))
judged_more operator lead (c ∷ bytes) waits s some =
    let o = opens operator (c ∷ bytes) in
    ap (λ (froms : List (List ℕ)). then_judged (pieces_judged operator lead froms) operator lead waits s (c ∷ bytes) o)
    (left_pieces (piece_left operator) bytes (opened_left operator (c ∷ bytes) o) (opening_left operator c bytes o))

-- a line, behind which these bytes are left
pub line_more : (operator : List ℕ) (lead : ℕ) (bytes : List ℕ) (waits : Bool) (s : Standing) → 0 < length bytes → opens operator bytes ≡ None
    → judged operator lead bytes waits s
    ≡ (if is_closefile (source_line operator bytes) then text_judged operator lead waits s (source_line operator bytes) else judged operator lead (past_source_line operator bytes) false (text_judged operator lead waits s (source_line operator bytes)))
line_more operator lead bytes waits s some none =
    judged_more operator lead bytes waits s some
    ∙ ap (λ (o : Option Opening). then_judged (judged operator lead (opened_left operator bytes o)) operator lead waits s bytes o) none

-- an entry
pub entry_more : (operator : List ℕ) (lead : ℕ) (bytes : List ℕ) (waits : Bool) (s : Standing) (o : Opening) → 0 < length bytes → opens operator bytes ≡ Some o
    → judged operator lead bytes waits s ≡ judged operator lead (drop o.count (drop (o.end + 1) bytes)) true (entry_judged operator lead waits s (take o.at bytes) o.name)
entry_more operator lead bytes waits s o some found =
    judged_more operator lead bytes waits s some
    ∙ ap (λ (f : Option Opening). then_judged (judged operator lead (opened_left operator bytes f)) operator lead waits s bytes f) found

-- ---- a piece that was read

pub line_step : (operator text before bytes : List ℕ) (lead : ℕ) (waits : Bool) (s t : Standing) (piece : EntryRead) → 0 < length bytes → opens operator bytes ≡ None
    → piece_of text piece ≡ line_onto operator before waits bytes → t ≡ text_judged operator lead waits s (source_line operator bytes) → judged_after operator lead piece t ≡ judged operator lead bytes waits s
line_step operator text before bytes lead waits s t piece some none is e =
    let last : piece.is_last ≡ is_closefile (source_line operator bytes) = ap PieceRead.is_last is in
    let waiting : piece.waits ≡ false = ap PieceRead.waits is in
    let rest : piece.rest.now ≡ past_source_line operator bytes = ap PieceRead.rest is in
    rw (last, waiting, rest, e) (sym (line_more operator lead bytes waits s some none))

-- what is left after an entry
entry_rest : (lead : ℕ) (text after : List ℕ) (o : Opening) (bytes rest : List ℕ) → entry_onto lead text o bytes ≡ Ok (entry_left after rest) → drop o.count bytes ≡ rest
entry_rest lead text after o bytes rest h = elim (cases_Bool (ltb (length bytes) o.count)) [
  | inl t ↦ absurd (let none : Err _ ≡ Ok (entry_left after rest) = rw t at h in cc)
  | inr f ↦ said (words_onto (text ++ head_line o.name) false (words_of_encrypted lead (take o.count bytes))) (rw f at h)
]
  where
    said : (words : Result (List ℕ) FontCode) → (font_reported_at (Entry o.name) words >>= λ all. Ok (entry_left all (drop o.count bytes))) ≡ Ok (entry_left after rest) → drop o.count bytes ≡ rest
    said (Ok all) e = let is : entry_left all (drop o.count bytes) ≡ entry_left after rest = cc in ap PieceRead.rest is
    said (Err code) e = absurd (cc)

pub entry_step : (operator text after bytes rest : List ℕ) (lead : ℕ) (waits : Bool) (s t : Standing) (o : Opening) → 0 < length bytes → opens operator bytes ≡ Some o
    → entry_onto lead text o (drop (o.end + 1) bytes) ≡ Ok (entry_left after rest) → t ≡ entry_judged operator lead waits s (take o.at bytes) o.name → judged operator lead rest true t ≡ judged operator lead bytes waits s
entry_step operator text after bytes rest lead waits s t o some found is e =
    ap (λ (l : List ℕ). judged operator lead l true t) (sym (entry_rest lead text after o (drop (o.end + 1) bytes) rest is))
    ∙ ap (judged operator lead (drop o.count (drop (o.end + 1) bytes)) true) e
    ∙ sym (entry_more operator lead bytes waits s o some found)

-- ---- lines of which nothing is made

taken_none : (part : Part) → taken_for part [] ≡ None
taken_none Front = refl
taken_none Subrs = refl
taken_none Glyphs = refl
taken_none Misplaced = refl

plain_none : (operator : List ℕ) (lead : ℕ) (s : Standing) (taken : Option (List ℕ)) → taken ≡ None → outside_judged operator (entered operator lead (losing_maybe taken s) [] None None) [] ≡ s
plain_none operator lead s taken e = rw e refl

empty_none : (operator : List ℕ) (lead : ℕ) (waits : Bool) (s : Standing) → text_judged operator lead waits s [] ≡ s
empty_none operator lead true s = refl
empty_none operator lead false s = plain_none operator lead s (taken_for s.part []) (taken_none s.part)

-- an entry at the front of its line
pub stands_alone : (operator : List ℕ) (lead : ℕ) (waits : Bool) (s : Standing) (name : List ℕ) → entry_judged operator lead waits s [] name ≡ entry_stands name s
stands_alone operator lead waits s name = ap (entry_stands name) (empty_none operator lead waits s)

pub stands_first : (operator : List ℕ) (lead : ℕ) (waits : Bool) (s : Standing) (front name : List ℕ) → length front ≡ 0 → entry_judged operator lead waits s front name ≡ entry_stands name s
stands_first operator lead waits s [] name h = stands_alone operator lead waits s name
stands_first operator lead waits s (c ∷ front) name h = absurd (omega (arith, h))

-- a line on which no token begins as an operator, as a name, or as `dup`
other_word : (first b : ℕ) (t rest : List ℕ) → begins_by (is_other_byte first) t ≡ true → is_other_byte first b ≡ false → bytes_eq t (b ∷ rest) ≡ false
other_word first b [] rest h k = refl
other_word first b (c ∷ t) rest h k = elim (cases_Bool (c == b)) [
  | inl e ↦ absurd (let same : is_other_byte first b ≡ true = subst (λ (n : ℕ). is_other_byte first n ≡ true) (eqb-true c b e) h in let both : false ≡ true = sym k ∙ same in cc)
  | inr f ↦ rw f refl
]

first_off : (first : ℕ) → is_other_byte first first ≡ false
first_off first = let same : (first == first) ≡ true = eq-eqb first first refl in rw same (both_off (not (first == 47)) (not (first == 100)))
  where
    both_off : (a b : Bool) → (a && b && false) ≡ false
    both_off true true = refl
    both_off true false = refl
    both_off false b = refl

no_name : (first : ℕ) (t : List ℕ) → begins_by (is_other_byte first) t ≡ true → begins_with 47 t ≡ false
no_name first [] h = refl
no_name first (c ∷ t) h = elim (cases_Bool (47 == c)) [
  | inl e ↦ absurd (let same : is_other_byte first 47 ≡ true = subst (λ (n : ℕ). is_other_byte first n ≡ true) (sym (eqb-true 47 c e)) h in let both : false ≡ true = same in cc)
  | inr f ↦ f
]

like_off : (part : Part) (t : List ℕ) (ts : List (List ℕ)) → begins_with 47 t ≡ false → bytes_eq t (codes "dup") ≡ false → is_like_entry part t ts ≡ false
like_off Front t ts h k = refl
like_off Subrs t [] h k = refl
like_off Subrs t (n ∷ []) h k = refl
like_off Subrs t (n ∷ m ∷ []) h k = refl
like_off Subrs t (n ∷ m ∷ w ∷ more) h k = rw k refl
like_off Glyphs t [] h k = refl
like_off Glyphs t (n ∷ []) h k = refl
like_off Glyphs t (n ∷ w ∷ more) h k = rw h refl
like_off Misplaced t ts h k = refl

called_off : (name t : List ℕ) (ts : List (List ℕ)) → begins_with 47 t ≡ false → bytes_eq t (codes "dup") ≡ false → called name t ts ≡ name
called_off name t [] h k = rw h refl
called_off name t (u ∷ us) h k = rw (h, k) refl

words_quiet : (first : ℕ) (more : List ℕ) (part : Part) (name : List ℕ) (ts : List (ℕ × List ℕ)) → list_all (token_by (is_other_byte first)) ts ≡ true → read_outside (first ∷ more) part name (map (λ t. t.1) ts) ≡ None
words_quiet first more part name [] h = refl
words_quiet first more part name (t ∷ ts) h =
    let parts = and_parts (token_by (is_other_byte first) t) (list_all (token_by (is_other_byte first)) ts) h in
    let named = no_name first t.1 parts.0 in
    let numbered = other_word first 100 t.1 (codes "up") parts.0 (dup_off first) in
    rw (other_word first first t.1 more parts.0 (first_off first), like_off part t.1 (map (λ u. u.1) ts) named numbered, called_off name t.1 (map (λ u. u.1) ts) named numbered)
    (words_quiet first more part name ts parts.1)
  where
    dup_off : (first : ℕ) → is_other_byte first 100 ≡ false
    dup_off first = refl

pub line_quiet : (operator : List ℕ) (first : ℕ) (more : List ℕ) (part : Part) (name line : List ℕ) → operator ≡ first ∷ more → list_all (is_other_byte first) line ≡ true → read_outside operator part name (tokens line) ≡ None
line_quiet operator first more part name line e h =
    ap (λ (o : List ℕ). read_outside o part name (tokens line)) e ∙ words_quiet first more part name (places_from 0 line) (places_by (is_other_byte first) 0 line h)
