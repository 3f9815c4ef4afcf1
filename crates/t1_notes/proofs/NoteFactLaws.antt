-- What each note says holds of the text.
use Rattle.std.proofs.Common.{◌≡◌, ℕ, zero, suc, Bool, true, false, cond, not, ◌&&◌, ◌+◌, ◌<◌, List, [], ◌∷◌, ◌++◌, take, drop, Option, None, Some, refl, sym, ap, subst, inl, inr}
use Rattle.std.specs.Prelude.{◌==◌, codes, length, nat_le, nat_lt}
use Rattle.std.specs.List.{AllByRecursion, cons_option, list_any, starts_with}
use Rattle.std.specs.Str.{bytes_eq}
use Rattle.std.proofs.lemmas.Bool.{cases_Bool, leb-false}
use Rattle.t1_frac.specs.Numbers.{decimal_value}
use Rattle.t1_text.specs.Lines.{lines}
use Rattle.t1_text.specs.Tokens.{last_is, tokens}
use Rattle.t1_parts.specs.Encoding.{slot_of_tokens}
use Rattle.t1_code.specs.Words.{operator_named}
use Rattle.t1_code.specs.declared.command.Command.{Command}
use Rattle.t1_notes.specs.declared.line.Line.{Line}
use Rattle.t1_notes.specs.declared.note.Note.{Note}
use Rattle.t1_notes.specs.declared.note.NoteKind.{NoteKind}
use Rattle.t1_notes.specs.declared.note.NoteKind.TheVariants.{ByteOrderMark, FirstLine, EncodedName, PlainEntry, NoNotdef, NoEntry, AfterEnd, ValuesLeft, WideCoordinate, NegativeWidth, OpenPath}
use Rattle.t1_notes.specs.declared.sections.Section.{Section}
use Rattle.t1_notes.specs.declared.sections.Section.TheVariants.{Subrs, Glyphs}
use Rattle.t1_run.specs.Operands.{takes}
use Rattle.t1_notes.specs.CommandWords.{clears, is_hsbw, wants_closed}
use Rattle.t1_notes.specs.BodyWords.{body_notes, command_notes, is_open, is_past, nearest_is_below_zero, note_at, note_where, numbers_before, token_notes}
use Rattle.t1_notes.specs.GlyphNames.{has_line_of_glyph}
use Rattle.t1_notes.specs.Heads.{heads, leaves_entry_open}
use Rattle.t1_notes.specs.LineSections.{is_line_of_section, opens_entry_of, section_count}
use Rattle.t1_notes.specs.Merged.{before_note, merged}
use Rattle.t1_notes.specs.NoteFacts.{EncodesLost, HoldsOf, SaysOfLines, StandsOnLine, front_lines, glyph_heads, needed}
use Rattle.t1_notes.specs.Notes.{count_notes, encoding_lines, encoding_notes, follows_stray, glyph_notes, glyph_parts_notes, glyphs_need, is_end, is_font, is_lost, is_lost_slot, is_plain_entry, is_stray, late_notes, line_notes, noted, notdef_notes, notes_of, opening_notes, parted_notes, plain_notes, section_entry, stray_note, stray_notes, subr_notes, subrs_from, subrs_need, too_high, word_notes}
use Rattle.t1_notes.specs.NumberedLines.{before, from, lines_past, note_on, numbered}
use Rattle.t1_notes.specs.PlacedTokens.{PlacedToken, placed_tokens}
use Rattle.t1_notes.specs.Told.{told}

-- ---- all of a list

pub all_append : {X : Type 0} (P : X → Type 0) (xs ys : List X) → AllByRecursion P xs → AllByRecursion P ys → AllByRecursion P (xs ++ ys)
all_append P [] ys h k = k
all_append P (x ∷ xs) ys h k = (h.0, all_append P xs ys h.1 k)

all_taken : {X : Type 0} (P : X → Type 0) (n : ℕ) (xs : List X) → AllByRecursion P xs → AllByRecursion P (take n xs)
all_taken P zero xs h = tt
all_taken P (suc n) [] h = tt
all_taken P (suc n) (x ∷ xs) h = (h.0, all_taken P n xs h.1)

all_left : {X : Type 0} (P : X → Type 0) (n : ℕ) (xs : List X) → AllByRecursion P xs → AllByRecursion P (drop n xs)
all_left P zero xs h = h
all_left P (suc n) [] h = tt
all_left P (suc n) (x ∷ xs) h = all_left P n xs h.1

-- so are two lists of notes as one
pub all_merged : (P : Note → Type 0) (ns ms : List Note) → AllByRecursion P ns → AllByRecursion P ms → AllByRecursion P (merged ns ms)
all_merged P [] ms h k = k
all_merged P (n ∷ ns) ms h k =
    all_append P (take (before_note n ms) ms) (n ∷ merged ns (drop (before_note n ms) ms)) (all_taken P (before_note n ms) ms k)
    (h.0, all_merged P ns (drop (before_note n ms) ms) h.1 (all_left P (before_note n ms) ms k))

-- a note where there is reason for it
pub where_holds : (P : Note → Type 0) (b : Bool) (note : Note) → (b ≡ true → P note) → AllByRecursion P (note_where b note)
where_holds P true note h = (h refl, tt)
where_holds P false note h = tt

-- what is told of elements by those before
pub all_told : {X : Type 0} (P : Note → Type 0) (tell : List X → X → List Note) → ((before : List X) (x : X) → AllByRecursion P (tell before x)) → (before xs : List X)
    → AllByRecursion P (told tell before xs)
all_told P tell h before [] = tt
all_told P tell h before (x ∷ xs) = all_append P (tell before x) (told tell (x ∷ before) xs) (h before x) (all_told P tell h (x ∷ before) xs)

-- notes of a kind, each on a line that passes a test
pub all_noted : (P : Note → Type 0) (kind : NoteKind) (test : List ℕ → Bool) (ls : List Line) → ((l : Line) → P (note_on kind l)) → AllByRecursion P (noted kind test ls)
all_noted P kind test [] h = tt
all_noted P kind test (l ∷ ls) h = by (test l.text) (all_noted P kind test ls h) where
  by : (b : Bool) → AllByRecursion P (noted kind test ls) → AllByRecursion P (cons_option (cond b (Some (note_on kind l)) None) (noted kind test ls))
  by true below = (h l, below)
  by false below = below

-- ---- a note on a line that passes a test stands on it

pub stands_later : (Q : List ℕ → Type 0) (l : Line) (ls : List Line) (notes : List Note) → AllByRecursion (StandsOnLine Q ls) notes → AllByRecursion (StandsOnLine Q (l ∷ ls)) notes
stands_later Q l ls [] h = tt
stands_later Q l ls (n ∷ ns) h = (inr h.0, stands_later Q l ls ns h.1)

pub noted_stand : (Q : List ℕ → Type 0) (kind : NoteKind) (test : List ℕ → Bool) → ((l : List ℕ) → test l ≡ true → Q l) → (ls : List Line) → AllByRecursion (StandsOnLine Q ls) (noted kind test ls)
noted_stand Q kind test says [] = tt
noted_stand Q kind test says (l ∷ ls) = by (test l.text) refl (stands_later Q l ls (noted kind test ls) (noted_stand Q kind test says ls)) where
  by : (b : Bool) → test l.text ≡ b → AllByRecursion (StandsOnLine Q (l ∷ ls)) (noted kind test ls)
      → AllByRecursion (StandsOnLine Q (l ∷ ls)) (cons_option (cond b (Some (note_on kind l)) None) (noted kind test ls))
  by true e below = (inl (refl, says l.text e), below)
  by false e below = below

-- each of these notes has this kind
pub noted_kind : (kind : NoteKind) (test : List ℕ → Bool) (ls : List Line) → AllByRecursion (λ (n : Note). n.kind ≡ kind) (noted kind test ls)
noted_kind kind test ls = all_noted (λ (n : Note). n.kind ≡ kind) kind test ls (λ l. refl)

pub by_kind : (Says : NoteKind → Note → Type 0) (kind : NoteKind) (notes : List Note) → AllByRecursion (λ (n : Note). n.kind ≡ kind) notes → AllByRecursion (Says kind) notes
    → AllByRecursion (λ (n : Note). Says n.kind n) notes
by_kind Says kind [] h k = tt
by_kind Says kind (n ∷ ns) h k = (subst (λ x. Says x n) (sym h.0) k.0, by_kind Says kind ns h.1 k.1)

-- ---- the encoding

and_first : (a b : Bool) → (a && b) ≡ true → a ≡ true
and_first true b h = refl
and_first false b h = absurd (cc)

and_second : (a b : Bool) → (a && b) ≡ true → b ≡ true
and_second true b h = h
and_second false b h = absurd (cc)

not_so : (b : Bool) → not b ≡ true → b ≡ false
not_so true h = absurd (cc)
not_so false h = refl

lost_says : (glyphs : List Line) (l : List ℕ) → is_lost (has_line_of_glyph glyphs) l ≡ true → EncodesLost glyphs l
lost_says glyphs l h = by (slot_of_tokens (tokens l)) refl h where
  by : (o : Option (ℕ × List ℕ)) → slot_of_tokens (tokens l) ≡ o → is_lost_slot (has_line_of_glyph glyphs) o ≡ true → EncodesLost glyphs l
  by None e k = absurd (cc)
  by (Some slot) e k =
      let own = not (bytes_eq slot.1 (codes ".notdef")) in
      let gone = not (has_line_of_glyph glyphs slot.1) in
      (slot, e, not_so (bytes_eq slot.1 (codes ".notdef")) (and_first own gone k), not_so (has_line_of_glyph glyphs slot.1) (and_second own gone k))

-- ---- a text whose lines these are

module _ (ls : List Line) where
  abbrev Says : NoteKind → Note → Type 0
  Says = SaysOfLines ls

  abbrev Holds : Note → Type 0
  Holds n = Says n.kind n

  encoded_hold : AllByRecursion Holds (encoding_notes (has_line_of_glyph (glyph_heads ls)) (front_lines ls))
  encoded_hold =
      let test = is_lost (has_line_of_glyph (glyph_heads ls)) in
      let array = encoding_lines (front_lines ls) in
      by_kind Says EncodedName (noted EncodedName test array) (noted_kind EncodedName test array)
      (noted_stand (EncodesLost (glyph_heads ls)) EncodedName test (lost_says (glyph_heads ls)) array)

  high_hold : (section : Section) (l : Line) (need : ℕ) → need ≡ needed section ls → (o : Option (ℕ × List ℕ)) → section_count section l.text ≡ o → AllByRecursion Holds (too_high l o need)
  high_hold section l need is None e = tt
  high_hold section l need is (Some n) e = elim (cases_Bool (nat_le (decimal_value n.1) need)) [
    | inl low ↦ rw low tt
    | inr high ↦
        let more : needed section ls < decimal_value n.1 = subst (λ k. k < decimal_value n.1) is (leb-false (decimal_value n.1) need high) in
        rw high ((section, l, n, e, refl, refl, more), tt)
  ]

  count_hold : (section : Section) (l : Line) (need : ℕ) → need ≡ needed section ls → AllByRecursion Holds (count_notes section l need)
  count_hold section l need is = high_hold section l need is (section_count section l.text) refl

  subrs_hold : (later : List Line) → from (is_line_of_section Subrs) (front_lines ls) ≡ later → AllByRecursion Holds (subrs_from (before (is_line_of_section Subrs) (front_lines ls)) later)
  subrs_hold [] e = all_noted Holds PlainEntry (leaves_entry_open Subrs) (before (is_line_of_section Subrs) (front_lines ls)) (λ l. tt)
  subrs_hold (section ∷ later) e =
      let rest = heads Subrs later in
      let same : subrs_need rest ≡ needed Subrs ls = ap (λ xs. subrs_need (heads Subrs (drop 1 xs))) (sym e) in
      all_append Holds (section_entry section) (count_notes Subrs section (subrs_need rest) ++ plain_notes rest)
      (where_holds Holds (last_is (codes "{") (tokens section.text)) (note_on PlainEntry section) (λ k. tt))
      (all_append Holds (count_notes Subrs section (subrs_need rest)) (plain_notes rest) (count_hold Subrs section (subrs_need rest) same)
      (all_noted Holds PlainEntry is_plain_entry rest (λ l. tt)))

  glyphs_hold : (section : Line) (is_there : List ℕ → Bool) (late : List Line) → AllByRecursion Holds (glyph_notes is_there section (glyph_heads ls) late)
  glyphs_hold section is_there late =
      let rest = glyph_heads ls in
      all_append Holds (notdef_notes is_there section) (count_notes Glyphs section (glyphs_need rest) ++ (stray_notes rest ++ late_notes late))
      (where_holds Holds (not (is_there (codes ".notdef"))) (note_on NoNotdef section) (λ k. tt))
      (all_append Holds (count_notes Glyphs section (glyphs_need rest)) (stray_notes rest ++ late_notes late) (count_hold Glyphs section (glyphs_need rest) refl)
      (all_append Holds (stray_notes rest) (late_notes late)
      (all_told Holds (λ before l. stray_note (follows_stray before) l) (λ before l. where_holds Holds (is_stray l.text && not (follows_stray before)) (note_on NoEntry l) (λ k. tt)) [] rest)
      (all_noted Holds AfterEnd (opens_entry_of Glyphs) late (λ l. tt))))

  parted_hold : (later : List Line) → from (is_line_of_section Glyphs) ls ≡ later → AllByRecursion Holds (parted_notes (front_lines ls) later)
  parted_hold [] e = tt
  parted_hold (section ∷ later) e =
      let same : glyph_heads ls ≡ before is_end (heads Glyphs later) = ap (λ xs. before is_end (heads Glyphs (drop 1 xs))) e in
      subst (λ hs. AllByRecursion Holds (glyph_parts_notes (has_line_of_glyph hs) (front_lines ls) section hs (from is_end (heads Glyphs later)))) same
      (all_append Holds (merged (encoding_notes (has_line_of_glyph (glyph_heads ls)) (front_lines ls)) (subr_notes (front_lines ls)))
      (glyph_notes (has_line_of_glyph (glyph_heads ls)) section (glyph_heads ls) (from is_end (heads Glyphs later)))
      (all_merged Holds (encoding_notes (has_line_of_glyph (glyph_heads ls)) (front_lines ls)) (subr_notes (front_lines ls)) encoded_hold
      (subrs_hold (from (is_line_of_section Subrs) (front_lines ls)) refl))
      (glyphs_hold section (has_line_of_glyph (glyph_heads ls)) (from is_end (heads Glyphs later))))

  -- the notes on words say nothing here
  four_hold : (a b c d : Bool) (m n o p : Note) → Holds m → Holds n → Holds o → Holds p → AllByRecursion Holds (note_where a m ++ (note_where b n ++ (note_where c o ++ note_where d p)))
  four_hold a b c d m n o p hm hn ho hp =
      all_append Holds (note_where a m) (note_where b n ++ (note_where c o ++ note_where d p)) (where_holds Holds a m (λ k. hm))
      (all_append Holds (note_where b n) (note_where c o ++ note_where d p) (where_holds Holds b n (λ k. hn))
      (all_append Holds (note_where c o) (note_where d p) (where_holds Holds c o (λ k. ho)) (where_holds Holds d p (λ k. hp))))

  command_hold : (t : PlacedToken) (numbers : List (List ℕ)) (path : Bool) (o : Option Command) → AllByRecursion Holds (command_notes t numbers path o)
  command_hold t numbers path None = tt
  command_hold t numbers path (Some c) =
      four_hold (clears c && nat_lt (takes c) (length numbers)) (clears c && list_any (is_past 16000) numbers) (is_hsbw c && nearest_is_below_zero numbers) (wants_closed c && path)
      (note_at t.line t.column ValuesLeft) (note_at t.line t.column WideCoordinate) (note_at t.line t.column NegativeWidth) (note_at t.line t.column OpenPath) tt tt tt tt

  body_hold : (body : List Line) → AllByRecursion Holds (body_notes body)
  body_hold body = all_told Holds token_notes (λ before t. command_hold t (numbers_before before) (is_open before) (operator_named t.token)) [] (placed_tokens body)

  words_hold : AllByRecursion Holds (word_notes ls)
  words_hold =
      let subrs = lines_past (is_line_of_section Subrs) (before (is_line_of_section Glyphs) ls) in
      let glyphs = lines_past (is_line_of_section Glyphs) ls in
      all_append Holds (body_notes subrs) (body_notes glyphs) (body_hold subrs) (body_hold glyphs)

  opening_hold : (text : List ℕ) → AllByRecursion Holds (opening_notes text)
  opening_hold text = by (is_font text) (starts_with (λ x y. x == y) text (239 ∷ 187 ∷ 191 ∷ [])) where
    by : (a b : Bool) → AllByRecursion Holds (cond a [] (record { kind = cond b ByteOrderMark FirstLine; line = 1; column = 1 } ∷ []))
    by true b = tt
    by false true = (tt, tt)
    by false false = (tt, tt)

pub all_hold : (text : List ℕ) → AllByRecursion (HoldsOf text) (notes_of text)
unfolding notes_of
all_hold text =
    let ls = numbered 1 (lines text) in
    all_merged (HoldsOf text) (opening_notes text ++ line_notes ls) (word_notes ls)
    (all_append (HoldsOf text) (opening_notes text) (line_notes ls) (opening_hold ls text) (parted_hold ls (from (is_line_of_section Glyphs) ls) refl))
    (words_hold ls)
