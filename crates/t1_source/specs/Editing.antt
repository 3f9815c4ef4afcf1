-- Edits of a source and its kerning pairs.
use Rattle.std.specs.Prelude.{ℕ, Bool, true, false, not, ◌+◌, ◌-◌, ◌||◌, ◌==◌, nat_le, ℤ, pos, negsuc, if◌then◌else◌, Option, Some, None, Result, Ok, Err, ok_or, option_map, unwrap_or, List, [], ◌∷◌, ◌++◌, length, take, drop, reverse, filter, codes, flat_map, decimal}
use Rattle.std.specs.List.{list_any, find, position, position_or_len, insert, remove, slice_set, slice_index_or}
use Rattle.t1_frac.specs.Outcome.{◌>>=◌}
use Rattle.t1_frac.specs.Words.{words}
use Rattle.t1_parts.specs.declared.item.Item.{Item}
use Rattle.t1_parts.specs.declared.item.Item.TheVariants.{Plain, Section, Subr, Glyph}
use Rattle.t1_pairs.specs.declared.pairs.Pair.{Pair}
use Rattle.t1_source.specs.declared.edit.Edit.{Edit}
use Rattle.t1_source.specs.declared.edit.Edit.TheVariants.{ReplaceGlyph, AddGlyph, RemoveGlyph, ReplaceSubr, AddSubr, RemoveSubr, Encode, Unencode, LenIv, Kern, Unkern}
use Rattle.t1_source.specs.declared.edit.Rule.{Rule}
use Rattle.t1_source.specs.declared.edit.Rule.TheVariants.{E1, E2, E3, E4, E5, E6, E9, E10}
use Rattle.t1_parts.specs.SourceParts.{SourceParts}
use Rattle.t1_text.specs.Lines.{lines}
use Rattle.t1_text.specs.Tokens.{tokens, uncommented}
use Rattle.t1_text.specs.Names.{is_name}
use Rattle.t1_parts.specs.Encoding.{opens_encoding, chooses_standard, array_lines, slot_of_tokens}
use Rattle.t1_parts.specs.Sections.{is_subrs_line, is_glyphs_line}
use Rattle.t1_parts.specs.Entries.{has_brace, is_subr, is_glyph}
use Rattle.t1_parts.specs.Counts.{is_glyph_entry, raised}
use Rattle.t1_pairs.specs.Kerning.{is_kerning_value, is_pair, put_pair}
use Rattle.t1_source.specs.Leads.{items_with_lead}

-- profile, edits: a rule that is broken where the test fails
abbrev pub keeps : Rule → Bool → Result (Unit {0}) Rule
keeps rule true = Ok tt
keeps rule false = Err rule

-- profile, edits: a number from 0 to the limit
abbrev pub number_up_to : ℕ → ℤ → Result ℕ Rule
number_up_to limit (pos n) = if nat_le n limit then Ok n else Err E4
number_up_to limit (negsuc n) = Err E4

-- profile, edits: whether a body has `{` or `}` outside its comments
abbrev pub braced : List ℕ → Bool
braced body = list_any has_brace (lines body)

-- profile, entries: the words of a body without its comments
abbrev pub body_words : List ℕ → List (List ℕ)
body_words body = flat_map (λ l. words (uncommented l)) (lines body)

-- profile, edits: a name, or E3
abbrev pub good_name : List ℕ → Result (Unit {0}) Rule
good_name g = keeps E3 (is_name g)

-- profile, edits: a body without braces, or E6
abbrev pub good_body : List ℕ → Result (Unit {0}) Rule
good_body body = keeps E6 (not (braced body))

-- profile, edits: the source with these items, and their counts raised
abbrev pub with_items : SourceParts → List Item → SourceParts
with_items s items = record { clear = s.clear; items = raised items; tail = s.tail }

-- profile, edits: the source with these clear lines
abbrev pub with_clear : SourceParts → List (List ℕ) → SourceParts
with_clear s clear = record { clear = clear; items = s.items; tail = s.tail }

-- profile, edits: the closing text of an entry
abbrev pub closing_of : Item → List ℕ
closing_of (Plain l) = []
closing_of (Section before n after) = []
closing_of (Subr n ws closing) = closing
closing_of (Glyph g ws closing) = closing

-- profile, edits: the closing text of the item at a place
abbrev pub closing_at : ℕ → List Item → List ℕ
closing_at at items = closing_of (slice_index_or items at (Plain []))

-- profile, edits: a new entry's closing text is that of its section's first entry
abbrev pub closing_among : (Item → Bool) → List ℕ → List Item → List ℕ
closing_among test otherwise items = unwrap_or (option_map closing_of (find test items)) otherwise

-- profile, edits: how many items stand through the last that passes the test; 0 where none does
unfoldable pub through_last : {X : Type 0} → (X → Bool) → List X → ℕ
through_last test xs = length xs - position_or_len test (reverse xs)

-- profile, edits: whether an item is a Subr
abbrev pub is_subr_entry : Item → Bool
is_subr_entry (Subr n ws closing) = true
is_subr_entry _ = false

-- profile, edits: a new Subr goes directly after the last Subr, or after the section line
unfoldable pub among_subrs_items : Item → Bool
among_subrs_items i = is_subr_entry i || is_subrs_line i

-- profile, edits: a new glyph goes directly after the last glyph, or after the section line
unfoldable pub among_glyphs_items : Item → Bool
among_glyphs_items i = is_glyph_entry i || is_glyphs_line i

-- profile, edits: a replaced glyph keeps its place and its closing text
unfoldable pub replaced_glyph : SourceParts → List ℕ → List ℕ → Result SourceParts Rule
replaced_glyph s g body = do
  named ← good_name g
  closed ← good_body body
  at ← ok_or (position (is_glyph g) s.items) E1
  Ok (with_items s (slice_set s.items at (Glyph g (body_words body) (closing_at at s.items))))

-- profile, edits: a new glyph
unfoldable pub added_glyph : SourceParts → List ℕ → List ℕ → Result SourceParts Rule
added_glyph s g body = do
  named ← good_name g
  closed ← good_body body
  fresh ← keeps E2 (not (list_any (is_glyph g) s.items))
  Ok (with_items s (insert s.items (through_last among_glyphs_items s.items) (Glyph g (body_words body) (closing_among is_glyph_entry (codes "noaccess def") s.items))))

-- profile, edits: a glyph taken out; pairs and slots that name it stay
unfoldable pub removed_glyph : SourceParts → List ℕ → Result SourceParts Rule
removed_glyph s g = do
  named ← good_name g
  at ← ok_or (position (is_glyph g) s.items) E1
  Ok (with_items s (remove s.items at))

-- profile, edits: E9 where the font has no Subrs section
abbrev pub has_section : SourceParts → Result (Unit {0}) Rule
has_section s = keeps E9 (list_any is_subrs_line s.items)

-- profile, edits: a replaced Subr keeps its place and its closing text
unfoldable pub replaced_subr : SourceParts → ℤ → List ℕ → Result SourceParts Rule
replaced_subr s number body = do
  n ← number_up_to 32000 number
  closed ← good_body body
  section ← has_section s
  at ← ok_or (position (is_subr n) s.items) E1
  Ok (with_items s (slice_set s.items at (Subr n (body_words body) (closing_at at s.items))))

-- profile, edits: a new Subr
unfoldable pub added_subr : SourceParts → ℤ → List ℕ → Result SourceParts Rule
added_subr s number body = do
  n ← number_up_to 32000 number
  closed ← good_body body
  section ← has_section s
  fresh ← keeps E2 (not (list_any (is_subr n) s.items))
  Ok (with_items s (insert s.items (through_last among_subrs_items s.items) (Subr n (body_words body) (closing_among is_subr_entry (codes "noaccess put") s.items))))

-- profile, edits: a Subr taken out
unfoldable pub removed_subr : SourceParts → ℤ → Result SourceParts Rule
removed_subr s number = do
  n ← number_up_to 32000 number
  section ← has_section s
  at ← ok_or (position (is_subr n) s.items) E1
  Ok (with_items s (remove s.items at))

-- profile, edits: the clear lines before those of an array, those of the array, and those after them
pub record ArrayParts : Type 0 where
  pub front : List (List ℕ)
  pub lines : List (List ℕ)
  pub back : List (List ℕ)

-- profile, edits: the array among the clear lines; E5 where the encoding is none
unfoldable pub array_parts : List (List ℕ) → Result ArrayParts Rule
array_parts clear = do
  chosen ← keeps E5 (not (list_any chooses_standard clear))
  at ← ok_or (position opens_encoding clear) E5
  Ok (record {
    front = take (at + 1) clear;
    lines = array_lines (drop at clear);
    back = drop (length (array_lines (drop at clear))) (drop (at + 1) clear);
  })

-- profile, encoding: whether a line is a slot whose code passes the test
abbrev pub slot_test : (ℕ → Bool) → Option (ℕ × List ℕ) → Bool
slot_test test None = false
slot_test test (Some slot) = test slot.0

-- profile, encoding: whether a line is a slot
unfoldable pub is_slot : List ℕ → Bool
is_slot l = slot_test (λ code. true) (slot_of_tokens (tokens l))

-- profile, encoding: whether a line is a slot of this code
unfoldable pub is_slot_of : ℕ → List ℕ → Bool
is_slot_of code l = slot_test (λ other. other == code) (slot_of_tokens (tokens l))

-- Type 1 Font Format, encoding: the line of a new slot
abbrev pub slot_line : ℕ → List ℕ → List ℕ
slot_line code g = codes "dup " ++ decimal code ++ codes " /" ++ g ++ codes " put"

-- profile, edits: the last slot of the code replaced; else a slot after the last one; else one at the array's end
abbrev pub encoded_lines : ℕ → List ℕ → List (List ℕ) → List (List ℕ)
encoded_lines code g ls =
    if nat_le 1 (through_last (is_slot_of code) ls) then slice_set ls (through_last (is_slot_of code) ls - 1) (slot_line code g)
    else if nat_le 1 (through_last is_slot ls) then insert ls (through_last is_slot ls) (slot_line code g)
    else ls ++ slot_line code g ∷ []

-- profile, edits: a code encoded
unfoldable pub encoded : SourceParts → ℤ → List ℕ → Result SourceParts Rule
encoded s number g = do
  named ← good_name g
  code ← number_up_to 255 number
  array ← array_parts s.clear
  Ok (with_clear s (array.front ++ encoded_lines code g array.lines ++ array.back))

-- profile, edits: all slots of a code taken out
unfoldable pub unencoded : SourceParts → ℤ → Result SourceParts Rule
unencoded s number = do
  code ← number_up_to 255 number
  array ← array_parts s.clear
  some ← keeps E10 (list_any (is_slot_of code) array.lines)
  Ok (with_clear s (array.front ++ filter (λ l. not (is_slot_of code l)) array.lines ++ array.back))

-- profile, edits: lenIV from 0 to 64
unfoldable pub lead_edited : SourceParts → ℤ → Result SourceParts Rule
lead_edited s number = do
  n ← number_up_to 64 number
  Ok (with_items s (items_with_lead n s.items))

-- profile, edits: a kerning value from -32000 to 32000
abbrev pub kerning_number : ℤ → Result ℤ Rule
kerning_number v = if is_kerning_value v then Ok v else Err E4

-- profile, edits: a pair put in, or given another value
unfoldable pub kerned : List Pair → List ℕ → List ℕ → ℤ → Result (List Pair) Rule
kerned k left right v = do
  named ← good_name left
  also ← good_name right
  value ← kerning_number v
  Ok (put_pair (record { left = left; right = right; value = value }) k)

-- profile, edits: a pair taken out
unfoldable pub unkerned : List Pair → List ℕ → List ℕ → Result (List Pair) Rule
unkerned k left right = do
  named ← good_name left
  also ← good_name right
  at ← ok_or (position (is_pair left right) k) E10
  Ok (remove k at)

-- profile, edits: an edit of the source alone
abbrev pub beside_pairs : List Pair → Result SourceParts Rule → Result (SourceParts × List Pair) Rule
beside_pairs k given = given >>= λ s. Ok (s, k)

-- profile, edits: an edit of the pairs alone
abbrev pub beside_source : SourceParts → Result (List Pair) Rule → Result (SourceParts × List Pair) Rule
beside_source s given = given >>= λ k. Ok (s, k)

-- profile, edits: the source and the pairs after an edit, or the first broken rule
unfoldable pub edited : SourceParts → List Pair → Edit → Result (SourceParts × List Pair) Rule
edited s k (ReplaceGlyph g body) = beside_pairs k (replaced_glyph s g body)
edited s k (AddGlyph g body) = beside_pairs k (added_glyph s g body)
edited s k (RemoveGlyph g) = beside_pairs k (removed_glyph s g)
edited s k (ReplaceSubr n body) = beside_pairs k (replaced_subr s n body)
edited s k (AddSubr n body) = beside_pairs k (added_subr s n body)
edited s k (RemoveSubr n) = beside_pairs k (removed_subr s n)
edited s k (Encode code g) = beside_pairs k (encoded s code g)
edited s k (Unencode code) = beside_pairs k (unencoded s code)
edited s k (LenIv n) = beside_pairs k (lead_edited s n)
edited s k (Kern left right v) = beside_source s (kerned k left right v)
edited s k (Unkern left right) = beside_source s (unkerned k left right)
