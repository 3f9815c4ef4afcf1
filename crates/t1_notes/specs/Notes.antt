-- The notes on a text: what is no fault and is most likely a mistake.
use Rattle.std.specs.Prelude.{ℕ, Bool, false, not, ◌+◌, ◌||◌, ◌&&◌, ◌==◌, nat_le, max, if◌then◌else◌, Option, Some, None, is_none, is_some, List, [], ◌∷◌, ◌++◌, codes, filter_map, count_by}
use Rattle.std.specs.List.{starts_with}
use Rattle.std.specs.Str.{bytes_eq}
use Rattle.t1_frac.specs.Numbers.{decimal_value}
use Rattle.t1_text.specs.Lines.{lines}
use Rattle.t1_text.specs.Names.{decimal_of, up_to}
use Rattle.t1_text.specs.Tokens.{first_is, first_token, last_is, places_from, tokens}
use Rattle.t1_parts.specs.Encoding.{ends_array, slot_of_tokens}
use Rattle.t1_parts.specs.Entries.{opens_subr}
use Rattle.t1_parts.specs.Sections.{count_between}
use Rattle.t1_notes.specs.declared.line.Line.{Line}
use Rattle.t1_notes.specs.declared.note.Note.{Note}
use Rattle.t1_notes.specs.declared.note.NoteKind.{NoteKind}
use Rattle.t1_notes.specs.declared.note.NoteKind.TheVariants.{ByteOrderMark, FirstLine, EncodedName, Count, PlainEntry, NoNotdef, NoEntry, AfterEnd}
use Rattle.t1_notes.specs.declared.sections.Section.{Section}
use Rattle.t1_notes.specs.declared.sections.Section.TheVariants.{Subrs, Glyphs}
use Rattle.t1_notes.specs.BodyWords.{body_notes, note_where}
use Rattle.t1_notes.specs.GlyphNames.{has_line_of_glyph}
use Rattle.t1_notes.specs.Heads.{leaves_entry_open, has_open, heads}
use Rattle.t1_notes.specs.LineSections.{is_line_of_section, opens_entry_of, section_count}
use Rattle.t1_notes.specs.Merged.{merged}
use Rattle.t1_notes.specs.NumberedLines.{before, from, lines_past, note_on, numbered}
use Rattle.t1_notes.specs.Told.{told}

-- profile, notes: a note of a kind on each line whose text passes a test
abbrev pub noted : NoteKind → (List ℕ → Bool) → List Line → List Note
noted kind test ls = filter_map (λ l. if test l.text then Some (note_on kind l) else None) ls

-- Type 1 Font Format, Chapter 2: whether a text begins as programs know a Type 1 font
abbrev pub is_font : List ℕ → Bool
is_font text = starts_with (λ x y. x == y) text (codes "%!PS-AdobeFont") || starts_with (λ x y. x == y) text (codes "%!FontType1")

-- profile, notes: a text may begin with the byte order mark of UTF-8
abbrev pub opening_kind : List ℕ → NoteKind
opening_kind text = if starts_with (λ x y. x == y) text (239 ∷ 187 ∷ 191 ∷ []) then ByteOrderMark else FirstLine

-- profile, notes: how a text begins
abbrev pub opening_notes : List ℕ → List Note
opening_notes text = if is_font text then [] else record { kind = opening_kind text; line = 1; column = 1 } ∷ []

-- Type 1 Font Format, Chapter 2: a line that holds `/Encoding` N `array`
abbrev pub opens_array : List ℕ → Bool
opens_array l = is_some (count_between (codes "/Encoding") (codes "array") (places_from 0 l))

-- profile, notes: the lines of the encoding array
abbrev pub encoding_lines : List Line → List Line
encoding_lines ls = before ends_array (lines_past opens_array ls)

-- profile, notes: whether a slot's glyph is neither there nor `.notdef`
abbrev pub is_lost_slot : (List ℕ → Bool) → Option (ℕ × List ℕ) → Bool
is_lost_slot is_there None = false
is_lost_slot is_there (Some slot) = not (bytes_eq slot.1 (codes ".notdef")) && not (is_there slot.1)

-- profile, notes: whether a line is such a slot
abbrev pub is_lost : (List ℕ → Bool) → List ℕ → Bool
is_lost is_there l = is_lost_slot is_there (slot_of_tokens (tokens l))

-- profile, notes: the slots of the encoding array whose glyphs aren't there
abbrev pub encoding_notes : (List ℕ → Bool) → List Line → List Note
encoding_notes is_there ls = noted EncodedName (is_lost is_there) (encoding_lines ls)

-- profile, notes: a number plus one
abbrev pub past_number : Option ℕ → ℕ
past_number None = 0
past_number (Some n) = n + 1

-- profile, notes: what the Subr whose number is this token needs of the count
abbrev pub number_need : Option (List ℕ) → ℕ
number_need None = 0
number_need (Some t) = past_number (up_to 32000 (decimal_of t))

-- profile, notes: the number of the Subr that a line opens plus one
abbrev pub subr_need : List ℕ → ℕ
subr_need l = number_need (opens_subr (tokens l))

-- profile, notes: the highest number of a Subr plus one
abbrev pub subrs_need : List Line → ℕ
subrs_need [] = 0
subrs_need (l ∷ ls) = max (subr_need l.text) (subrs_need ls)

-- profile, notes: the number of glyphs
abbrev pub glyphs_need : List Line → ℕ
glyphs_need heads = count_by (λ l. opens_entry_of Glyphs l.text) heads

-- profile, notes: a count that is higher than what is needed
abbrev pub too_high : Line → Option (ℕ × List ℕ) → ℕ → List Note
too_high l None need = []
too_high l (Some n) need = if nat_le (decimal_value n.1) need then [] else record { kind = Count; line = l.number; column = n.0 + 1 } ∷ []

-- profile, notes: the count of a section line
abbrev pub count_notes : Section → Line → ℕ → List Note
count_notes section l need = too_high l (section_count section l.text) need

-- profile, notes: whether a line looks like the entry of a Subr, and opens none
abbrev pub is_plain_entry : List ℕ → Bool
is_plain_entry l = not (opens_entry_of Subrs l) && (first_is (codes "dup") (tokens l) || has_open l)

-- profile, notes: such lines
abbrev pub plain_notes : List Line → List Note
plain_notes heads = noted PlainEntry is_plain_entry heads

-- profile, notes: the line of the section itself, where an entry begins at its end
abbrev pub section_entry : Line → List Note
section_entry section = note_where (last_is (codes "{") (tokens section.text)) (note_on PlainEntry section)

-- profile, notes: the lines that open a Subr which goes on, where no section has them
abbrev pub lost_notes : List Line → List Note
lost_notes ls = noted PlainEntry (leaves_entry_open Subrs) ls

-- profile, notes: the lines before the section of the Subrs, and those from its line on, without which the first are all
abbrev pub subrs_from : List Line → List Line → List Note
subrs_from early [] = lost_notes early
subrs_from early (section ∷ later) =
    section_entry section ++ (count_notes Subrs section (subrs_need (heads Subrs later)) ++ plain_notes (heads Subrs later))

-- profile, notes: the Subrs of the lines before the glyphs
abbrev pub subr_notes : List Line → List Note
subr_notes ls = subrs_from (before (is_line_of_section Subrs) ls) (from (is_line_of_section Subrs) ls)

-- Type 1 Font Format, Chapter 2: the line that ends the glyphs
abbrev pub is_end : List ℕ → Bool
is_end l = first_is (codes "end") (tokens l)

-- profile, notes: whether a line has nothing but blanks and a comment
abbrev pub is_bare : List ℕ → Bool
is_bare l = is_none (first_token (tokens l))

-- Type 1 Font Format, Chapter 2: each font has a glyph `.notdef`
abbrev pub notdef_notes : (List ℕ → Bool) → Line → List Note
notdef_notes is_there section = note_where (not (is_there (codes ".notdef"))) (note_on NoNotdef section)

-- profile, notes: whether a line belongs to no glyph, and isn't bare
abbrev pub is_stray : List ℕ → Bool
is_stray l = not (opens_entry_of Glyphs l || is_bare l)

-- profile, notes: whether the nearest of some lines that isn't bare, of which the last comes first, belongs to no glyph
abbrev pub follows_stray : List Line → Bool
follows_stray [] = false
follows_stray (l ∷ before) = if is_bare l.text then follows_stray before else is_stray l.text

-- profile, notes: the note on a line that belongs to no glyph, unless it follows another
abbrev pub stray_note : Bool → Line → List Note
stray_note follows l = note_where (is_stray l.text && not follows) (note_on NoEntry l)

-- profile, notes: the lines that belong to no glyph: the first of those that follow one another
abbrev pub stray_notes : List Line → List Note
stray_notes heads = told (λ before l. stray_note (follows_stray before) l) [] heads

-- profile, notes: the glyphs after the line that ends the glyphs
abbrev pub late_notes : List Line → List Note
late_notes heads = noted AfterEnd (opens_entry_of Glyphs) heads

-- profile, notes: the section of the glyphs, by its lines to the one that ends the glyphs, and those from there on
abbrev pub glyph_notes : (List ℕ → Bool) → Line → List Line → List Line → List Note
glyph_notes is_there section heads late =
    notdef_notes is_there section
    ++ (count_notes Glyphs section (glyphs_need heads) ++ (stray_notes heads ++ late_notes late))

-- profile, notes: the lines before the glyphs and the section of the glyphs, by which glyphs are there
abbrev pub glyph_parts_notes : (List ℕ → Bool) → List Line → Line → List Line → List Line → List Note
glyph_parts_notes is_there front section heads late = merged (encoding_notes is_there front) (subr_notes front) ++ glyph_notes is_there section heads late

-- profile, notes: the same, by the lines of the section that stand inside no glyph
abbrev pub section_notes : List Line → Line → List Line → List Note
section_notes front section heads =
    glyph_parts_notes (has_line_of_glyph (before is_end heads)) front section (before is_end heads) (from is_end heads)

-- profile, notes: the lines before the glyphs, and those from the line of their section on, without which nothing is noted
abbrev pub parted_notes : List Line → List Line → List Note
parted_notes front [] = []
parted_notes front (section ∷ later) = section_notes front section (heads Glyphs later)

-- profile, notes: the notes on lines
abbrev pub line_notes : List Line → List Note
line_notes ls = parted_notes (before (is_line_of_section Glyphs) ls) (from (is_line_of_section Glyphs) ls)

-- profile, notes: the notes on the bodies of both sections
abbrev pub word_notes : List Line → List Note
word_notes ls = body_notes (lines_past (is_line_of_section Subrs) (before (is_line_of_section Glyphs) ls)) ++ body_notes (lines_past (is_line_of_section Glyphs) ls)

-- profile, notes: the notes on a text, in the order of their places
unfoldable pub notes_of : List ℕ → List Note
notes_of text = merged (opening_notes text ++ line_notes (numbered 1 (lines text))) (word_notes (numbered 1 (lines text)))
