-- What a note says of a text, by its kind.
use Rattle.std.specs.Prelude.{◌≡◌, ◌<◌, ◌⊎◌, ◌+◌, ℕ, false, Some, List, [], ◌∷◌, codes}
use Rattle.std.specs.Str.{bytes_eq}
use Rattle.t1_frac.specs.Numbers.{decimal_value}
use Rattle.t1_text.specs.Lines.{lines}
use Rattle.t1_text.specs.Tokens.{tokens}
use Rattle.t1_parts.specs.Encoding.{slot_of_tokens}
use Rattle.t1_notes.specs.declared.line.Line.{Line}
use Rattle.t1_notes.specs.declared.note.Note.{Note}
use Rattle.t1_notes.specs.declared.note.NoteKind.{NoteKind}
use Rattle.t1_notes.specs.declared.note.NoteKind.TheVariants.{EncodedName, Count, NoSuchGlyph, UnusedSubr, FontBox, WideGlyph}
use Rattle.t1_notes.specs.declared.sections.Section.{Section}
use Rattle.t1_notes.specs.declared.sections.Section.TheVariants.{Subrs, Glyphs}
use Rattle.t1_notes.specs.GlyphNames.{has_line_of_glyph}
use Rattle.t1_notes.specs.Heads.{heads}
use Rattle.t1_notes.specs.LineSections.{is_line_of_section, section_count}
use Rattle.t1_notes.specs.Notes.{encoding_lines, glyphs_need, is_end, subrs_need}
use Rattle.t1_notes.specs.NumberedLines.{before, lines_past, numbered}

-- profile, notes: a note stands on one of these lines, which is so
abbrev pub StandsOnLine : (List ℕ → Type 0) → List Line → Note → Type 0
StandsOnLine P [] note = ⊥
StandsOnLine P (l ∷ ls) note = ((note.line ≡ l.number) × P l.text) ⊎ StandsOnLine P ls note

-- ---- the lines of a text

-- profile, notes: the lines before the section of the glyphs
abbrev pub front_lines : List Line → List Line
front_lines ls = before (is_line_of_section Glyphs) ls

-- profile, notes: the lines of the section of the Subrs that stand inside no entry
abbrev pub subr_heads : List Line → List Line
subr_heads ls = heads Subrs (lines_past (is_line_of_section Subrs) (front_lines ls))

-- profile, notes: the lines of the section of the glyphs that stand inside no entry, to the line that ends the glyphs
abbrev pub glyph_heads : List Line → List Line
glyph_heads ls = before is_end (heads Glyphs (lines_past (is_line_of_section Glyphs) ls))

-- profile, notes: what the count of a section must be at least: past the highest number of a Subr, or the number of glyphs
abbrev pub needed : Section → List Line → ℕ
needed Subrs ls = subrs_need (subr_heads ls)
needed Glyphs ls = glyphs_need (glyph_heads ls)

-- ---- what the kinds say

-- profile, notes: a line puts into a slot a glyph that isn't called `.notdef`, and for which there is no line
abbrev pub EncodesLost : List Line → List ℕ → Type 0
EncodesLost glyphs l =
    (slot : ℕ × List ℕ) × (slot_of_tokens (tokens l) ≡ Some slot) × (bytes_eq slot.1 (codes ".notdef") ≡ false) × (has_line_of_glyph glyphs slot.1 ≡ false)

-- profile, notes: encoded-name: the note stands on a line of the encoding array whose glyph isn't there
abbrev pub NamesLost : List Line → Note → Type 0
NamesLost ls note = StandsOnLine (EncodesLost (glyph_heads ls)) (encoding_lines (front_lines ls)) note

-- profile, notes: count: the note stands at the count on the line of a section, and the count is higher than what is needed
abbrev pub CountsMore : List Line → Note → Type 0
CountsMore ls note =
    (section : Section) × (l : Line) × (found : ℕ × List ℕ)
    × (section_count section l.text ≡ Some found) × (note.line ≡ l.number) × (note.column ≡ found.0 + 1) × (needed section ls < decimal_value found.1)

-- profile, notes: what a note of a kind says of lines, of two kinds that have a short law; kinds that stand on pairs or on runs are
-- not among the notes on lines
abbrev pub SaysOfLines : List Line → NoteKind → Note → Type 0
SaysOfLines ls EncodedName note = NamesLost ls note
SaysOfLines ls Count note = CountsMore ls note
SaysOfLines ls NoSuchGlyph note = ⊥
SaysOfLines ls UnusedSubr note = ⊥
SaysOfLines ls FontBox note = ⊥
SaysOfLines ls WideGlyph note = ⊥
SaysOfLines ls kind note = Unit {0}

-- profile, notes: what a note says holds of the text
abbrev pub HoldsOf : List ℕ → Note → Type 0
HoldsOf text note = SaysOfLines (numbered 1 (lines text)) note.kind note
