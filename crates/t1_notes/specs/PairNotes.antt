-- The notes on a kerning file: pairs of glyphs that a source doesn't have.
use Rattle.std.specs.Prelude.{ℕ, Bool, not, ◌+◌, if◌then◌else◌, List, [], ◌∷◌, ◌++◌, codes, flat_map}
use Rattle.std.specs.Str.{bytes_eq}
use Rattle.t1_text.specs.Lines.{lines}
use Rattle.t1_text.specs.Tokens.{places_from}
use Rattle.t1_notes.specs.declared.line.Line.{Line}
use Rattle.t1_notes.specs.declared.note.Note.{Note}
use Rattle.t1_notes.specs.declared.note.NoteKind.TheVariants.{NoSuchGlyph}
use Rattle.t1_notes.specs.declared.sections.Section.TheVariants.{Glyphs}
use Rattle.t1_notes.specs.BodyWords.{note_at, note_where}
use Rattle.t1_notes.specs.GlyphNames.{has_line_of_glyph}
use Rattle.t1_notes.specs.Heads.{heads}
use Rattle.t1_notes.specs.LineSections.{is_line_of_section}
use Rattle.t1_notes.specs.Notes.{is_end}
use Rattle.t1_notes.specs.NumberedLines.{before, from, numbered}

-- profile, notes: the note on a name at a place of the line of this number, where the name is no glyph
abbrev pub name_note : (List ℕ → Bool) → ℕ → ℕ × List ℕ → List Note
name_note is_there number name = note_where (not (is_there name.1)) (note_at number (name.0 + 1) NoSuchGlyph)

-- AFM 4.1, kerning data: the notes on the line of this number, by its tokens `KPX`, LEFT and RIGHT with their places
abbrev pub kpx_notes : (List ℕ → Bool) → ℕ → List (ℕ × List ℕ) → List Note
kpx_notes is_there number (kpx ∷ left ∷ right ∷ more) =
    if bytes_eq kpx.1 (codes "KPX") then name_note is_there number left ++ name_note is_there number right else []
kpx_notes is_there number _ = []

-- profile, notes: the notes on some lines
abbrev pub lines_notes : (List ℕ → Bool) → List Line → List Note
lines_notes is_there ls = flat_map (λ l. kpx_notes is_there l.number (places_from 0 l.text)) ls

-- profile, notes: the notes on the lines of a kerning file, by the lines of a source from that of its glyphs on, without which
-- nothing is noted
abbrev pub paired_notes : List Line → List Line → List Note
paired_notes [] ls = []
paired_notes (section ∷ later) ls = lines_notes (has_line_of_glyph (before is_end (heads Glyphs later))) ls

-- profile, notes: the notes on a kerning file, whose pairs are to be of glyphs of a source
unfoldable pub pair_notes : List ℕ → List ℕ → List Note
pair_notes source pairs = paired_notes (from (is_line_of_section Glyphs) (numbered 1 (lines source))) (numbered 1 (lines pairs))
