-- The notes that stand on runs of the glyphs.
use Rattle.std.specs.Prelude.{ℕ, Bool, false, not, ◌-◌, ◌||◌, ◌&&◌, nat_eq, nat_lt, ℤ, pos, negsuc, int_le, List, [], ◌∷◌, ◌++◌, codes, Option, Some, None, Result, Ok, Err}
use Rattle.std.specs.List.{list_all, list_any}
use Rattle.std.specs.Str.{bytes_eq}
use Rattle.t1_frac.specs.Numbers.{is_number_word}
use Rattle.t1_frac.specs.Outcome.{◌>>=◌}
use Rattle.t1_frac.specs.declared.fault.Fault.{Fault}
use Rattle.t1_text.specs.Lines.{lines}
use Rattle.t1_text.specs.Tokens.{tokens}
use Rattle.t1_parts.specs.Reading.{reads}
use Rattle.t1_afm.specs.Afm.{sides}
use Rattle.t1_afm.specs.declared.bbox.BBox.{BBox}
use Rattle.t1_font.specs.declared.glyph_metrics.GlyphMetrics.{GlyphMetrics}
use Rattle.t1_font.specs.MeasuredGlyphs.{MeasuredFont}
use Rattle.t1_font.specs.SourceChecks.{measured_source}
use Rattle.t1_notes.specs.declared.line.Line.{Line}
use Rattle.t1_notes.specs.declared.note.Note.{Note}
use Rattle.t1_notes.specs.declared.note.NoteKind.TheVariants.{UnusedSubr, FontBox, WideGlyph}
use Rattle.t1_notes.specs.declared.sections.Section.TheVariants.{Subrs, Glyphs}
use Rattle.t1_notes.specs.BodyWords.{note_where}
use Rattle.t1_notes.specs.GlyphNames.{opened_name}
use Rattle.t1_notes.specs.Heads.{heads}
use Rattle.t1_notes.specs.LineSections.{is_line_of_section}
use Rattle.t1_notes.specs.Merged.{merged}
use Rattle.t1_notes.specs.Notes.{noted, notes_of, subr_need}
use Rattle.t1_notes.specs.NumberedLines.{before, lines_past, note_on, numbered}
use Rattle.t1_notes.specs.Told.{told}

-- profile, notes: whether words are these
abbrev pub same_words : List (List ℕ) → List (List ℕ) → Bool
same_words (a ∷ b ∷ c ∷ d ∷ []) (e ∷ f ∷ g ∷ h ∷ []) = bytes_eq a e && bytes_eq b f && bytes_eq c g && bytes_eq d h
same_words _ _ = false

-- Type 1 Font Format, Chapter 5 (FontBBox): the box of a font that doesn't tell its box
abbrev pub no_box : List (List ℕ)
no_box = codes "0" ∷ codes "0" ∷ codes "0" ∷ codes "0" ∷ []

-- profile, notes: whether four words are a box of whole numbers, and another one than that of the glyphs
abbrev pub is_other_box : BBox → List (List ℕ) → Bool
is_other_box box ws = list_all is_number_word ws && not (same_words ws no_box) && not (same_words ws (sides box))

-- Type 1 Font Format, Chapter 5 (FontBBox): whether a line with the tokens `/FontBBox`, a bracket and four numbers tells
-- another box than that of the glyphs
abbrev pub tells_other_box : BBox → List (List ℕ) → Bool
tells_other_box box (key ∷ bracket ∷ a ∷ b ∷ c ∷ d ∷ more) = bytes_eq key (codes "/FontBBox") && is_other_box box (a ∷ b ∷ c ∷ d ∷ [])
tells_other_box box _ = false

-- profile, notes: such lines before the glyphs
abbrev pub box_notes : BBox → List Line → List Note
box_notes box ls = noted FontBox (λ l. tells_other_box box (tokens l)) ls

-- profile, notes: whether a glyph's own run entered the Subr of this number
abbrev pub is_entered : List GlyphMetrics → ℕ → Bool
is_entered glyphs n = list_any (λ g. list_any (nat_eq n) g.entered) glyphs

-- profile, notes: whether a line opens a Subr that none entered; Subrs 0 to 4 are there for flex and hint replacement
abbrev pub is_unused : (ℕ → Bool) → List ℕ → Bool
is_unused entered l = nat_lt 5 (subr_need l) && not (entered (subr_need l - 1))

-- profile, notes: whether the last of some lines, which comes first, opens such a Subr
abbrev pub follows_unused : (ℕ → Bool) → List Line → Bool
follows_unused entered [] = false
follows_unused entered (l ∷ before) = is_unused entered l.text

-- profile, notes: the note on a line that opens such a Subr, unless it follows another
abbrev pub unused_note : (ℕ → Bool) → Bool → Line → List Note
unused_note entered follows l = note_where (is_unused entered l.text && not follows) (note_on UnusedSubr l)

-- profile, notes: the first of such lines that follow one another
abbrev pub unused_among : (ℕ → Bool) → List Line → List Note
unused_among entered heads = told (λ before l. unused_note entered (follows_unused entered before) l) [] heads

-- profile, notes: such lines among those of the section of the Subrs
abbrev pub unused_notes : (ℕ → Bool) → List Line → List Note
unused_notes entered ls = unused_among entered (heads Subrs (lines_past (is_line_of_section Subrs) ls))

-- profile, notes: the notes on the lines before the glyphs, by what is measured
abbrev pub font_notes : BBox → (ℕ → Bool) → List Line → List Note
font_notes box entered ls = merged (box_notes box ls) (unused_notes entered ls)

-- profile, notes: whether a side of a box lies past ±16,000
abbrev pub is_wide_side : ℤ → Bool
is_wide_side side = not (int_le (negsuc 15999) side && int_le side (pos 16000))

-- profile, notes: whether a side of the box around a glyph, where it draws, lies past ±16,000
abbrev pub is_wide_box : Option BBox → Bool
is_wide_box None = false
is_wide_box (Some box) = (is_wide_side box.left || is_wide_side box.right) || (is_wide_side box.bottom || is_wide_side box.top)

-- profile, notes: whether the glyph of a name has such a box
abbrev pub is_wide : List GlyphMetrics → List ℕ → Bool
is_wide glyphs name = list_any (λ g. is_wide_box g.bbox && bytes_eq name g.name) glyphs

-- profile, notes: whether a name is there and passes a test
abbrev pub is_name_that : (List ℕ → Bool) → Option (List ℕ) → Bool
is_name_that test None = false
is_name_that test (Some name) = test name

-- profile, notes: the lines of the section of the glyphs that open such a glyph
abbrev pub wide_notes : (List ℕ → Bool) → List Line → List Note
wide_notes wide ls = noted WideGlyph (λ l. is_name_that wide (opened_name l)) (heads Glyphs (lines_past (is_line_of_section Glyphs) ls))

-- profile, notes: the notes on the lines of a font, where it has no fault
abbrev pub sound_notes : List Line → Result MeasuredFont Fault → List Note
sound_notes ls (Ok font) =
    font_notes font.font_box (is_entered font.metrics) (before (is_line_of_section Glyphs) ls) ++ wide_notes (is_wide font.metrics) ls
sound_notes ls (Err fault) = []

-- profile, notes: the notes on a text that stand on runs of its glyphs
unfoldable pub measured_notes : List ℕ → List Note
measured_notes text = sound_notes (numbered 1 (lines text)) (reads text >>= λ source. measured_source source)

-- profile, notes: all notes on a text, in the order of their places
unfoldable pub all_notes : List ℕ → List Note
all_notes text = merged (notes_of text) (measured_notes text)
