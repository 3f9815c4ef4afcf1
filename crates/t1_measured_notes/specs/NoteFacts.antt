-- What a note on a text says, by its kind, where its kind stands on runs.
use Rattle.std.specs.Prelude.{◌≡◌, ◌<◌, ◌+◌, ℕ, true, false, List, [], ◌∷◌, codes, Ok}
use Rattle.std.specs.List.{list_all}
use Rattle.std.specs.Str.{bytes_eq}
use Rattle.t1_frac.specs.Numbers.{is_number_word}
use Rattle.t1_frac.specs.Outcome.{◌>>=◌}
use Rattle.t1_text.specs.Lines.{lines}
use Rattle.t1_text.specs.Tokens.{tokens}
use Rattle.t1_parts.specs.Reading.{reads}
use Rattle.t1_afm.specs.Afm.{sides}
use Rattle.t1_afm.specs.declared.bbox.BBox.{BBox}
use Rattle.t1_font.specs.declared.glyph_metrics.GlyphMetrics.{GlyphMetrics}
use Rattle.t1_font.specs.MeasuredGlyphs.{MeasuredFont}
use Rattle.t1_font.specs.SourceChecks.{measured_source}
use Rattle.t1_notes.specs.declared.line.Line.{Line}
use Rattle.t1_notes.specs.declared.note.Note.{Note}
use Rattle.t1_notes.specs.declared.note.NoteKind.{NoteKind}
use Rattle.t1_notes.specs.declared.note.NoteKind.TheVariants.{UnusedSubr, FontBox, WideGlyph}
use Rattle.t1_notes.specs.NoteFacts.{SaysOfLines, StandsOnLine, front_lines, subr_heads}
use Rattle.t1_notes.specs.Notes.{subr_need}
use Rattle.t1_notes.specs.NumberedLines.{numbered}
use Rattle.t1_measured_notes.specs.MeasuredNotes.{is_entered, same_words}

-- profile, notes: a line opens a Subr past number 4 which the run of no glyph entered
abbrev pub OpensUnused : List GlyphMetrics → List ℕ → Type 0
OpensUnused glyphs l = (n : ℕ) × (subr_need l ≡ n + 1) × (4 < n) × (is_entered glyphs n ≡ false)

-- Type 1 Font Format, Chapter 5 (FontBBox): tokens tell four numbers that aren't the sides of this box
abbrev pub TellsOther : BBox → List (List ℕ) → Type 0
TellsOther box (key ∷ bracket ∷ a ∷ b ∷ c ∷ d ∷ more) =
    (bytes_eq key (codes "/FontBBox") ≡ true) × (list_all is_number_word (a ∷ b ∷ c ∷ d ∷ []) ≡ true) × (same_words (a ∷ b ∷ c ∷ d ∷ []) (sides box) ≡ false)
TellsOther box _ = ⊥

-- profile, notes: unused-subr: the note stands on the line that opens such a Subr
abbrev pub NamesUnused : List Line → MeasuredFont → Note → Type 0
NamesUnused ls font note = StandsOnLine (OpensUnused font.metrics) (subr_heads ls) note

-- profile, notes: font-box: the note stands on a line before the glyphs that tells another box than theirs
abbrev pub NamesOtherBox : List Line → MeasuredFont → Note → Type 0
NamesOtherBox ls font note = StandsOnLine (λ l. TellsOther font.font_box (tokens l)) (front_lines ls) note

-- profile, notes: a text is a source without a fault, and this is so of it by what is measured
abbrev pub OfMeasured : (List Line → MeasuredFont → Note → Type 0) → List ℕ → Note → Type 0
OfMeasured Says text note =
    (font : MeasuredFont) × ((reads text >>= λ source. measured_source source) ≡ Ok font) × Says (numbered 1 (lines text)) font note

-- profile, notes: what a note of a kind says of a text, of the kinds that have a short law
abbrev pub SaysOfText : List ℕ → NoteKind → Note → Type 0
SaysOfText text UnusedSubr note = OfMeasured NamesUnused text note
SaysOfText text FontBox note = OfMeasured NamesOtherBox text note
SaysOfText text WideGlyph note = Unit {0}
SaysOfText text kind note = SaysOfLines (numbered 1 (lines text)) kind note

-- profile, notes: what a note says holds of the text
abbrev pub HoldsOf : List ℕ → Note → Type 0
HoldsOf text note = SaysOfText text note.kind note
