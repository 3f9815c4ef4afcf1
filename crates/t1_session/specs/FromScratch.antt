-- The texts of a font from scratch.
use Rattle.std.specs.Prelude.{ℕ, ℤ, List, Option, Result, Ok}
use Rattle.t1_frac.specs.declared.fault.Fault.{Fault}
use Rattle.t1_frac.specs.Outcome.{◌>>=◌}
use Rattle.t1_parts.specs.Printing.{text}
use Rattle.t1_parts.specs.Reading.{reads}
use Rattle.t1_parts.specs.SourceParts.{SourceParts}
use Rattle.t1_pairs.specs.Kerning.{pairs, kern}
use Rattle.t1_code.specs.Pfb.{whole_file}
use Rattle.t1_afm.specs.Afm.{FontMetrics, afm}
use Rattle.t1_font.specs.Assembly.{source_file}
use Rattle.t1_font.specs.FontMetrics.{metrics_of}
use Rattle.t1_font.specs.SourceChecks.{measured_source}
use Rattle.t1_font.specs.Usage.{usage_table}
use Rattle.t1_outline.specs.Shown.{source_outline}
use Rattle.t1_session.specs.Files.{assembled, assembled_pfa}
use Rattle.t1_session.specs.Queries.{encoding_text, glyph_text, metrics_line, subr_text}
use Rattle.t1_session.specs.State.{SessionState}

-- profile: the PFB file of a font, what its AFM file says, and its usage table
pub record Texts : Type 0 where
  pub pfb : List ℕ
  pub metrics : FontMetrics
  pub uses : List ℕ

-- profile: the texts of reading, assembling and measuring the bytes of a source and of a kerning file, or the first fault:
-- of reading the source, of the pairs, of the source
unfoldable pub texts_of : List ℕ → List ℕ → Result Texts Fault
texts_of source kerning = do
  s ← reads source
  k ← pairs kerning
  font ← measured_source s
  file ← source_file whole_file s
  Ok (record { pfb = file; metrics = metrics_of s k font; uses = usage_table font.metrics })

-- profile: the texts, from scratch, of the source and the pairs that a session prints
abbrev pub from_scratch : SessionState → Result Texts Fault
from_scratch s = texts_of (text s.source) (kern s.pairs)

-- profile: the PFB file of these texts
abbrev pub pfb_from_scratch : SessionState → Result (List ℕ) Fault
pfb_from_scratch s = from_scratch s >>= λ texts. Ok texts.pfb

-- profile: the AFM file of these texts
abbrev pub metrics_from_scratch : SessionState → Result (List ℕ) Fault
metrics_from_scratch s = from_scratch s >>= λ texts. Ok (afm texts.metrics)

-- profile: the usage table of these texts
abbrev pub uses_from_scratch : SessionState → Result (List ℕ) Fault
uses_from_scratch s = from_scratch s >>= λ texts. Ok texts.uses

-- profile: the PFB file in blocks of this size, of reading and assembling the source that a session prints
abbrev pub blocks_from_scratch : ℕ → SessionState → Result (List ℕ) Fault
blocks_from_scratch size s = assembled size (text s.source)

-- profile: the PFA file, of the same
abbrev pub pfa_from_scratch : SessionState → Result (List ℕ) Fault
pfa_from_scratch s = assembled_pfa (text s.source)

-- ---- queries

-- profile: what is asked of the source that a session prints, once it is read again
abbrev pub asked : {X : Type 0} → (SourceParts → X) → SessionState → Result X Fault
asked answer s = reads (text s.source) >>= λ source. Ok (answer source)

-- profile: the words of a glyph of this source
abbrev pub glyph_from_scratch : List ℕ → SessionState → Result (Option (List ℕ)) Fault
glyph_from_scratch name s = asked (glyph_text name) s

-- profile: the words of a Subr of this source
abbrev pub subr_from_scratch : ℤ → SessionState → Result (Option (List ℕ)) Fault
subr_from_scratch number s = asked (subr_text number) s

-- profile: the names of the codes of this source
abbrev pub encoding_from_scratch : SessionState → Result (List ℕ) Fault
encoding_from_scratch s = asked encoding_text s

-- profile: the line of a glyph in the AFM file of the texts from scratch
abbrev pub metrics_line_from_scratch : List ℕ → SessionState → Result (Option (List ℕ)) Fault
metrics_line_from_scratch name s = from_scratch s >>= λ texts. Ok (metrics_line name texts.metrics)

-- profile: the outline of a glyph of the printed source, with its parts
abbrev pub outline_from_scratch : List ℕ → SessionState → Result (Option (List ℕ)) Fault
outline_from_scratch name s = reads (text s.source) >>= λ source. source_outline source name
