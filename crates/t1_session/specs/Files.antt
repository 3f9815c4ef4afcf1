-- The files of the bytes of a source and of its pairs.
use Rattle.std.specs.Prelude.{◌≡◌, ℕ, List, Result, Ok}
use Rattle.t1_frac.specs.declared.fault.Fault.{Fault}
use Rattle.t1_frac.specs.Outcome.{◌>>=◌}
use Rattle.t1_pairs.specs.declared.pairs.Pair.{Pair}
use Rattle.t1_parts.specs.SourceParts.{SourceParts}
use Rattle.t1_pairs.specs.Kerning.{pairs}
use Rattle.t1_parts.specs.Reading.{reads}
use Rattle.t1_afm.specs.Afm.{afm}
use Rattle.t1_font.specs.Assembly.{source_file, source_pfa}
use Rattle.t1_font.specs.FontMetrics.{metrics_of}
use Rattle.t1_font.specs.SourceChecks.{measured_source, source_check}

-- profile, order of faults: the PFB file of the bytes of a source in blocks of this size, or the first fault of reading,
-- of the bodies, or F23
unfoldable pub assembled : ℕ → List ℕ → Result (List ℕ) Fault
assembled size bytes = reads bytes >>= λ source. source_file size source

-- profile, order of faults: the same, of the PFA file
unfoldable pub assembled_pfa : List ℕ → Result (List ℕ) Fault
assembled_pfa bytes = reads bytes >>= λ source. source_pfa source

-- profile, order of faults: the AFM file of a source and its pairs, or the first fault of reading the source, of the
-- pairs, of the bodies, F23, or of a glyph
unfoldable pub metrics_file : List ℕ → List ℕ → Result (List ℕ) Fault
metrics_file source kerning = do
  s ← reads source
  ps ← pairs kerning
  glyphs ← measured_source s
  Ok (afm (metrics_of s ps glyphs))

-- profile: a source and its pairs pass where they have an AFM file, and are refused by the fault that measuring them reports
abbrev pub verdict : List ℕ → List ℕ → Result (Unit {0}) Fault
verdict source kerning = metrics_file source kerning >>= λ file. Ok tt

-- profile: the AFM file of a source and its pairs, which were read, is refused by the source's first fault and by
-- nothing else
abbrev pub MetricsTellFirstFault : Type 0
MetricsTellFirstFault = (source kerning : List ℕ) (s : SourceParts) (ps : List Pair) → reads source ≡ Ok s → pairs kerning ≡ Ok ps
    → verdict source kerning ≡ source_check s
