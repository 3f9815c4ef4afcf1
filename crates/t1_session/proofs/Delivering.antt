-- From a text that is printed to the file that is delivered.
use Rattle.std.proofs.Common.{◌≡◌, ℕ, List, Option, Result, Ok, Err, refl, ◌∙◌}
use Rattle.t1_frac.specs.declared.fault.Fault.{Fault}
use Rattle.t1_frac.specs.Outcome.{◌>>=◌}
use Rattle.t1_pairs.specs.declared.pairs.Pair.{Pair}
use Rattle.t1_parts.specs.SourceParts.{SourceParts}
use Rattle.t1_pairs.specs.Kerning.{pairs}
use Rattle.t1_parts.specs.Reading.{reads}
use Rattle.t1_code.specs.declared.parts.OutError.{OutError}
use Rattle.t1_code.specs.declared.parts.OutError.TheVariants as out
use Rattle.t1_code.specs.Counted.{Tally}
use Rattle.t1_code.specs.Parts.{Prints}
use Rattle.t1_afm.specs.Afm.{afm}
use Rattle.t1_font.specs.Assembly.{source_file, source_pfa}
use Rattle.t1_font.specs.FontMetrics.{metrics_of}
use Rattle.t1_font.specs.SourceChecks.{measured_source}
use Rattle.t1_session.specs.Files.{assembled, assembled_pfa, metrics_file}
use Rattle.t1_session.specs.Delivery.{Delivers}
use Rattle.t1_session.specs.LiftedErrors.{reported_by_writing}

-- the PFB file of the bytes of a source
pub file_read : (size : ℕ) (bytes : List ℕ) (s : SourceParts) → reads bytes ≡ Ok s → assembled size bytes ≡ source_file size s
unfolding assembled
file_read size bytes s read = rw read refl

-- the PFA file of the bytes of a source
pub pfa_read : (bytes : List ℕ) (s : SourceParts) → reads bytes ≡ Ok s → assembled_pfa bytes ≡ source_pfa s
unfolding assembled_pfa
pfa_read bytes s read = rw read refl

-- the AFM file of the bytes of a source and of its pairs
pub metrics_read : (source kerning : List ℕ) (s : SourceParts) (ps : List Pair) → reads source ≡ Ok s → pairs kerning ≡ Ok ps
    → metrics_file source kerning ≡ (measured_source s >>= λ glyphs. Ok (afm (metrics_of s ps glyphs)))
unfolding metrics_file
metrics_read source kerning s ps read paired = rw (read, paired) refl

module _ {W : Type 0} (contents : W → Option (List ℕ)) (old new : Tally W) (text given : Result (List ℕ) Fault) (same : given ≡ text) where
  pub delivers_failure : (e : OutError) → Prints {T = Unit {0}} contents old new text (Err e) → Delivers {T = Unit {0}} contents old new given (Err (reported_by_writing e))
  delivers_failure out.Write p = (p.0, same ∙ p.1, p.2)
  delivers_failure (out.Fault fault) p = (same ∙ p.0, p.1)
  delivers_failure out.Memory p = p
