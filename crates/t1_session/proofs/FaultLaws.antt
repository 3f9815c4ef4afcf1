-- The first fault of a source, and that of its AFM file.
use Rattle.std.proofs.Common.{◌≡◌, ℕ, List, Result, Ok, Err, refl}
use Rattle.t1_frac.specs.declared.fault.Fault.{Fault}
use Rattle.t1_frac.specs.Outcome.{◌>>=◌}
use Rattle.t1_afm.specs.Afm.{afm}
use Rattle.t1_font.specs.MeasuredGlyphs.{MeasuredFont}
use Rattle.t1_font.specs.FontMetrics.{metrics_of}
use Rattle.t1_font.specs.SourceChecks.{measured_source}
use Rattle.t1_session.specs.Files.{MetricsTellFirstFault, metrics_file}

same_fault : (found : Result MeasuredFont Fault) (file : MeasuredFont → List ℕ)
    → ◌≡◌ {A = Result (Unit {0}) Fault} ((found >>= λ font. Ok (file font)) >>= λ text. Ok (tt {0})) (found >>= λ font. Ok (tt {0}))
same_fault (Ok font) file = refl
same_fault (Err fault) file = refl

pub metrics_tell_first : MetricsTellFirstFault
unfolding metrics_file
metrics_tell_first source kerning s ps read paired = rw (read, paired) (same_fault (measured_source s) (λ font. afm (metrics_of s ps font)))
