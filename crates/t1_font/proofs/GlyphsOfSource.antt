-- The first fault of a source, by its glyphs.
use Rattle.std.proofs.Common.{◌≡◌, List, Result, Ok, Err, refl}
use Rattle.t1_frac.specs.declared.fault.Fault.{Fault}
use Rattle.t1_frac.specs.Outcome.{◌>>=◌}
use Rattle.t1_parts.specs.SourceParts.{SourceParts}
use Rattle.t1_font.specs.Assembly.{file_check}
use Rattle.t1_font.specs.Bodies.{bodies}
use Rattle.t1_font.specs.Glyphs.{Glyph, glyphs, glyph_names}
use Rattle.t1_font.specs.MeasuredGlyphs.{MeasuredFont, measured}
use Rattle.t1_font.specs.SourceChecks.{measured_source, source_check, source_glyphs}

same-fault : (checked : Result (Unit {0}) Fault) (found : Result (List Glyph) Fault) (reported : List Glyph → MeasuredFont)
    → ◌≡◌ {A = Result (Unit {0}) Fault}
    ((checked >>= λ c. found >>= λ gs. Ok (reported gs)) >>= λ font. Ok (tt {0}))
    ((checked >>= λ c. found) >>= λ gs. Ok (tt {0}))
same-fault (Ok c) (Ok gs) reported = refl
same-fault (Ok c) (Err fault) reported = refl
same-fault (Err fault) found reported = refl

pub check-by-glyphs : (s : SourceParts) → source_check s ≡ (source_glyphs s >>= λ glyphs. Ok (tt {0}))
unfolding measured_source measured
check-by-glyphs s = same-fault (file_check s) (glyphs (bodies s.items) (glyph_names s.items)) _
