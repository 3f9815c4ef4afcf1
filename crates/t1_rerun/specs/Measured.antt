-- What is reported of glyphs whose runs and boxes are kept.
use Rattle.std.specs.Prelude.{List, [], ◌∷◌, Result, Ok}
use Rattle.t1_frac.specs.declared.fault.Code.{Code}
use Rattle.t1_frac.specs.Outcome.{◌>>=◌}
use Rattle.t1_font.specs.declared.glyph_metrics.GlyphMetrics.{GlyphMetrics}
use Rattle.t1_font.specs.MetricsByRuns.{glyph_metrics_by}
use Rattle.t1_cache.specs.Recorded.{RecordedGlyph}

-- word: what is reported of each glyph by its record
abbrev pub kept_metrics : List RecordedGlyph → Result (List GlyphMetrics) Code
kept_metrics [] = Ok []
kept_metrics (k ∷ kept) =
    glyph_metrics_by k.name k.run.drawing k.box >>= (λ m. kept_metrics kept >>= (λ ms. Ok (m ∷ ms)))
