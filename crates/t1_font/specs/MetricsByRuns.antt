-- What is reported of glyphs, by what is kept of their runs.
use Rattle.std.specs.Prelude.{ℕ, List, map, Option, Result, Ok}
use Rattle.t1_frac.specs.declared.fault.Code.{Code}
use Rattle.t1_frac.specs.declared.fault.Fault.{Fault}
use Rattle.t1_frac.specs.Outcome.{◌>>=◌}
use Rattle.t1_run.specs.Composite.{outline_within}
use Rattle.t1_run.specs.Run.{Drawing}
use Rattle.t1_afm.specs.declared.bbox.BBox.{BBox}
use Rattle.t1_font.specs.declared.glyph_metrics.GlyphMetrics.{GlyphMetrics}
use Rattle.t1_font.specs.Glyphs.{placed_parts_of, glyphs_by}
use Rattle.t1_font.specs.MeasuredGlyphs.{glyph_metrics}

-- word: what is reported of a glyph, by what its run draws and its box
abbrev pub glyph_metrics_by : List ℕ → Drawing → Option BBox → Result GlyphMetrics Code
glyph_metrics_by name drawing box =
    placed_parts_of drawing.bearing drawing.composite >>= (λ parts.
    Ok (record { name = name; width = drawing.width; entered = drawing.entered; parts = parts; bbox = box }))

-- word: what is reported of these glyphs, by runs that are kept
unfoldable pub glyph_metrics_among : (List ℕ → Option (Result Drawing Code)) → List (List ℕ) → Result (List GlyphMetrics) Fault
glyph_metrics_among run names =
    glyphs_by run (outline_within run 4) names >>= (λ glyphs. Ok (map glyph_metrics glyphs))
