use Rattle.std.proofs.Common.{◌∙◌, ap, subst}
use Rattle.t1_frac.specs.Outcome.{Gives, reported_at}
use Rattle.t1_frac.specs.declared.fault.Place.TheVariants as places
use Rattle.t1_font.specs.declared.glyph_metrics.GlyphMetrics.{GlyphMetrics}
use Rattle.t1_font.specs.InTurn.{IsRow, staying}
use Rattle.t1_font.specs.MeasuredGlyphs.{glyph_metrics_at}
use Rattle.t1_font.specs.Runs.{drawing_in}
use Rattle.t1_font.proofs.Measuring.{same-function}
use Rattle.t1_font.proofs.StayingLaws.{staying_metrics}
use Rattle.t1_font.proofs.turns.metrics_of_row.Goals as goal

pub returns-in-Waiting : goal.returns-in-Waiting
returns-in-Waiting c = λ run. λ names. λ name. λ row. λ stay.
    let runs = c.args.runs.now in
    let kept = subst (IsRow run name) c.in-Waiting.is row in
    let same = ap (λ drawn. glyph_metrics_at drawn name) (same-function (drawing_in runs) (staying run names) stay.kept) ∙ staying_metrics run names name stay.parts stay.absent kept.1 in
    subst (λ metrics. Gives {X = GlyphMetrics} {Y = GlyphMetrics} (λ glyph. glyph) c.placed_metrics.result (reported_at (places.Glyph name) metrics)) same
    (subst (λ n. Gives {X = GlyphMetrics} {Y = GlyphMetrics} (λ glyph. glyph) c.placed_metrics.result (reported_at (places.Glyph n) (glyph_metrics_at (drawing_in runs) n))) kept.0 c.placed_metrics.ensures)
