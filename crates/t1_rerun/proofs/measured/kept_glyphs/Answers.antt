use Rattle.std.proofs.Common.{◌∙◌, ◌+◌, ap, subst, sym}
use Rattle.std.proofs.lemmas.Result.{err_from_is_err_and}
use Rattle.t1_frac.specs.Outcome.{reported_at, Refuses}
use Rattle.t1_frac.specs.declared.fault.Place.TheVariants.{Nowhere}
use Rattle.t1_font.specs.MetricsByRuns.{glyph_metrics_by}
use Rattle.t1_rerun.proofs.Reporting.{reporting-more, reporting-refused, IsReporting}
use Rattle.t1_rerun.proofs.measured.kept_glyphs.Goals as goal

pub returns-in_err-metrics_of_run : goal.returns-in_err-metrics_of_run
returns-in_err-metrics_of_run c =
    let p = err_from_is_err_and c.from_residual-in_err-metrics_of_run.result c.from_residual-in_err-metrics_of_run.ensures.1 in
    let kept = c.in-Some.glyph.now in
    rw (p.1, p.2)
    (reporting-refused c.args.records.now.glyphs.entries c.loop-at.at c.loop-at.metrics.items (c.in-Some.name.now, kept) c.in_err-metrics_of_run.field-0.0 (sym c.in-Some.ensures.entry)
    (subst (λ name. Refuses c.in_err-metrics_of_run.field-0.0 (reported_at Nowhere (glyph_metrics_by name kept.run.drawing kept.bbox))) c.as_slice.ensures.value (rw c.record-record.ensures at c.in_err-metrics_of_run.ensures))
    c.loop-at.invariant)

pub loop-at-preserved : goal.loop-at-preserved
loop-at-preserved c =
    let entries = c.args.records.now.glyphs.entries in
    let kept = c.in-Some.glyph.now in
    subst (IsReporting entries (c.loop-at.at + 1)) (sym c.in_ok-push.ensures.items)
    (reporting-more entries c.loop-at.at c.loop-at.metrics.items (c.in-Some.name.now, kept) c.in_ok-metrics_of_run.field-0 (sym c.in-Some.ensures.entry)
    (sym (ap (λ name. reported_at Nowhere (glyph_metrics_by name kept.run.drawing kept.bbox)) c.as_slice.ensures.value) ∙ rw c.record-record.ensures at c.in_ok-metrics_of_run.ensures)
    c.loop-at.invariant)
