use Rattle.std.proofs.Common.{◌≡◌, ap, filter, map, subst}
use Rattle.std.specs.Prelude.{Ok}
use Rattle.std.specs.Option.{option_or}
use Rattle.t1_frac.specs.Outcome.{Refuses}
use Rattle.t1_font.specs.MetricsByRuns.{glyph_metrics_among}
use Rattle.t1_cache.specs.Renewed.{recorded_run}
use Rattle.t1_cache.specs.Users.{is_name_among}
use Rattle.t1_rerun.specs.Newest.{judged_in, newest}
use Rattle.t1_font.proofs.Measuring.{same-function}
use Rattle.t1_rerun.proofs.Reordering.{first-reported}
use Rattle.t1_rerun.proofs.judging.judged.Goals as goal

pub returns-clause-reported : goal.returns-clause-reported
returns-clause-reported g c =
    let records = c.args.records.now in
    let these = map (λ name. name.now) c.args.stale.now in
    let ordered = filter (is_name_among (λ name. name.now) c.args.found.now.keys) (g.O.GlyphOrder.ordered c.args.order.now) in
    subst (λ run. Refuses c.first_in_order.result (judged_in (glyph_metrics_among run these) (glyph_metrics_among run ordered)))
    (same-function _ _ (λ x. ap (λ r. option_or r (recorded_run records x)) (c.in_ok-runs.ensures.kept x)))
    (first-reported _ _ c.in-Err.refusal c.first_in_order.result c.in-Err.ensures c.first_in_order.ensures)

pub returns-in-Ok-clause-reported : goal.returns-in-Ok-clause-reported
returns-in-Ok-clause-reported g c =
    let records = c.args.records.now in
    let these = map (λ name. name.now) c.args.stale.now in
    let ordered = filter (is_name_among (λ name. name.now) c.args.found.now.keys) (g.O.GlyphOrder.ordered c.args.order.now) in
    subst (λ run. judged_in (glyph_metrics_among run these) (glyph_metrics_among run ordered) ≡ Ok c.in-Ok.metrics.items)
    (same-function _ _ (λ x. ap (λ r. option_or r (recorded_run records x)) (c.in_ok-runs.ensures.kept x)))
    (ap (λ r. judged_in r (glyph_metrics_among (newest c.in_ok-runs.runs records) ordered)) c.in-Ok.ensures)
