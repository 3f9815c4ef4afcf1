use Rattle.std.proofs.Common.{◌∙◌, ◌+◌, ap, sym, subst, map, drop, get_or, List, ℕ, [], arith}
use Rattle.std.specs.Borrow.{Bor}
use Rattle.std.proofs.lemmas.Result.{err_from_is_err_and}
use Rattle.t1_frac.specs.Outcome.{Refuses}
use Rattle.t1_font.specs.MetricsByRuns.{glyph_metrics_among}
use Rattle.t1_font.proofs.Gathering.{put_after, one-reported, one-refused}
use Rattle.t1_font.proofs.Keeping.{name-first}
use Rattle.t1_font.proofs.glyph_metrics.glyph_metrics_of.Goals as goal

pub loop-name-preserved : goal.loop-name-preserved
loop-name-preserved g c =
    let runs = g.R.KeptRuns.drawn c.args.runs.now in
    let names = c.args.names.now in
    let i = c.loop-name.name-index in
    let none : Bor (List ℕ) = record { ref_ptr = (0, 0); now = [] } in
    let rest = map (λ name. name.now) (drop (i + 1) names) in
    let front = c.loop-name.metrics.items in
    ap (λ metrics. put_after metrics (glyph_metrics_among runs rest)) c.in_ok-push.ensures.items
    ∙ one-reported runs front (get_or names i none).now rest c.in_ok-placed_metrics.field-0 c.in_ok-placed_metrics.ensures
    ∙ sym (ap (λ (l : List (Bor (List ℕ))). put_after front (glyph_metrics_among runs (map (λ name. name.now) l))) (name-first names i none (omega arith)))
    ∙ c.loop-name.invariant

pub returns-in_err-placed_metrics : goal.returns-in_err-placed_metrics
returns-in_err-placed_metrics g c =
    let runs = g.R.KeptRuns.drawn c.args.runs.now in
    let names = c.args.names.now in
    let i = c.loop-name.name-index in
    let none : Bor (List ℕ) = record { ref_ptr = (0, 0); now = [] } in
    let rest = map (λ name. name.now) (drop (i + 1) names) in
    let front = c.loop-name.metrics.items in
    let refused = c.in_err-placed_metrics.field-0.0 in
    let p = err_from_is_err_and c.from_residual.result c.from_residual.ensures.1 in
    let whole = sym (ap (λ (l : List (Bor (List ℕ))). put_after front (glyph_metrics_among runs (map (λ name. name.now) l))) (name-first names i none (omega arith))) ∙ c.loop-name.invariant in
    rw (p.1, p.2) (subst (Refuses refused) whole (one-refused runs front (get_or names i none).now rest refused c.in_err-placed_metrics.ensures))
