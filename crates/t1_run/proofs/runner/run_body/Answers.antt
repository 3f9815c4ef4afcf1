use Rattle.std.proofs.Common.{◌∙◌, ap, subst}
use Rattle.std.specs.Prelude.{IfOk, All}
use Rattle.std.proofs.lemmas.Result.{err_from_is_err_and}
use Rattle.t1_frac.specs.Outcome.{reported_at}
use Rattle.t1_frac.specs.declared.fault.Place.TheVariants.{Nowhere}
use Rattle.t1_run.specs.Composite.{IsWithin}
use Rattle.t1_run.specs.Machine.{state_of}
use Rattle.t1_run.specs.Run.{font, drawing_of}
use Rattle.t1_run.proofs.Continuing.{lacking}
use Rattle.t1_run.proofs.WithinOutlines.{stop-draws}
use Rattle.t1_run.proofs.runner.run_body.Goals as goal

pub ended-requires-clause-within : goal.ended-requires-clause-within
ended-requires-clause-within g c =
    let m = font (g.B.Bodies.subrs c.args.bodies.now) (g.B.Bodies.glyphs c.args.bodies.now) in
    let draws = stop-draws m c.args.body.now _ c.in_ok-composite.ensures.ends in
    subst (λ metric. IfOk (drawing_of metric c.in_ok-composite.composite (state_of c.run_words.new.state)) (λ d. All IsWithin d.segments)) c.in_ok-metric.ensures.ok_part draws

pub returns-clause-drawing : goal.returns-clause-drawing
returns-clause-drawing g c =
    let after = c.run_words.new.state in
    ap (reported_at Nowhere) (c.in_ok-composite.ensures.ends
    ∙ ap (λ metric. drawing_of metric c.in_ok-composite.composite (state_of after)) c.in_ok-metric.ensures.ok_part ∙ c.ended.ensures.drawing)

pub returns-in_err-metric-clause-drawing : goal.returns-in_err-metric-clause-drawing
returns-in_err-metric-clause-drawing g c =
    let after = c.run_words.new.state in
    let p = err_from_is_err_and c.from_residual-in_err-metric.result c.from_residual-in_err-metric.ensures.1 in
    let none = lacking _ _ _ c.in_err-metric.ensures.value in
    rw (p.1, p.2, none.1) (ap (reported_at Nowhere) (c.in_ok-composite.ensures.ends
    ∙ ap (λ metric. drawing_of metric c.in_ok-composite.composite (state_of after)) none.0))
