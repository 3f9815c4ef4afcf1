use Rattle.std.proofs.Common.{ap, ◌∙◌, sym}
use Rattle.std.specs.Prelude.{Ok}
use Rattle.std.proofs.lemmas.Result.{err_from_is_err_and}
use Rattle.t1_frac.specs.Outcome.{reported_at}
use Rattle.t1_frac.specs.Refusals.{refusal}
use Rattle.t1_frac.specs.declared.fault.Place.TheVariants.{Nowhere}
use Rattle.t1_run.specs.Composite.{outline_within}
use Rattle.t1_extent.specs.Turns.{given_box}
use Rattle.t1_extent.proofs.Walking.{drawing_found, faulty, lonely, refused_reported, parts_refused, box_refused, composite_boxed}
use Rattle.t1_extent.proofs.outline_reach.box_of.Goals as goal

pub returns-in_err-run : goal.returns-in_err-run
returns-in_err-run g c =
    let run = g.R.KeptRuns.drawn c.args.runs.now in
    let p = err_from_is_err_and c.from_residual.result c.from_residual.ensures.1 in
    rw (p.1, p.2) (box_refused (outline_within run 4 c.args.name.now) (refusal c.in_err-run.field-0.0)
    (refused_reported c.in_err-run.field-0.0 _ (faulty run 4 c.args.name.now c.in_err-run.field-0.0 c.in_err-run.ensures.drawn)))

pub returns-in_default : goal.returns-in_default
returns-in_default g c =
    let run = g.R.KeptRuns.drawn c.args.runs.now in
    let d = c.in_ok-run.run'.now.drawing in
    let own = drawing_found (run c.args.name.now) d c.in_ok-run.ensures.drawn in
    ap (λ given. reported_at Nowhere (given_box given)) (lonely run 4 c.args.name.now d own c.in_default.ensures.parts) ∙ ap Ok (sym c.bbox.ensures)

pub returns-in_err-reached : goal.returns-in_err-reached
returns-in_err-reached g c =
    let run = g.R.KeptRuns.drawn c.args.runs.now in
    let d = c.in_ok-run.run'.now.drawing in
    let own = drawing_found (run c.args.name.now) d c.in_ok-run.ensures.drawn in
    let p = err_from_is_err_and c.from_residual-in_err-reached.result c.from_residual-in_err-reached.ensures.1 in
    rw (p.1, p.2) (box_refused (outline_within run 4 c.args.name.now) c.in_err-reached.field-0.0
    (parts_refused run 4 c.args.name.now d c.in-Some.parts.now c.side_bearing.result c.in_err-reached.field-0.0 own c.in-Some.ensures.parts c.side_bearing.ensures c.in_err-reached.ensures))

pub returns : goal.returns
returns g c =
    let run = g.R.KeptRuns.drawn c.args.runs.now in
    let d = c.in_ok-run.run'.now.drawing in
    let own = drawing_found (run c.args.name.now) d c.in_ok-run.ensures.drawn in
    ap (reported_at Nowhere)
    (composite_boxed run 4 c.args.name.now d c.in-Some.parts.now c.side_bearing.result c.in_ok-reached.reached c.bbox-2.result c.bbox-3.result own c.in-Some.ensures.parts c.side_bearing.ensures
    c.bbox-2.ensures c.in_ok-reached.ensures c.bbox-3.ensures)
    ∙ ap Ok (sym c.unite.ensures)
