use Rattle.std.proofs.Common.{subst}
use Rattle.std.specs.Prelude.{Ok, Err}
use Rattle.std.proofs.lemmas.Result.{err_from_is_err_and}
use Rattle.t1_frac.specs.declared.fault.Code.TheVariants.{F46}
use Rattle.t1_extent.specs.Parts.{part_within, parts_outline}
use Rattle.t1_extent.specs.Reached.{GivesReached}
use Rattle.t1_extent.specs.Turns.{given_moved}
use Rattle.t1_extent.proofs.Walking.{drawing_found, faulty, lonely, refuses-code, refused_reported, too_deep, below, base_refused, accent_refused, move_refused, moved_refused, parts_reported, parts_refused, composite_reported}
use Rattle.t1_extent.proofs.outline_reach.+reach.Goals as goal

pub reach_at-returns-in_err-run : goal.reach_at-returns-in_err-run
reach_at-returns-in_err-run g t c =
    let run = g.R.KeptRuns.drawn c.args.runs.now in
    let p = err_from_is_err_and c.from_residual.result c.from_residual.ensures.1 in
    rw (p.1, p.2) (refused_reported c.in_err-run.field-0.0 _ (faulty run c.args.depth c.args.name.now c.in_err-run.field-0.0 c.in_err-run.ensures.drawn))

pub reach_at-returns-in_default : goal.reach_at-returns-in_default
reach_at-returns-in_default g t c =
    let run = g.R.KeptRuns.drawn c.args.runs.now in
    let d = c.in_ok-run.run'.now.drawing in
    let own = drawing_found (run c.args.name.now) d c.in_ok-run.ensures.drawn in
    (d.segments, lonely run c.args.depth c.args.name.now d own c.in_default.ensures.parts, c.reached.ensures)

pub reach_at-returns-in_err-reached : goal.reach_at-returns-in_err-reached
reach_at-returns-in_err-reached g t c =
    let run = g.R.KeptRuns.drawn c.args.runs.now in
    let d = c.in_ok-run.run'.now.drawing in
    let own = drawing_found (run c.args.name.now) d c.in_ok-run.ensures.drawn in
    let p = err_from_is_err_and c.from_residual-in_err-reached.result c.from_residual-in_err-reached.ensures.1 in
    rw (p.1, p.2) (parts_refused run c.args.depth c.args.name.now d c.in-Some.parts.now c.side_bearing.result c.in_err-reached.field-0.0 own c.in-Some.ensures.parts c.side_bearing.ensures c.in_err-reached.ensures)

pub reach_at-returns : goal.reach_at-returns
reach_at-returns g t c =
    let run = g.R.KeptRuns.drawn c.args.runs.now in
    let d = c.in_ok-run.run'.now.drawing in
    let own = drawing_found (run c.args.name.now) d c.in_ok-run.ensures.drawn in
    composite_reported run c.args.depth c.args.name.now d c.in-Some.parts.now c.side_bearing.result c.reached-2.result c.in_ok-reached.reached c.united.result own c.in-Some.ensures.parts c.side_bearing.ensures
    c.reached-2.ensures c.in_ok-reached.ensures c.united.ensures

pub parts_reach-returns-then-depth-eq0 : goal.parts_reach-returns-then-depth-eq0
parts_reach-returns-then-depth-eq0 g t c =
    let run = g.R.KeptRuns.drawn c.args.runs.now in
    refuses-code c.from.result F46 (parts_outline (part_within run c.args.depth) c.args.bearing.now c.args.parts.now) c.from.ensures
    (too_deep run c.args.depth c.args.bearing.now c.args.parts.now c.if-depth-eq0.true)

pub parts_reach-returns-in_err-base : goal.parts_reach-returns-in_err-base
parts_reach-returns-in_err-base g t c =
    let run = g.R.KeptRuns.drawn c.args.runs.now in
    let parts = c.args.parts.now in
    let part = part_within run c.args.depth in
    let same = below run c.args.depth c.if-depth-eq0.false in
    let base = subst (λ n. GivesReached (Err c.in_err-base.field-0.0) (part n)) c.as_slice.ensures (subst (λ p. GivesReached (Err c.in_err-base.field-0.0) (p c.as_slice.result.now)) same c.in_err-base.ensures) in
    let p = err_from_is_err_and c.from_residual.result c.from_residual.ensures.1 in
    rw (p.1, p.2) (base_refused c.args.bearing.now parts (part parts.base) (part parts.accent) c.in_err-base.field-0.0 base)

pub parts_reach-returns-in_err-accent : goal.parts_reach-returns-in_err-accent
parts_reach-returns-in_err-accent g t c =
    let run = g.R.KeptRuns.drawn c.args.runs.now in
    let parts = c.args.parts.now in
    let part = part_within run c.args.depth in
    let same = below run c.args.depth c.if-depth-eq0.false in
    let base = subst (λ n. GivesReached (Ok c.in_ok-base.base) (part n)) c.as_slice.ensures (subst (λ p. GivesReached (Ok c.in_ok-base.base) (p c.as_slice.result.now)) same c.in_ok-base.ensures) in
    let accent = subst (λ n. GivesReached (Err c.in_err-accent.field-0.0) (part n)) c.as_slice-name.ensures (subst (λ p. GivesReached (Err c.in_err-accent.field-0.0) (p c.as_slice-name.result.now)) same c.in_err-accent.ensures) in
    let p = err_from_is_err_and c.from_residual-in_err-accent.result c.from_residual-in_err-accent.ensures.1 in
    rw (p.1, p.2) (accent_refused c.args.bearing.now parts (part parts.base) (part parts.accent) c.in_err-accent.field-0.0 c.in_ok-base.base base accent)

pub parts_reach-returns-in_err-by : goal.parts_reach-returns-in_err-by
parts_reach-returns-in_err-by g t c =
    let run = g.R.KeptRuns.drawn c.args.runs.now in
    let parts = c.args.parts.now in
    let part = part_within run c.args.depth in
    let same = below run c.args.depth c.if-depth-eq0.false in
    let base = subst (λ n. GivesReached (Ok c.in_ok-base.base) (part n)) c.as_slice.ensures (subst (λ p. GivesReached (Ok c.in_ok-base.base) (p c.as_slice.result.now)) same c.in_ok-base.ensures) in
    let accent = subst (λ n. GivesReached (Ok c.in_ok-accent.accent) (part n)) c.as_slice-name.ensures (subst (λ p. GivesReached (Ok c.in_ok-accent.accent) (p c.as_slice-name.result.now)) same c.in_ok-accent.ensures) in
    let p = err_from_is_err_and c.from_residual-in_err-by.result c.from_residual-in_err-by.ensures.1 in
    rw (p.1, p.2) (refused_reported c.in_err-by.field-0.0 _
    (move_refused c.args.bearing.now parts (part parts.base) (part parts.accent) c.in_ok-base.base c.in_ok-accent.accent c.in_err-by.field-0.0 base accent c.in_err-by.ensures.moved))

pub parts_reach-returns-in_err-moved : goal.parts_reach-returns-in_err-moved
parts_reach-returns-in_err-moved g t c =
    let run = g.R.KeptRuns.drawn c.args.runs.now in
    let parts = c.args.parts.now in
    let part = part_within run c.args.depth in
    let same = below run c.args.depth c.if-depth-eq0.false in
    let base = subst (λ n. GivesReached (Ok c.in_ok-base.base) (part n)) c.as_slice.ensures (subst (λ p. GivesReached (Ok c.in_ok-base.base) (p c.as_slice.result.now)) same c.in_ok-base.ensures) in
    let accent = subst (λ n. GivesReached (Ok c.in_ok-accent.accent) (part n)) c.as_slice-name.ensures (subst (λ p. GivesReached (Ok c.in_ok-accent.accent) (p c.as_slice-name.result.now)) same c.in_ok-accent.ensures) in
    let moved = subst (λ n. GivesReached (Err c.in_err-moved.field-0.0) (given_moved c.in_ok-by.by.by (part n))) c.as_slice-name.ensures
    (subst (λ p. GivesReached (Err c.in_err-moved.field-0.0) (given_moved c.in_ok-by.by.by (p c.as_slice-name.result.now))) same c.in_err-moved.ensures) in
    let p = err_from_is_err_and c.from_residual-in_err-moved.result c.from_residual-in_err-moved.ensures.1 in
    rw (p.1, p.2) (moved_refused c.args.bearing.now parts (part parts.base) (part parts.accent) c.in_ok-base.base c.in_ok-accent.accent c.in_ok-by.by.by c.in_err-moved.field-0.0 base accent c.in_ok-by.ensures.moved moved)

pub parts_reach-returns : goal.parts_reach-returns
parts_reach-returns g t c =
    let run = g.R.KeptRuns.drawn c.args.runs.now in
    let parts = c.args.parts.now in
    let part = part_within run c.args.depth in
    let same = below run c.args.depth c.if-depth-eq0.false in
    let base = subst (λ n. GivesReached (Ok c.in_ok-base.base) (part n)) c.as_slice.ensures (subst (λ p. GivesReached (Ok c.in_ok-base.base) (p c.as_slice.result.now)) same c.in_ok-base.ensures) in
    let accent = subst (λ n. GivesReached (Ok c.in_ok-accent.accent) (part n)) c.as_slice-name.ensures (subst (λ p. GivesReached (Ok c.in_ok-accent.accent) (p c.as_slice-name.result.now)) same c.in_ok-accent.ensures) in
    let moved = subst (λ n. GivesReached (Ok c.in_ok-moved.moved) (given_moved c.in_ok-by.by.by (part n))) c.as_slice-name.ensures
    (subst (λ p. GivesReached (Ok c.in_ok-moved.moved) (given_moved c.in_ok-by.by.by (p c.as_slice-name.result.now))) same c.in_ok-moved.ensures) in
    parts_reported c.args.bearing.now parts (part parts.base) (part parts.accent) c.in_ok-base.base c.in_ok-accent.accent c.in_ok-moved.moved c.united.result c.in_ok-by.by.by base accent c.in_ok-by.ensures.moved
    moved c.united.ensures
