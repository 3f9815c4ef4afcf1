use Rattle.std.proofs.Common.{◌≡◌, sym, ap, ◌∙◌, subst, ◌-◌, ◌∷◌, rules}
use Rattle.std.specs.Prelude.{All, Ok, Err, IsOk}
use Rattle.std.proofs.lemmas.Result.{err_from_is_err_and}
use Rattle.std.proofs.lemmas.List.Elements.{All-cons}
use Rattle.t1_run.specs.Composite.{outline_within}
use Rattle.t1_extent.specs.Laws.{IsDistance}
use Rattle.t1_extent.specs.Reached.{GivesReached}
use Rattle.t1_extent.specs.Turns.{through, given_in_turn, given_through}
use Rattle.t1_extent.proofs.Walking.{drawing_found, faulty, lonely, refused_reported, walks, stuck, own_moved_refused, base_moved_refused, accent_moved_refused, moved_reported}
use Rattle.t1_extent.proofs.outline_reach.+moved_reach.Goals as goal

pub returns-in_err-run : goal.returns-in_err-run
returns-in_err-run g t c =
    let run = g.R.KeptRuns.drawn c.args.runs.now in
    let is = faulty run c.args.depth c.args.name.now c.in_err-run.field-0.0 c.in_err-run.ensures.drawn in
    let p = err_from_is_err_and c.from_residual.result c.from_residual.ensures.1 in
    rw (p.1, p.2) (refused_reported c.in_err-run.field-0.0 _ (ap (given_through c.args.moves.now c.args.last.now) is))

pub returns-in_err-own_through : goal.returns-in_err-own_through
returns-in_err-own_through g t c =
    let run = g.R.KeptRuns.drawn c.args.runs.now in
    let d = c.in_ok-run.run'.now.drawing in
    let own = drawing_found (run c.args.name.now) d c.in_ok-run.ensures.drawn in
    let is = lonely run c.args.depth c.args.name.now d own c.in_default.ensures.parts in
    let p = err_from_is_err_and c.from_residual-in_err-own_through.result c.from_residual-in_err-own_through.ensures.1 in
    rw (p.1, p.2) (refused_reported c.in_err-own_through.field-0.0 _ (ap (given_through c.args.moves.now c.args.last.now) is ∙ c.in_err-own_through.ensures))

pub returns-in_default : goal.returns-in_default
returns-in_default g t c =
    let run = g.R.KeptRuns.drawn c.args.runs.now in
    let d = c.in_ok-run.run'.now.drawing in
    let own = drawing_found (run c.args.name.now) d c.in_ok-run.ensures.drawn in
    let is = lonely run c.args.depth c.args.name.now d own c.in_default.ensures.parts in
    let reported = c.in_ok-own_through.ensures in
    (reported.0, ap (given_through c.args.moves.now c.args.last.now) is ∙ reported.1, reported.2)

pub returns-in_err-accent_move : goal.returns-in_err-accent_move
returns-in_err-accent_move g t c =
    let run = g.R.KeptRuns.drawn c.args.runs.now in
    let d = c.in_ok-run.run'.now.drawing in
    let parts = c.in-Some.parts.now in
    let own = drawing_found (run c.args.name.now) d c.in_ok-run.ensures.drawn in
    let part = outline_within run (c.args.depth - 1) in
    absurd (stuck run c.args.depth c.args.name.now d parts c.side_bearing.result c.in_err-accent_move.field-0.0 c.args.moves.now c.if-depth-eq0.false own c.in-Some.ensures.parts
    c.side_bearing.ensures c.in_err-accent_move.ensures.moved c.requires.passed)

pub own_through-requires-2-clause-passed : goal.own_through-requires-2-clause-passed
own_through-requires-2-clause-passed g t c =
    let run = g.R.KeptRuns.drawn c.args.runs.now in
    let d = c.in_ok-run.run'.now.drawing in
    let parts = c.in-Some.parts.now in
    let own = drawing_found (run c.args.name.now) d c.in_ok-run.ensures.drawn in
    let part = outline_within run (c.args.depth - 1) in
    let w = walks run c.args.depth c.args.name.now d parts c.side_bearing.result c.in_ok-accent_move.accent_move.by c.args.moves.now c.args.last.now c.if-depth-eq0.false own c.in-Some.ensures.parts
    c.side_bearing.ensures c.in_ok-accent_move.ensures.moved c.requires.passed in
    w.own

pub returns-in_err-own : goal.returns-in_err-own
returns-in_err-own g t c =
    let run = g.R.KeptRuns.drawn c.args.runs.now in
    let d = c.in_ok-run.run'.now.drawing in
    let parts = c.in-Some.parts.now in
    let own = drawing_found (run c.args.name.now) d c.in_ok-run.ensures.drawn in
    let part = outline_within run (c.args.depth - 1) in
    let w = walks run c.args.depth c.args.name.now d parts c.side_bearing.result c.in_ok-accent_move.accent_move.by c.args.moves.now c.args.last.now c.if-depth-eq0.false own c.in-Some.ensures.parts
    c.side_bearing.ensures c.in_ok-accent_move.ensures.moved c.requires.passed in
    let base = given_through c.args.moves.now c.args.last.now (part parts.base) in
    let accent = given_through (c.in_ok-accent_move.accent_move.by ∷ c.args.moves.now) c.args.last.now (part parts.accent) in
    let whole = given_through c.args.moves.now c.args.last.now (outline_within run c.args.depth c.args.name.now) in
    let drawn = through c.args.moves.now c.args.last.now d.segments in
    let p = err_from_is_err_and c.from_residual-in_err-own.result c.from_residual-in_err-own.ensures.1 in
    rw (p.1, p.2) (refused_reported c.in_err-own.field-0.0 whole (own_moved_refused drawn base accent whole c.in_err-own.field-0.0 w.parts c.in_err-own.ensures))

pub moved_reach-requires : goal.moved_reach-requires
moved_reach-requires g t c =
    let run = g.R.KeptRuns.drawn c.args.runs.now in
    let d = c.in_ok-run.run'.now.drawing in
    let parts = c.in-Some.parts.now in
    let own = drawing_found (run c.args.name.now) d c.in_ok-run.ensures.drawn in
    let part = outline_within run (c.args.depth - 1) in
    let w = walks run c.args.depth c.args.name.now d parts c.side_bearing.result c.in_ok-accent_move.accent_move.by c.args.moves.now c.args.last.now c.if-depth-eq0.false own c.in-Some.ensures.parts
    c.side_bearing.ensures c.in_ok-accent_move.ensures.moved c.requires.passed in
    let passed : IsOk (given_in_turn c.args.moves.now (part c.as_slice.result.now)) = subst (λ n. IsOk (given_in_turn c.args.moves.now (part n))) (sym c.as_slice.ensures) w.base_moves in
    search rules

pub returns-in_err-base : goal.returns-in_err-base
returns-in_err-base g t c =
    let run = g.R.KeptRuns.drawn c.args.runs.now in
    let d = c.in_ok-run.run'.now.drawing in
    let parts = c.in-Some.parts.now in
    let own = drawing_found (run c.args.name.now) d c.in_ok-run.ensures.drawn in
    let part = outline_within run (c.args.depth - 1) in
    let w = walks run c.args.depth c.args.name.now d parts c.side_bearing.result c.in_ok-accent_move.accent_move.by c.args.moves.now c.args.last.now c.if-depth-eq0.false own c.in-Some.ensures.parts
    c.side_bearing.ensures c.in_ok-accent_move.ensures.moved c.requires.passed in
    let base = given_through c.args.moves.now c.args.last.now (part parts.base) in
    let accent = given_through (c.in_ok-accent_move.accent_move.by ∷ c.args.moves.now) c.args.last.now (part parts.accent) in
    let whole = given_through c.args.moves.now c.args.last.now (outline_within run c.args.depth c.args.name.now) in
    let drawn = through c.args.moves.now c.args.last.now d.segments in
    let p = err_from_is_err_and c.from_residual-in_err-base.result c.from_residual-in_err-base.ensures.1 in
    let b = subst (λ n. GivesReached (Err c.in_err-base.field-0.0) (given_through c.args.moves.now c.args.last.now (part n))) c.as_slice.ensures c.in_err-base.ensures in
    rw (p.1, p.2) (base_moved_refused drawn base accent whole c.in_ok-own.own c.in_err-base.field-0.0 w.parts c.in_ok-own.ensures b)

pub moved_reach-requires-2 : goal.moved_reach-requires-2
moved_reach-requires-2 g t c =
    let run = g.R.KeptRuns.drawn c.args.runs.now in
    let d = c.in_ok-run.run'.now.drawing in
    let parts = c.in-Some.parts.now in
    let own = drawing_found (run c.args.name.now) d c.in_ok-run.ensures.drawn in
    let part = outline_within run (c.args.depth - 1) in
    let w = walks run c.args.depth c.args.name.now d parts c.side_bearing.result c.in_ok-accent_move.accent_move.by c.args.moves.now c.args.last.now c.if-depth-eq0.false own c.in-Some.ensures.parts
    c.side_bearing.ensures c.in_ok-accent_move.ensures.moved c.requires.passed in
    let moves' = c.as_slice-3.result.now in
    let same : moves' ≡ c.in_ok-accent_move.accent_move.by ∷ c.args.moves.now = c.as_slice-3.ensures.value ∙ c.in_ok-inner.ensures in
    let passed : IsOk (given_in_turn moves' (part c.as_slice-2.result.now)) =
    subst (λ ms. IsOk (given_in_turn ms (part c.as_slice-2.result.now))) (sym same)
    (subst (λ n. IsOk (given_in_turn (c.in_ok-accent_move.accent_move.by ∷ c.args.moves.now) (part n))) (sym c.as_slice-2.ensures) w.accent_moves) in
    let distances : All IsDistance moves' =
    subst (All IsDistance) (sym same) (All-cons IsDistance c.in_ok-accent_move.accent_move.by c.args.moves.now c.in_ok-accent_move.ensures.distance c.requires.moves) in
    search rules

pub returns-in_err-accent : goal.returns-in_err-accent
returns-in_err-accent g t c =
    let run = g.R.KeptRuns.drawn c.args.runs.now in
    let d = c.in_ok-run.run'.now.drawing in
    let parts = c.in-Some.parts.now in
    let own = drawing_found (run c.args.name.now) d c.in_ok-run.ensures.drawn in
    let part = outline_within run (c.args.depth - 1) in
    let w = walks run c.args.depth c.args.name.now d parts c.side_bearing.result c.in_ok-accent_move.accent_move.by c.args.moves.now c.args.last.now c.if-depth-eq0.false own c.in-Some.ensures.parts
    c.side_bearing.ensures c.in_ok-accent_move.ensures.moved c.requires.passed in
    let base = given_through c.args.moves.now c.args.last.now (part parts.base) in
    let accent = given_through (c.in_ok-accent_move.accent_move.by ∷ c.args.moves.now) c.args.last.now (part parts.accent) in
    let whole = given_through c.args.moves.now c.args.last.now (outline_within run c.args.depth c.args.name.now) in
    let drawn = through c.args.moves.now c.args.last.now d.segments in
    let moves' = c.as_slice-3.result.now in
    let same : moves' ≡ c.in_ok-accent_move.accent_move.by ∷ c.args.moves.now = c.as_slice-3.ensures.value ∙ c.in_ok-inner.ensures in
    let b = subst (λ n. GivesReached (Ok c.in_ok-base.base) (given_through c.args.moves.now c.args.last.now (part n))) c.as_slice.ensures c.in_ok-base.ensures in
    let p = err_from_is_err_and c.from_residual-in_err-accent.result c.from_residual-in_err-accent.ensures.1 in
    let a = subst (λ n. GivesReached (Err c.in_err-accent.field-0.0) (given_through (c.in_ok-accent_move.accent_move.by ∷ c.args.moves.now) c.args.last.now (part n))) c.as_slice-2.ensures
    (subst (λ ms. GivesReached (Err c.in_err-accent.field-0.0) (given_through ms c.args.last.now (part c.as_slice-2.result.now))) same c.in_err-accent.ensures) in
    rw (p.1, p.2) (accent_moved_refused drawn base accent whole c.in_ok-own.own c.in_ok-base.base c.in_err-accent.field-0.0 w.parts c.in_ok-own.ensures b a)

pub united-requires-2-clause-one : goal.united-requires-2-clause-one
united-requires-2-clause-one g t c =
    let own = c.in_ok-own.ensures in
    let base = c.in_ok-base.ensures in
    (_, c.united.ensures own.0 base.0 own.2 base.2)

pub returns : goal.returns
returns g t c =
    let run = g.R.KeptRuns.drawn c.args.runs.now in
    let d = c.in_ok-run.run'.now.drawing in
    let parts = c.in-Some.parts.now in
    let own = drawing_found (run c.args.name.now) d c.in_ok-run.ensures.drawn in
    let part = outline_within run (c.args.depth - 1) in
    let w = walks run c.args.depth c.args.name.now d parts c.side_bearing.result c.in_ok-accent_move.accent_move.by c.args.moves.now c.args.last.now c.if-depth-eq0.false own c.in-Some.ensures.parts
    c.side_bearing.ensures c.in_ok-accent_move.ensures.moved c.requires.passed in
    let base = given_through c.args.moves.now c.args.last.now (part parts.base) in
    let accent = given_through (c.in_ok-accent_move.accent_move.by ∷ c.args.moves.now) c.args.last.now (part parts.accent) in
    let whole = given_through c.args.moves.now c.args.last.now (outline_within run c.args.depth c.args.name.now) in
    let drawn = through c.args.moves.now c.args.last.now d.segments in
    let moves' = c.as_slice-3.result.now in
    let same : moves' ≡ c.in_ok-accent_move.accent_move.by ∷ c.args.moves.now = c.as_slice-3.ensures.value ∙ c.in_ok-inner.ensures in
    let b = subst (λ n. GivesReached (Ok c.in_ok-base.base) (given_through c.args.moves.now c.args.last.now (part n))) c.as_slice.ensures c.in_ok-base.ensures in
    let a = subst (λ n. GivesReached (Ok c.in_ok-accent.accent) (given_through (c.in_ok-accent_move.accent_move.by ∷ c.args.moves.now) c.args.last.now (part n))) c.as_slice-2.ensures
    (subst (λ ms. GivesReached (Ok c.in_ok-accent.accent) (given_through ms c.args.last.now (part c.as_slice-2.result.now))) same c.in_ok-accent.ensures) in
    moved_reported drawn base accent whole c.in_ok-own.own c.in_ok-base.base c.in_ok-accent.accent c.united.result c.united-2.result w.parts c.in_ok-own.ensures b a c.united.ensures c.united-2.ensures
