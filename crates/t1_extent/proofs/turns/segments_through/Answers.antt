use Rattle.std.proofs.Common.{◌<◌, ◌∙◌, ap, drop, length, subst, sym, ◌+◌}
use Rattle.std.specs.Prelude.{Ok, ◌∷◌}
use Rattle.std.proofs.lemmas.Result.{err_from_is_err_and}
use Rattle.t1_frac.specs.Outcome.{◌>>=◌}
use Rattle.t1_extent.specs.Reached.{ReportsAtOnce}
use Rattle.t1_extent.proofs.Reaching.{leads_on, leads_end, leads_refused}
use Rattle.t1_extent.proofs.Turning.{each_through, through_each, rest_at, rest_end}
use Rattle.t1_extent.proofs.turns.segments_through.Goals as goal

pub returns-in_err-moved : goal.returns-in_err-moved
returns-in_err-moved c =
    let moves = c.args.moves.now in
    let last = c.args.last.now in
    let xs = c.args.segments.now in
    let i = c.loop-segment.segment-index in
    let inside : i < length xs = c.loop-segment-test.true in
    let rest = rest_at moves last xs i c.segment-item.result inside c.segment-item.is
    ∙ sym (ap (λ t. t >>= (λ s'. each_through moves last (drop (i + 1) xs) >>= (λ ss'. Ok (s' ∷ ss')))) c.in_err-moved.ensures.moved) in
    let p = err_from_is_err_and c.from_residual.result c.from_residual.ensures.1 in
    rw (p.1, p.2) (through_each moves last xs c.requires ∙ leads_refused c.loop-segment.reached (each_through moves last (drop i xs)) (each_through moves last xs) _ c.loop-segment.invariant rest)

pub loop-segment-preserved : goal.loop-segment-preserved
loop-segment-preserved c =
    let moves = c.args.moves.now in
    let last = c.args.last.now in
    let xs = c.args.segments.now in
    let i = c.loop-segment.segment-index in
    let inside : i < length xs = c.loop-segment-test.true in
    let rest = rest_at moves last xs i c.segment-item.result inside c.segment-item.is
    ∙ sym (ap (λ t. t >>= (λ s'. each_through moves last (drop (i + 1) xs) >>= (λ ss'. Ok (s' ∷ ss')))) c.in_ok-moved.ensures.moved) in
    leads_on c.loop-segment.reached c.of_segment.result c.united-reached.result c.in_ok-moved.moved (each_through moves last (drop i xs)) (each_through moves last (drop (i + 1) xs))
    (each_through moves last xs) c.loop-segment.invariant rest c.of_segment.ensures c.united-reached.ensures

pub returns : goal.returns
returns c =
    let moves = c.args.moves.now in
    let last = c.args.last.now in
    let xs = c.args.segments.now in
    subst (ReportsAtOnce (Ok c.loop-segment.reached)) (sym (through_each moves last xs c.requires))
    (leads_end c.loop-segment.reached (each_through moves last (drop c.loop-segment.segment-index xs)) (each_through moves last xs) c.loop-segment.invariant
    (rest_end moves last xs c.loop-segment.segment-index c.loop-segment-test.false))
