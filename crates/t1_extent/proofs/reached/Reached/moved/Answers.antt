use Rattle.std.proofs.lemmas.Result.{err_from_is_err_and}
use Rattle.t1_extent.proofs.Reaching.{moves_not, mixed_whole, never_drawn, moved_near, moved_whole, moved_fraction, moved_rounded}
use Rattle.t1_extent.proofs.reached.Reached.moved.Goals as goal

pub returns-in_err-corners : goal.returns-in_err-corners
returns-in_err-corners c =
    let p = err_from_is_err_and c.from_residual.result c.from_residual.ensures.1 in
    rw (p.1, p.2) (λ outline h. moves_not c.args.by.now c.args.self.now outline _ c.requires.distance c.requires.easy h c.in_err-corners.ensures.outcome)

pub moved_bbox-requires-clause-size : goal.moved_bbox-requires-clause-size
moved_bbox-requires-clause-size c =
    let some = c.requires.reach in
    let whole = mixed_whole c.args.by.now c.args.self.now c.in-Mixed.bbox c.requires.easy c.in-Mixed.is in
    moved_near c.args.by.now c.args.self.now c.in-Mixed.bbox some.0 c.requires.distance c.requires.easy whole some.1 c.in-Mixed.is c.in_ok-corners.ensures.outcome

pub returns-in_err-moved-in-Whole : goal.returns-in_err-moved-in-Whole
returns-in_err-moved-in-Whole c = λ outline h.
    absurd (never_drawn c.args.by.now c.args.self.now c.in-Whole.extent outline _ c.requires.distance c.requires.easy h c.in-Whole.is c.in_ok-corners.ensures.outcome
    c.in_err-moved-in-Whole.ensures.outcome)

pub returns-in-Mixed : goal.returns-in-Mixed
returns-in-Mixed c = λ outline h.
    let whole = mixed_whole c.args.by.now c.args.self.now c.in-Mixed.bbox c.requires.easy c.in-Mixed.is in
    moved_rounded c.args.by.now c.args.self.now c.in-Mixed.bbox c.moved_bbox.result c.in_ok-corners.corners outline c.requires.distance c.requires.easy whole h c.in-Mixed.is
    c.in_ok-corners.ensures.outcome c.in_ok-corners.ensures.value c.in_ok-corners.ensures.fine c.moved_bbox.ensures

pub returns-then-is_whole : goal.returns-then-is_whole
returns-then-is_whole c = λ outline h.
    moved_whole c.args.by.now c.args.self.now c.in-Whole.extent c.in_ok-moved-in-Whole.moved c.in_ok-corners.corners outline c.requires.distance c.requires.easy
    (c.is_whole.ensures.whole c.if-is_whole.true) h c.in-Whole.is c.in_ok-corners.ensures.outcome
    c.in_ok-moved-in-Whole.ensures.value c.in_ok-moved-in-Whole.ensures.fine c.in_ok-corners.ensures.value c.in_ok-corners.ensures.fine

pub returns-else-is_whole : goal.returns-else-is_whole
returns-else-is_whole c = λ outline h.
    moved_fraction c.args.by.now c.args.self.now c.in-Whole.extent c.in_ok-moved-in-Whole.moved c.in_ok-corners.corners c.rounded_extent.result outline
    c.requires.distance c.requires.easy h c.in-Whole.is c.in_ok-corners.ensures.outcome
    c.in_ok-moved-in-Whole.ensures.value c.in_ok-corners.ensures.value c.in_ok-corners.ensures.whole c.rounded_extent.ensures
