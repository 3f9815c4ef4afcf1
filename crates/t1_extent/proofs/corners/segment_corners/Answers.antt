use Rattle.std.proofs.Common.{◌^◌, subst}
use Rattle.t1_extent.specs.Extremes.{IsWholeSegment}
use Rattle.t1_extent.proofs.corners.segment_corners.Goals as goal

pub returns-in-Line-clause-fine : goal.returns-in-Line-clause-fine
returns-in-Line-clause-fine c = c.reaching.ensures.fine (2 ^ 20) c.point_extent.ensures.fine c.point_extent-in-Line.ensures.fine

pub returns-in-Curve-clause-fine : goal.returns-in-Curve-clause-fine
returns-in-Curve-clause-fine c =
    let two = c.reaching-in-Curve.ensures.fine (2 ^ 20) c.point_extent-in-Curve.ensures.fine c.point_extent-in-Curve-2.ensures.fine in
    let three = c.reaching-in-Curve-2.ensures.fine (2 ^ 20) two c.point_extent-in-Curve-3.ensures.fine in
    c.reaching-in-Curve-3.ensures.fine (2 ^ 20) three c.point_extent-in-Curve-4.ensures.fine

pub returns-in-Line-clause-whole : goal.returns-in-Line-clause-whole
returns-in-Line-clause-whole c = λ whole.
    let w = subst IsWholeSegment c.in-Line.is whole in
    c.reaching.ensures.fine 1 (c.point_extent.ensures.whole w.0) (c.point_extent-in-Line.ensures.whole w.1)

pub returns-in-Curve-clause-whole : goal.returns-in-Curve-clause-whole
returns-in-Curve-clause-whole c = λ whole.
    let w = subst IsWholeSegment c.in-Curve.is whole in
    let two = c.reaching-in-Curve.ensures.fine 1 (c.point_extent-in-Curve.ensures.whole w.0) (c.point_extent-in-Curve-2.ensures.whole w.1) in
    let three = c.reaching-in-Curve-2.ensures.fine 1 two (c.point_extent-in-Curve-3.ensures.whole w.2) in
    c.reaching-in-Curve-3.ensures.fine 1 three (c.point_extent-in-Curve-4.ensures.whole w.3)
