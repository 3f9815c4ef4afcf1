use Rattle.std.proofs.Common.{Some, arith}
use Rattle.t1_extent.specs.Ends.{bends_of}
use Rattle.t1_extent.specs.Sides.{extremes_over}
use Rattle.t1_extent.proofs.Bending.{bends_numbers, sides_lowest}
use Rattle.t1_extent.proofs.Slices.{extremes-onto}
use Rattle.t1_extent.proofs.drawn.with_bends.Goals as goal

pub loop-segment-preserved : goal.loop-segment-preserved
loop-segment-preserved c =
    extremes-onto bends_of bends_numbers (Some (extremes_over 262144 c.args.ends.now)) (sides_lowest c.args.ends.now) c.args.segments.now c.loop-segment.segment-index c.segment-item.result _ _ (omega arith) c.requires.within c.segment-item.is
    c.loop-segment.invariant c.with_bend-sides.ensures
