use Rattle.std.proofs.Common.{◌≡◌, Some, take}
use Rattle.t1_extent.specs.Ends.{bends}
use Rattle.t1_extent.specs.Extremes.{extremes, unite_extremes}
use Rattle.t1_extent.specs.Sides.{extremes_over}
use Rattle.t1_extent.proofs.drawn.with_bends.Given as goal

-- the extremes of the ends and of the curves so far
abbrev pub invariant-loop-segment : goal.invariant-loop-segment
invariant-loop-segment l =
    Some (extremes_over 262144 l.sides) ≡ unite_extremes (Some (extremes_over 262144 l.ends)) (extremes (bends (take l.segment-index l.segments)))
