use Rattle.std.proofs.Common.{drop, Ok}
use Rattle.t1_afm.proofs.Boxes.{Rest}
use Rattle.t1_afm.proofs.measuring.bounding_box.Given as goal

-- what was found, and the box of the rest
abbrev pub invariant-loop-segment : goal.invariant-loop-segment
invariant-loop-segment l = Rest (Ok (drop l.segment-index l.segments)) l.extent (Ok l.fn.segments)
