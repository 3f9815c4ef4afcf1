use Rattle.std.proofs.Common.{drop}
use Rattle.t1_run.specs.Composite.{moved_outline}
use Rattle.t1_afm.proofs.Boxes.{Rest}
use Rattle.t1_afm.proofs.measuring.measure.Given as goal

abbrev pub invariant-loop-segment : goal.invariant-loop-segment
invariant-loop-segment l = Rest (moved_outline l.offset (drop l.segment-index l.segments)) l.extent (moved_outline l.fn.offset l.fn.segments)
