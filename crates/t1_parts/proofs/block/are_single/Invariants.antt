use Rattle.std.proofs.Common.{take}
use Rattle.t1_parts.specs.Stretches.{AreSingle}
use Rattle.t1_parts.proofs.block.are_single.Given as goal

-- each of the stretches passed is one item
abbrev pub invariant-loop-stretch : goal.invariant-loop-stretch
invariant-loop-stretch l = AreSingle (take l.stretch-index l.stretches)
