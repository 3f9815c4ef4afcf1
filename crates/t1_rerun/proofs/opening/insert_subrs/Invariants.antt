use Rattle.std.proofs.Common.{length}
use Rattle.t1_rerun.proofs.Building.{AreInserted}
use Rattle.t1_rerun.proofs.opening.insert_subrs.Given as goal

-- those that are left, in front of those that have a record
abbrev pub invariant-loop-number : goal.invariant-loop-number
invariant-loop-number l = AreInserted l.fn.records l.fn.bodies.entries l.left.entries l.records

abbrev pub decreases-loop-number : goal.decreases-loop-number
decreases-loop-number l = length l.left.entries
