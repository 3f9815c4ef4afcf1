use Rattle.std.proofs.Common.{◌++◌}
use Rattle.t1_tree.proofs.MadeLaws.{IsLeaves}
use Rattle.t1_tree.proofs.made.leaves_of.Given as goal

-- the leaves made, the elements of the next one, and those that are left
abbrev pub invariant-loop-item : goal.invariant-loop-item
invariant-loop-item g l = IsLeaves l.fn.items.items l.leaves.items (l.leaf.items ++ l.item-iterator.rest.items)
