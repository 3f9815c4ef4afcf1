use Rattle.std.proofs.Common.{◌++◌}
use Rattle.t1_tree.proofs.MadeLaws.{IsLevel}
use Rattle.t1_tree.proofs.made.level_of.Given as goal

-- the trees made, those below the next one, and those that are left
abbrev pub invariant-loop-tree : goal.invariant-loop-tree
invariant-loop-tree g l = IsLevel l.fn.trees.items l.height l.level.items (l.below.items ++ l.tree-iterator.rest.items)
