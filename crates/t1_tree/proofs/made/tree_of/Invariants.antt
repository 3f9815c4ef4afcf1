use Rattle.std.proofs.Common.{◌≡◌, ◌+◌, ◌<◌, ◌^◌, length}
use Rattle.t1_tree.specs.Trees.{trees_joined, AreBelow, AreFilled}
use Rattle.t1_tree.proofs.made.tree_of.Given as goal

-- the trees of a level have all elements, and are fewer than those of the level below
abbrev pub invariant-loop-alloc : goal.invariant-loop-alloc
invariant-loop-alloc g l =
    (trees_joined l.trees.items ≡ l.fn.items.items) × AreFilled l.trees.items × AreBelow (l.height + 1) l.trees.items × (l.height + length l.trees.items < 2 ^ 64)

abbrev pub decreases-loop-alloc : goal.decreases-loop-alloc
decreases-loop-alloc g l = length l.trees.items
