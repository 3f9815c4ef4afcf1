use Rattle.std.proofs.Common.{◌≡◌, length, take}
use Rattle.t1_tree.specs.Trees.{trees_joined}
use Rattle.t1_tree.proofs.parts.len_of_trees.Given as goal

-- the elements of the trees passed
abbrev pub invariant-loop-tree : goal.invariant-loop-tree
invariant-loop-tree g l = l.len ≡ length (trees_joined (take l.tree-index l.trees))
