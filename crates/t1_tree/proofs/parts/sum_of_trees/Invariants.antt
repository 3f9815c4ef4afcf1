use Rattle.std.proofs.Common.{◌≡◌, take}
use Rattle.t1_tree.specs.Sums.{sum_all}
use Rattle.t1_tree.specs.Trees.{trees_joined}
use Rattle.t1_tree.proofs.parts.sum_of_trees.Given as goal

-- the trees passed
abbrev pub invariant-loop-tree : goal.invariant-loop-tree
invariant-loop-tree g l = l.sum ≡ sum_all g.T.Sum.Sum.none g.T.Sum.Sum.plus g.T.Element.sum_of (trees_joined (take l.tree-index l.trees))
