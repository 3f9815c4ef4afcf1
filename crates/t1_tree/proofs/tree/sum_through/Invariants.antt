use Rattle.std.proofs.Common.{◌≡◌, take}
use Rattle.t1_tree.specs.Sums.{sum_from}
use Rattle.t1_tree.specs.Trees.{trees_joined}
use Rattle.t1_tree.proofs.tree.sum_through.Given as goal

-- the elements of the trees passed
abbrev pub invariant-loop-tree : goal.invariant-loop-tree
invariant-loop-tree g l =
    (l.through ≡ sum_from l.fn.sum g.T.Sum.Sum.plus g.T.Element.sum_of (trees_joined (take l.tree-index l.trees)))
    × (g.T.Sum.Sum.plus l.through g.T.Sum.Sum.none ≡ l.through)
