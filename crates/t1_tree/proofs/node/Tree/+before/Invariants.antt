use Rattle.std.proofs.Common.{◌≡◌, ◌<◌, Bool, false, length, take}
use Rattle.std.specs.Fn.{ComputesKey}
use Rattle.t1_tree.specs.Sums.{sum_from}
use Rattle.t1_tree.specs.Trees.{trees_joined}
use Rattle.t1_tree.proofs.node.Tree.+before.Given as goal

-- the elements passed, and that their sum isn't reached
abbrev pub invariant-loop-item : goal.invariant-loop-item
invariant-loop-item g l =
    (l.passed ≡ l.item-index) × goal.F-IsAlwaysCallable g l.is_reached
    × (l.sum ≡ sum_from l.fn.before g.T.Sum.Sum.plus g.T.Element.sum_of (take l.item-index l.item-items))
    × ((by : g.row.T-Sum.Denot → Bool) → ComputesKey g.F.FnMut by l.initial.is_reached → ComputesKey g.F.FnMut by l.is_reached × (0 < l.item-index → by l.sum ≡ false))

-- the elements of the trees passed, and that their sum isn't reached
abbrev pub invariant-loop-tree : goal.invariant-loop-tree
invariant-loop-tree g l =
    (l.passed ≡ length (trees_joined (take l.tree-index l.tree-items))) × goal.F-IsAlwaysCallable g l.is_reached
    × (l.sum ≡ sum_from l.fn.before g.T.Sum.Sum.plus g.T.Element.sum_of (trees_joined (take l.tree-index l.tree-items)))
    × ((by : g.row.T-Sum.Denot → Bool) → ComputesKey g.F.FnMut by l.initial.is_reached → ComputesKey g.F.FnMut by l.is_reached × (0 < l.passed → by l.sum ≡ false))
