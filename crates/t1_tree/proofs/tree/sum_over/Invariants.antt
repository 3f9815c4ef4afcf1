use Rattle.std.proofs.Common.{◌≡◌, take}
use Rattle.t1_tree.specs.Sums.{sum_from}
use Rattle.t1_tree.proofs.tree.sum_over.Given as goal

-- the elements passed
abbrev pub invariant-loop-item : goal.invariant-loop-item
invariant-loop-item g l = l.through ≡ sum_from l.fn.sum g.T.Sum.Sum.plus g.T.Element.sum_of (take l.item-index l.items)
