use Rattle.std.proofs.Common.{◌≡◌, take}
use Rattle.t1_tree.specs.Sums.{sum_all}
use Rattle.t1_tree.proofs.parts.sum_of_elements.Given as goal

-- the elements passed
abbrev pub invariant-loop-item : goal.invariant-loop-item
invariant-loop-item g l = l.sum ≡ sum_all g.T.Sum.Sum.none g.T.Sum.Sum.plus g.T.Element.sum_of (take l.item-index l.items)
