use Rattle.std.proofs.Common.{◌≡◌, ◌++◌, take}
use Rattle.t1_tree.proofs.copies.add_copies.Given as goal

-- those that were there, and the elements passed
abbrev pub invariant-loop-item : goal.invariant-loop-item
invariant-loop-item g l = l.copies.items ≡ l.initial.copies.items ++ take l.item-index l.items
