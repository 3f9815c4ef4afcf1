use Rattle.std.proofs.Common.{◌≡◌, ◌++◌, take}
use Rattle.t1_tree.proofs.copies.add_again.Given as goal

-- those that were there, and the trees passed
abbrev pub invariant-loop-tree : goal.invariant-loop-tree
invariant-loop-tree g l = l.trees.items ≡ l.initial.trees.items ++ take l.tree-index l.others
