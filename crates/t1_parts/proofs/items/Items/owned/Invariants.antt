use Rattle.std.proofs.Common.{◌≡◌, ◌++◌}
use Rattle.t1_parts.proofs.items.Items.owned.Given as goal

-- the items copied so far, and those that are left
abbrev pub invariant-loop-item : goal.invariant-loop-item
invariant-loop-item l =
    (goal.iterator-loop-item).can_next l.item-iterator × (goal.iterator-loop-item).is_finite l.item-iterator × (l.owned ++ l.item-iterator ≡ l.fn.self)
