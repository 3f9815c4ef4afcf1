use Rattle.std.proofs.Common.{◌≡◌}
use Rattle.t1_parts.specs.Operator.{operator_among}
use Rattle.t1_parts.proofs.operator.operator_of.Given as goal

-- no item before the rest holds the text
abbrev pub invariant-loop-item : goal.invariant-loop-item
invariant-loop-item l =
    (goal.iterator-loop-item).can_next l.item-iterator × (goal.iterator-loop-item).is_finite l.item-iterator
    × (operator_among l.item-iterator ≡ operator_among l.fn.items)
