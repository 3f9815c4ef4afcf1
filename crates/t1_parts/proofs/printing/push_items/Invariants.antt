use Rattle.std.proofs.Common.{◌≡◌, ◌++◌, flat_map}
use Rattle.t1_text.specs.Lines.{joined}
use Rattle.t1_parts.specs.Printing.{item_lines}
use Rattle.t1_parts.proofs.printing.push_items.Given as goal

-- the text so far, and the lines of the rest
abbrev pub invariant-loop-item : goal.invariant-loop-item
invariant-loop-item l =
    (goal.iterator-loop-item).can_next l.item-iterator × (goal.iterator-loop-item).is_finite l.item-iterator
    × (l.text.items ++ joined (flat_map item_lines l.item-iterator) ≡ l.initial.text.items ++ joined (flat_map item_lines l.fn.items))
