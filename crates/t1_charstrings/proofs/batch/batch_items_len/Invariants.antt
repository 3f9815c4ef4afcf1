use Rattle.std.proofs.Common.{◌≡◌, ◌<◌, ◌+◌, ◌^◌, ◌-◌, min, length}
use Rattle.t1_charstrings.specs.Batch.{fresh_over, text_by}
use Rattle.t1_charstrings.proofs.batch.batch_items_len.Given as goal

-- the lines of the items so far, and those of the rest
abbrev pub invariant-loop-item : goal.invariant-loop-item
invariant-loop-item l =
    (goal.iterator-loop-item).can_next l.item-iterator × (goal.iterator-loop-item).is_finite l.item-iterator
    × (l.total < 2 ^ 64)
    × (min (l.total + length (text_by (fresh_over l.fresh l.charstrings) l.operator l.item-iterator)) (2 ^ 64 - 1)
    ≡ min (length (text_by (fresh_over l.fresh l.charstrings) l.operator l.items)) (2 ^ 64 - 1))
