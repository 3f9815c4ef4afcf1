use Rattle.std.proofs.Common.{◌≡◌}
use Rattle.std.specs.List.{list_all}
use Rattle.t1_source.specs.WellFormed.{is_counted}
use Rattle.t1_font.proofs.lengths.are_counted.Given as goal

-- the items so far have such counts
abbrev pub invariant-loop-item : goal.invariant-loop-item
invariant-loop-item l =
    (goal.iterator-loop-item).can_next l.item-iterator × (goal.iterator-loop-item).is_finite l.item-iterator
    × (list_all is_counted l.item-iterator ≡ list_all is_counted l.items)
