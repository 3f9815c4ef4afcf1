use Rattle.std.proofs.Common.{◌≡◌, filter, max}
use Rattle.t1_parts.specs.Counts.{subrs_needed}
use Rattle.t1_parts.specs.Stretches.{stands_alone}
use Rattle.t1_parts.proofs.starts.subrs_needed.Given as goal

-- what was needed so far, and what the rest needs
abbrev pub invariant-loop-item : goal.invariant-loop-item
invariant-loop-item l =
    (goal.iterator-loop-item).can_next l.item-iterator × (goal.iterator-loop-item).is_finite l.item-iterator
    × (max l.needed (subrs_needed l.item-iterator) ≡ subrs_needed (filter stands_alone l.fn.items))
