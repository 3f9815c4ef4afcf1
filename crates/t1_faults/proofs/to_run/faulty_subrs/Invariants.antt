use Rattle.std.proofs.Common.{◌≡◌, ℕ}
use Rattle.std.specs.Prelude.{◌||◌}
use Rattle.std.specs.List.{list_any}
use Rattle.t1_faults.specs.Failing.{is_faulty_subr}
use Rattle.t1_run.specs.RunKeys.{has_number}
use Rattle.t1_faults.proofs.to_run.faulty_subrs.Given as goal

-- the numbers so far, or those of the items that are left
abbrev pub invariant-loop-item : goal.invariant-loop-item
invariant-loop-item l =
    (goal.iterator-loop-item).can_next l.item-iterator × (goal.iterator-loop-item).is_finite l.item-iterator
    × ((n : ℕ) → (has_number l.faulty.keys n || list_any (is_faulty_subr n) l.item-iterator) ≡ list_any (is_faulty_subr n) l.items)
