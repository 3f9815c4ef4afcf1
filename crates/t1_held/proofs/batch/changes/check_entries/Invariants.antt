use Rattle.std.proofs.Common.{◌≡◌}
use Rattle.t1_held.specs.Noting.{kept_at, kept_bodies_check}
use Rattle.t1_held.proofs.batch.changes.check_entries.Given as goal

-- the first fault is that of the items that are left
abbrev pub invariant-loop-item : goal.invariant-loop-item
invariant-loop-item l =
    (goal.iterator-loop-item).can_next l.item-iterator × (goal.iterator-loop-item).is_finite l.item-iterator
    × (kept_bodies_check (kept_at l.bodies) l.item-iterator ≡ kept_bodies_check (kept_at l.bodies) l.items)
