use Rattle.std.proofs.Common.{◌≡◌, ◌++◌}
use Rattle.t1_run.specs.Run.{Key}
use Rattle.t1_held.specs.Noting.{after_taken, all_taken, kept_at}
use Rattle.t1_held.proofs.batch.changes.push_changes.Given as goal

-- the changes so far, in front of those of the entries that are left
abbrev pub invariant-loop-named : goal.invariant-loop-named
invariant-loop-named l = record {
  pushed : l.fn.changes.items ++ all_taken (kept_at l.fn.bodies) l.fn.moved l.fn.entries.items
      ≡ l.changes.items ++ all_taken (kept_at l.bodies) l.fn.moved l.named-iterator.rest.items;
  left : (k : Key) → after_taken l.named-iterator.rest.items (kept_at l.bodies) k ≡ after_taken l.fn.entries.items (kept_at l.fn.bodies) k;
}
