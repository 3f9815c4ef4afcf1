use Rattle.std.proofs.Common.{◌≡◌, ◌++◌}
use Rattle.t1_run.specs.Run.{Key}
use Rattle.t1_held.specs.Noting.{added_keys, all_bodies, kept_at, nothing_kept, other_keys}
use Rattle.t1_held.proofs.batch.changes.noted_entries.Given as goal

-- with those that are left, all entries are noted
abbrev pub invariant-loop-entry : goal.invariant-loop-entry
invariant-loop-entry l = record {
  bodies : (k : Key) → all_bodies l.entry-iterator.rest.items (kept_at l.noted.bodies) k ≡ all_bodies l.fn.entries.items nothing_kept k;
  added : l.noted.added.items ++ added_keys l.entry-iterator.rest.items ≡ added_keys l.fn.entries.items;
  others : l.noted.others.items ++ other_keys l.entry-iterator.rest.items ≡ other_keys l.fn.entries.items;
}
