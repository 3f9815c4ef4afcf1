use Rattle.std.proofs.Common.{◌≡◌, ℕ, List, not, vec_len}
use Rattle.std.specs.Prelude.{◌&&◌}
use Rattle.t1_run.specs.Run.{Key}
use Rattle.t1_cache.specs.Users.{has_pair, lists, rest_of, users_at, HasUserRoom}
use Rattle.t1_cache.proofs.users.leave_all.Given as goal

-- without those that are left, the users are as all will leave them
abbrev pub invariant-loop-named : goal.invariant-loop-named
invariant-loop-named l = record {
  users : (k : Key) (u : List ℕ) → (lists l.records k u && not (has_pair l.left.items k u)) ≡ (lists l.fn.records k u && not (has_pair l.fn.leaves.items k u));
  room : (k : Key) (count : ℕ) → HasUserRoom count (users_at l.fn.records k) → HasUserRoom count (users_at l.records k);
  rest : rest_of l.records ≡ rest_of l.fn.records;
}

abbrev pub decreases-loop-named : goal.decreases-loop-named
decreases-loop-named l = vec_len l.left
