use Rattle.std.proofs.Common.{◌≡◌, ℕ, List, vec_len}
use Rattle.std.specs.Prelude.{◌||◌}
use Rattle.t1_run.specs.Run.{Key}
use Rattle.t1_cache.specs.Users.{has_pair, lists, rest_of, users_at, pairs_of_key, HasUserRoom}
use Rattle.t1_cache.proofs.users.join_all.Given as goal

-- those that are left have their room, and with them all will be there
abbrev pub invariant-loop-named : goal.invariant-loop-named
invariant-loop-named l = record {
  room : (k : Key) → HasUserRoom (pairs_of_key l.left.items k) (users_at l.records k);
  users : (k : Key) (u : List ℕ) → (lists l.records k u || has_pair l.left.items k u) ≡ (lists l.fn.records k u || has_pair l.fn.joins.items k u);
  rest : rest_of l.records ≡ rest_of l.fn.records;
}

abbrev pub decreases-loop-named : goal.decreases-loop-named
decreases-loop-named l = vec_len l.left
