use Rattle.std.proofs.Common.{◌≡◌, take}
use Rattle.t1_run.specs.Run.{Key}
use Rattle.t1_cache.specs.Room.{count_at}
use Rattle.t1_cache.specs.Users.{pairs_of_key}
use Rattle.t1_cache.proofs.room.count_joins.Given as goal

-- those that joined so far are counted
abbrev pub invariant-loop-named : goal.invariant-loop-named
invariant-loop-named l = (k : Key) → count_at l.counts k ≡ pairs_of_key (take l.named-index l.joins) k
