use Rattle.std.proofs.Common.{◌≡◌, take}
use Rattle.t1_run.specs.Run.{Key}
use Rattle.t1_cache.specs.Room.{count_at, IsRoomier, MayJoin}
use Rattle.t1_cache.specs.Users.{rest_of, users_at, pairs_of_key}
use Rattle.t1_cache.proofs.room.make_room.Given as goal

-- those that joined so far are counted, and have their room
abbrev pub invariant-loop-named : goal.invariant-loop-named
invariant-loop-named l = record {
  counts : (k : Key) → count_at l.counts k ≡ pairs_of_key (take l.named-index l.joins) k;
  room : (k : Key) → MayJoin (pairs_of_key (take l.named-index l.joins) k) (users_at l.records k);
  sets : (k : Key) → IsRoomier (users_at l.fn.records k) (users_at l.records k);
  rest : rest_of l.records ≡ rest_of l.fn.records;
}
