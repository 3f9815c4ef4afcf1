use Rattle.t1_cache.proofs.Rooming.{room_for_joins}
use Rattle.t1_cache.proofs.laws.room.Goals as goal

pub returns : goal.returns
returns c = room_for_joins
