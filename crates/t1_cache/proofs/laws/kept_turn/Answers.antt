use Rattle.t1_cache.proofs.EditedRecords.{turn_in_place}
use Rattle.t1_cache.proofs.laws.kept_turn.Goals as goal

pub returns : goal.returns
returns c = turn_in_place
