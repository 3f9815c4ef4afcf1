use Rattle.t1_cache.proofs.EditedRecords.{kept_in_place}
use Rattle.t1_cache.proofs.laws.kept_after.Goals as goal

pub returns : goal.returns
returns c = kept_in_place
