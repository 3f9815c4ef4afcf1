use Rattle.t1_cache.proofs.Recorded.{runs_recorded}
use Rattle.t1_cache.proofs.laws.recorded.Goals as goal

pub returns : goal.returns
returns c = runs_recorded
