use Rattle.t1_cache.proofs.Rerunning.{records_rerun}
use Rattle.t1_cache.proofs.laws.reruns.Goals as goal

pub returns : goal.returns
returns c = records_rerun
