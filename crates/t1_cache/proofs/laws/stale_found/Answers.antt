use Rattle.t1_cache.proofs.Joining.{found_stale}
use Rattle.t1_cache.proofs.laws.stale_found.Goals as goal

pub returns : goal.returns
returns c = found_stale
