use Rattle.t1_cache.proofs.Counting.{found_count}
use Rattle.t1_cache.proofs.laws.count.Goals as goal

pub returns : goal.returns
returns c = found_count
