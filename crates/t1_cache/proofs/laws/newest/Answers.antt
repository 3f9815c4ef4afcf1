use Rattle.t1_cache.proofs.Newest.{newest_drawn}
use Rattle.t1_cache.proofs.laws.newest.Goals as goal

pub returns : goal.returns
returns c = newest_drawn
