use Rattle.t1_cache.proofs.There.{uses_there}
use Rattle.t1_cache.proofs.laws.uses_there.Goals as goal

pub returns : goal.returns
returns c = uses_there
