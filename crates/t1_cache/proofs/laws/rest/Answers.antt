use Rattle.t1_cache.proofs.Changing.{rest_same}
use Rattle.t1_cache.proofs.laws.rest.Goals as goal

pub returns : goal.returns
returns c = rest_same
