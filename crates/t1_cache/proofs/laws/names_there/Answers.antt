use Rattle.t1_cache.proofs.NamesThere.{names_there}
use Rattle.t1_cache.proofs.laws.names_there.Goals as goal

pub returns : goal.returns
returns c = names_there
