use Rattle.t1_cache.proofs.Distinct.{names_distinct}
use Rattle.t1_cache.proofs.laws.distinct.Goals as goal

pub returns : goal.returns
returns c = names_distinct
