use Rattle.t1_cache.proofs.Joining.{tables_first}
use Rattle.t1_cache.proofs.laws.first_tables.Goals as goal

pub returns : goal.returns
returns c = tables_first
