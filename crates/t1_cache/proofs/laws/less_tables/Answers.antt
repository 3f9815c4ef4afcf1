use Rattle.t1_cache.proofs.Joining.{tables_less}
use Rattle.t1_cache.proofs.laws.less_tables.Goals as goal

pub returns : goal.returns
returns c = tables_less
