use Rattle.t1_cache.proofs.Joining.{tables_kept}
use Rattle.t1_cache.proofs.laws.joins.Goals as goal

pub returns : goal.returns
returns c = tables_kept
