use Rattle.t1_calls.proofs.VerdictLaws.{none_where_it_passes}
use Rattle.t1_calls.proofs.laws.none_where_it_passes.Goals as goal

pub returns : goal.returns
returns c = none_where_it_passes
