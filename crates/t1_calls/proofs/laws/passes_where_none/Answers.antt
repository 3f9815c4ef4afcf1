use Rattle.t1_calls.proofs.VerdictLaws.{passes_where_none}
use Rattle.t1_calls.proofs.laws.passes_where_none.Goals as goal

pub returns : goal.returns
returns c = passes_where_none
