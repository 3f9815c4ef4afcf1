use Rattle.t1_faults.proofs.CheckLaws.{none_found}
use Rattle.t1_faults.proofs.laws.none_where_check_passes.Goals as goal

pub returns : goal.returns
returns c = none_found
