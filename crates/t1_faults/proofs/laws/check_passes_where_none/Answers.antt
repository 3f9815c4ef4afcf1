use Rattle.t1_faults.proofs.CheckLaws.{found_none}
use Rattle.t1_faults.proofs.laws.check_passes_where_none.Goals as goal

pub returns : goal.returns
returns c = found_none
