use Rattle.t1_faults.proofs.TellingLaws.{answered}
use Rattle.t1_faults.proofs.laws.reported_fault_is_found.Goals as goal

pub returns : goal.returns
returns c = answered
