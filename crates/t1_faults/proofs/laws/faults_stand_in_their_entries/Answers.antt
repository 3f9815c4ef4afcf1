use Rattle.t1_faults.proofs.FaultPlaceLaws.{each_stands}
use Rattle.t1_faults.proofs.laws.faults_stand_in_their_entries.Goals as goal

pub returns : goal.returns
returns c = each_stands
