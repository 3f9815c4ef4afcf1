use Rattle.t1_faults.proofs.StandingOnLaws.{composites_there}
use Rattle.t1_faults.proofs.laws.composites_stand_there.Goals as goal

pub returns : goal.returns
returns c = composites_there
