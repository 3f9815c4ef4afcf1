use Rattle.t1_run.proofs.Asked.{parts_there}
use Rattle.t1_run.proofs.laws.parts.Goals as goal

pub returns : goal.returns
returns c = parts_there
