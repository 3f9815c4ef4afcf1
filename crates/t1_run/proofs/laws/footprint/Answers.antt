use Rattle.t1_run.proofs.Agreeing.{own_same}
use Rattle.t1_run.proofs.laws.footprint.Goals as goal

pub returns : goal.returns
returns c = own_same
