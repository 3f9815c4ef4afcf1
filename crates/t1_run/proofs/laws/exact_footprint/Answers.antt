use Rattle.t1_run.proofs.Asked.{exact}
use Rattle.t1_run.proofs.laws.exact_footprint.Goals as goal

pub returns : goal.returns
returns c = exact
