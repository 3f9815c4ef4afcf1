use Rattle.t1_run.proofs.Untouched.{untouched_kept}
use Rattle.t1_run.proofs.laws.untouched.Goals as goal

pub returns : goal.returns
returns c = untouched_kept
