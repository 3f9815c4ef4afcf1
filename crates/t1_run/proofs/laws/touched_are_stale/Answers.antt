use Rattle.t1_run.proofs.TouchedClosure.{touched_are_stale}
use Rattle.t1_run.proofs.laws.touched_are_stale.Goals as goal

pub returns : goal.returns
returns c = touched_are_stale
