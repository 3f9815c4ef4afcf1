use Rattle.t1_run.proofs.WithinOutlines.{drawn_within}
use Rattle.t1_run.proofs.laws.drawn_within.Goals as goal

pub returns : goal.returns
returns c = drawn_within
