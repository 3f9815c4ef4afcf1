use Rattle.t1_run.proofs.WithinOutlines.{outlines_within}
use Rattle.t1_run.proofs.laws.outlines_within.Goals as goal

pub returns : goal.returns
returns c = outlines_within
