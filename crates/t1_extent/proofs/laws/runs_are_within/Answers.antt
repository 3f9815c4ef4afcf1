use Rattle.t1_extent.proofs.Runs.{runs_law}
use Rattle.t1_extent.proofs.laws.runs_are_within.Goals as goal

pub returns : goal.returns
returns c = runs_law
