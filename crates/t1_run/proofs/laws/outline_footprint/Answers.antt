use Rattle.t1_run.proofs.Outlines.{outline_same}
use Rattle.t1_run.proofs.laws.outline_footprint.Goals as goal

pub returns : goal.returns
returns c = outline_same
