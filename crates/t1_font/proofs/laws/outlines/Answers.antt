use Rattle.t1_font.proofs.Outlining.{outlines_are}
use Rattle.t1_font.proofs.laws.outlines.Goals as goal

pub returns : goal.returns
returns c = outlines_are
