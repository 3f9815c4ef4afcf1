use Rattle.t1_code.proofs.Framing.{whole_segments}
use Rattle.t1_code.proofs.laws.largest_block_holds_the_file.Goals as goal

pub returns : goal.returns
returns c = whole_segments
