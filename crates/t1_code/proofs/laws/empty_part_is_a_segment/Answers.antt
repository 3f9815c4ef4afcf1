use Rattle.t1_code.proofs.Framing.{empty_segment}
use Rattle.t1_code.proofs.laws.empty_part_is_a_segment.Goals as goal

pub returns : goal.returns
returns c = empty_segment
