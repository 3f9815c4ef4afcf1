use Rattle.t1_disassemble.proofs.SegmentLaws.{pfb_again}
use Rattle.t1_disassemble.proofs.laws.parts_come_back_from_pfb.Goals as goal

pub returns : goal.returns
returns c = pfb_again
