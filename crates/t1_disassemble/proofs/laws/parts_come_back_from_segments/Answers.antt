use Rattle.t1_disassemble.proofs.SegmentLaws.{however_cut}
use Rattle.t1_disassemble.proofs.laws.parts_come_back_from_segments.Goals as goal

pub returns : goal.returns
returns c = however_cut
