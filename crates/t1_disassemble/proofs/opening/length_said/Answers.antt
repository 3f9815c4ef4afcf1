use Rattle.t1_disassemble.proofs.Openings.{length_read}
use Rattle.t1_disassemble.proofs.opening.length_said.Goals as goal

pub returns : goal.returns
returns c = length_read c.args.digits.now c.leading_number.result.1 c.leading_number.result.0 c.requires c.leading_number.ensures.count c.leading_number.ensures.value
