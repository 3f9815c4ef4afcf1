use Rattle.t1_text.proofs.NumberLaws.{count_read}
use Rattle.t1_text.proofs.names.count_of.Goals as goal

pub returns : goal.returns
returns c = record { value = count_read c.args.digits.now c.leading_number.result.1 c.leading_number.result.0 c.requires c.leading_number.ensures.count c.leading_number.ensures.value }
