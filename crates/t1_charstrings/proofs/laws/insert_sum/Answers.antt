use Rattle.t1_charstrings.proofs.Totals.{insert_sum}
use Rattle.t1_charstrings.proofs.laws.insert_sum.Goals as goal

pub returns : goal.returns
returns c = insert_sum
