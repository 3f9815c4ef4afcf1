use Rattle.t1_charstrings.proofs.Totals.{remove_sum}
use Rattle.t1_charstrings.proofs.laws.remove_sum.Goals as goal

pub returns : goal.returns
returns c = remove_sum
