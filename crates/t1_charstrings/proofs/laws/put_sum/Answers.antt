use Rattle.t1_charstrings.proofs.Totals.{put_sum}
use Rattle.t1_charstrings.proofs.laws.put_sum.Goals as goal

pub returns : goal.returns
returns c = put_sum
