use Rattle.t1_parts.proofs.CountLaws.{raised_again}
use Rattle.t1_source.proofs.laws.raised_counts_stay.Goals as goal

pub returns : goal.returns
returns c = λ items. raised_again items
