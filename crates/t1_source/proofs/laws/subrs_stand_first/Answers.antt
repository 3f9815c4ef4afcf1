use Rattle.t1_source.proofs.OrderLaws.{subrs_first}
use Rattle.t1_source.proofs.laws.subrs_stand_first.Goals as goal

pub returns : goal.returns
returns c = λ s a b g ws closing kept whole. subrs_first s.items a g ws closing b kept.items whole
