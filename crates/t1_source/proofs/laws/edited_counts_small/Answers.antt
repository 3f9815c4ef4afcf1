use Rattle.t1_source.proofs.EditedCountLaws.{edited_counted}
use Rattle.t1_source.proofs.laws.edited_counts_small.Goals as goal

pub returns : goal.returns
returns c = λ s made ps others edit kept small e few. edited_counted s ps edit made others kept small e few
