use Rattle.t1_source.proofs.WellFormedEditedLaws.{edited_well_formed}
use Rattle.t1_source.proofs.laws.edited_source_is_well_formed.Goals as goal

pub returns : goal.returns
returns c = λ s made ps others edit kept e. edited_well_formed s ps edit made others kept e
