use Rattle.t1_source.proofs.WellFormedSourceLaws.{source_well_formed}
use Rattle.t1_source.proofs.laws.read_source_is_well_formed.Goals as goal

pub returns : goal.returns
returns c = λ bytes s e. source_well_formed bytes s e
