use Rattle.t1_source.proofs.CountedLaws.{read_again}
use Rattle.t1_source.proofs.laws.read_source_again.Goals as goal

pub returns : goal.returns
returns c = λ bytes s e few. read_again bytes s e few
