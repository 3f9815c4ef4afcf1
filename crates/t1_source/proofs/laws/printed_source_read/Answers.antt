use Rattle.t1_source.proofs.SourceAgainLaws.{source_again}
use Rattle.t1_source.proofs.laws.printed_source_read.Goals as goal

pub returns : goal.returns
returns c = λ s kept small. source_again s kept small
