use Rattle.t1_source.proofs.SourceAgainLaws.{source_again}
use Rattle.t1_source.proofs.laws.text_of_source_read.Goals as goal

pub returns : goal.returns
returns c = λ small. source_again c.args.source.now c.kept_items-items.ensures.kept small
