use Rattle.t1_parts.proofs.TailLaws.{tail_again}
use Rattle.t1_source.proofs.laws.kept_tail_stays.Goals as goal

pub returns : goal.returns
returns c = λ ls. tail_again ls
