use Rattle.t1_pairs.proofs.KernLaws.{kern_again}
use Rattle.t1_pairs.proofs.laws.printed_pairs_read.Goals as goal

pub returns : goal.returns
returns c = λ ps h. kern_again ps h
