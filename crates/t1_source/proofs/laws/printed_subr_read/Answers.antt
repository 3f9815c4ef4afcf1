use Rattle.t1_parts.proofs.EntryLaws.{subr_again}
use Rattle.t1_source.proofs.laws.printed_subr_read.Goals as goal

pub returns : goal.returns
returns c = λ earlier n ws closing ls a b c d e f. subr_again earlier n ws closing ls a b c d e f
