use Rattle.t1_font.proofs.Counted.{counted-source}
use Rattle.t1_font.proofs.laws.faultless_source_reads_back.Goals as goal

pub returns : goal.returns
returns c = λ s formed checked. c.printed_source_read.ensures s formed (counted-source s checked)
