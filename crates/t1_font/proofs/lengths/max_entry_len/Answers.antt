use Rattle.std.proofs.Common.{length, ap, arith}
use Rattle.t1_code.proofs.Counting.{words_within}
use Rattle.t1_font.proofs.lengths.max_entry_len.Goals as goal

pub returns : goal.returns
returns c short = omega (arith, words_within c.as_bytes.result.now, ap length c.as_bytes.ensures)
