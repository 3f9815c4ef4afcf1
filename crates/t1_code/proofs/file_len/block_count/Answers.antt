use Rattle.std.proofs.Common.{arith}
use Rattle.t1_code.proofs.Summing.{block_count_is}
use Rattle.t1_code.proofs.file_len.block_count.Goals as goal

pub returns-clause-count : goal.returns-clause-count
returns-clause-count c bytes e = omega (arith, block_count_is c.args.size c.args.len bytes e)
