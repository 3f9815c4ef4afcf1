use Rattle.std.proofs.Common.{◌≤◌, sym, arith}
use Rattle.t1_code.proofs.Summing.{segments_length}
use Rattle.t1_code.proofs.file_len.segments_len.Goals as goal

pub returns-clause-len : goal.returns-clause-len
returns-clause-len c kind bytes e =
    let some : 1 ≤ c.args.size = rw (sym c.get.ensures.value) c.get.ensures.some in
    omega (arith, e, segments_length c.args.size kind bytes some, rw c.get.ensures.value at c.block_count.ensures.count bytes e)
