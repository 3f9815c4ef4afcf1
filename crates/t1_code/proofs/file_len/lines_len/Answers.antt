use Rattle.std.proofs.Common.{arith}
use Rattle.std.specs.List.{flat_map}
use Rattle.t1_code.specs.Pfa.{digits_of_byte}
use Rattle.t1_code.proofs.Summing.{digits_length, lines_length}
use Rattle.t1_code.proofs.file_len.lines_len.Goals as goal

pub returns-clause-len : goal.returns-clause-len
returns-clause-len c bytes e =
    let digits = flat_map digits_of_byte bytes in
    omega (arith, e, lines_length bytes, c.block_count.ensures.count digits (omega (arith, e, digits_length bytes)))
