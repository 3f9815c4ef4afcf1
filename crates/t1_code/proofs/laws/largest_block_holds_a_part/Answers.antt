use Rattle.std.proofs.Common.{◌-◌, ◌^◌}
use Rattle.t1_code.proofs.Framing.{segments_fit}
use Rattle.t1_code.proofs.laws.largest_block_holds_a_part.Goals as goal

pub returns : goal.returns
returns c = (λ kind bytes h. segments_fit (2 ^ 31 - 1) kind bytes h)
