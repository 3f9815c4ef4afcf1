use Rattle.std.proofs.Common.{ap, length, arith}
use Rattle.t1_tree.proofs.balance.place_with_room.Goals as goal

pub place_up_to-requires-clause-some : goal.place_up_to-requires-clause-some
place_up_to-requires-clause-some g c =
    let parts = c.cut.ensures.heights.1 c.requires.some in
    omega (arith, parts.0, ap length c.as_slice-2.ensures.value)
