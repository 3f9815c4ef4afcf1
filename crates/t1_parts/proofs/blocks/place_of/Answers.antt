use Rattle.std.proofs.Common.{ap, length, arith}
use Rattle.t1_buckets.proofs.SharedLaws.{place_in, place_past}
use Rattle.t1_parts.proofs.blocks.place_of.Goals as goal

pub returns-then-left-len : goal.returns-then-left-len
returns-then-left-len c =
    let i = c.loop-block.block-index in
    let at = c.loop-block.invariant.0 in
    let value = ap length c.deref.ensures in
    let there = place_in c.args.at i c.loop-block.left c.args.blocks.now c.block-item.result (omega (arith, c.loop-block-test.true)) c.block-item.is c.loop-block.invariant.1 (omega (arith, c.if-left-len.true, c.len-len.ensures.value, value)) in
    rw at there

pub returns : goal.returns
returns c = absurd (place_past c.args.at c.loop-block.left c.loop-block.block-index c.args.blocks.now c.requires c.loop-block.invariant.1 (omega arith))
