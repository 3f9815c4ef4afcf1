use Rattle.std.proofs.Common.{◌≡◌, ◌++◌, map, take, drop, subst, arith}
use Rattle.t1_buckets.specs.Buckets.{lists_of}
use Rattle.t1_parts.specs.Counts.{raised_item}
use Rattle.t1_parts.proofs.BlockLaws.{raised_further, raised_through}
use Rattle.t1_parts.proofs.blocks.raise_counts.Goals as goal

pub loop-index-preserved : goal.loop-index-preserved
loop-index-preserved c =
    raised_further c.args.subrs c.args.glyphs c.loop-index.index c.args.blocks.now.items c.loop-index.blocks.items _ (omega (arith, c.loop-index-test.true, c.requires)) c.loop-index.invariant c.in_ok-raise_block.ensures

pub returns : goal.returns
returns c =
    let all = lists_of c.args.blocks.now.items in
    let last : c.loop-index.index ≡ c.args.end = omega (arith, c.loop-index-test.false, c.loop-index.auto.index-end) in
    raised_through c.args.subrs c.args.glyphs c.args.end c.args.blocks.now.items c.loop-index.blocks.items
    (subst (λ k. lists_of c.loop-index.blocks.items ≡ map (map (raised_item c.args.subrs c.args.glyphs)) (take k all) ++ drop k all) last c.loop-index.invariant)
