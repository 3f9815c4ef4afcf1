use Rattle.std.proofs.Common.{ap, sym, map, ◌∙◌}
use Rattle.t1_parts.specs.Counts.{raised_item}
use Rattle.t1_buckets.proofs.SharedLaws.{bucket_here, bucket_set, either, is_ok_at}
use Rattle.t1_parts.proofs.blocks.raise_block.Goals as goal

pub returns : goal.returns
returns c =
    let bs = c.args.blocks.now.items in
    let old = c.index_mut.result.now in
    let here = either _ _ c.in_ok-block.ensures.value ∙ sym (bucket_here c.args.index bs old c.requires c.index_mut.ensures.value) in
    bucket_set c.args.index bs _ _ (c.make_mut.follows.holds _ (is_ok_at c.make_mut.result _ c.in_ok-block.was) ∙ c.raise_counts.ensures ∙ ap (map (raised_item c.args.subrs c.args.glyphs)) here)
