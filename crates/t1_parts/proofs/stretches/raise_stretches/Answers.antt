use Rattle.std.proofs.Common.{◌<◌, length, slice_set, ap, ◌∙◌, arith}
use Rattle.std.proofs.lemmas.List.Edits.{map_over_more}
use Rattle.t1_parts.specs.Stretches.{raised_stretch}
use Rattle.t1_parts.proofs.stretches.raise_stretches.Goals as goal

pub loop-index-preserved : goal.loop-index-preserved
loop-index-preserved c =
    let ss = c.args.stretches.now.items in
    let some = c.loop-index.stretches.items in
    let at = c.loop-index.index in
    let within : at < length ss = omega (arith, c.loop-index-test.true, c.requires) in
    ap (slice_set some at) c.raise_count.ensures
    ∙ map_over_more (raised_stretch c.args.subrs c.args.glyphs) ss some at c.index_mut-stretch.result.now within c.loop-index.invariant c.index_mut-stretch.ensures.value
