use Rattle.std.proofs.Common.{ap, ◌∙◌, length, arith}
use Rattle.t1_parts.specs.Items.{stretch_items}
use Rattle.t1_parts.proofs.EntryPlaceLaws.{taken_length}
use Rattle.t1_parts.proofs.StartLaws.{starts_further}
use Rattle.t1_parts.proofs.starts.counted_starts.Goals as goal

pub loop-stretch-preserved : goal.loop-stretch-preserved
loop-stretch-preserved c =
    let ss = c.args.stretches.now in
    let s = c.stretch-item.result in
    let i = c.loop-stretch.stretch-index in
    let more = taken_length i ss s c.loop-stretch-test.true in
    let size = ap (λ t. length (stretch_items t)) c.stretch-item.is in (
      c.in_ok-push.ensures.items ∙ starts_further i c.loop-stretch.count c.loop-stretch.starts.items ss s c.loop-stretch-test.true c.loop-stretch.invariant.0 c.loop-stretch.invariant.1,
      omega (arith, more, size, c.loop-stretch.invariant.1, c.len.ensures.value, c.in-Some.ensures),
    )
