use Rattle.std.proofs.Common.{length, take, ap, subst, sym, arith}
use Rattle.std.specs.List.{slice_index_or}
use Rattle.std.proofs.lemmas.List.{take_more}
use Rattle.t1_parts.specs.Items.{stretch_items}
use Rattle.t1_parts.specs.Stretches.{AreSingle}
use Rattle.t1_parts.proofs.SingleLaws.{single_pushed}
use Rattle.t1_parts.proofs.block.are_single.Goals as goal

pub loop-stretch-preserved : goal.loop-stretch-preserved
loop-stretch-preserved c =
    let ss = c.args.stretches.now in
    let i = c.loop-stretch.stretch-index in
    let s = c.stretch-item.result in
    let there = ap stretch_items c.stretch-item.is in
    subst AreSingle (sym (take_more ss i s (omega (arith, c.loop-stretch-test.true))))
    (single_pushed (take i ss) (slice_index_or ss i s) c.loop-stretch.invariant (omega (arith, ap length there, c.len.ensures.value, c.if-len-ne1.false)))
