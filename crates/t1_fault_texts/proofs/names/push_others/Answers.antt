use Rattle.std.proofs.Common.{◌<◌, ◌∙◌, ◌++◌, length, ap, arith}
use Rattle.t1_fault_texts.specs.Names.{name_after}
use Rattle.t1_fault_texts.proofs.Texts.{one_more}
use Rattle.t1_fault_texts.proofs.names.push_others.Goals as goal

pub loop-name-preserved : goal.loop-name-preserved
loop-name-preserved c =
    let inside : c.loop-name.name-index < length c.args.names.now = omega arith in
    one_more (name_after c.args.between.now) c.args.names.now c.loop-name.name-index _ c.name-item.result c.args.text.now.items c.loop-name.text.items c.push_after.new.text.items inside c.name-item.is
    c.loop-name.invariant (c.in_ok-push_after.ensures ∙ ap (λ name. c.loop-name.text.items ++ name_after c.args.between.now name) c.as_slice.ensures)
