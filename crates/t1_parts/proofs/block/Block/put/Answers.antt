use Rattle.std.proofs.Common.{◌∙◌, ap, length, slice_set, arith}
use Rattle.t1_parts.specs.Items.{items_in}
use Rattle.t1_parts.proofs.StretchLaws.{replaced, length_set}
use Rattle.t1_parts.proofs.block.Block.put.Goals as goal

pub invariant_of-self-2 : goal.invariant_of-self-2
invariant_of-self-2 c =
    let view = ap length c.self.view_is in
    let made = replaced c.args.at c.in-Ok.index c.self.inside.stretches c.cut_before.new.self c.put_first.new.self c.args.item c.cut_before.ensures.same c.in-Ok.ensures.before (omega (arith, view, c.requires)) c.in_ok-put_first.ensures.ok in
    let size = ap length made in
    let same = length_set c.args.at (items_in c.self.inside.stretches) c.args.item in
    (omega (arith, size, same, c.self.invariant.0), omega (arith, size, same, c.self.invariant.1))

pub returns-clause-ok : goal.returns-clause-ok
returns-clause-ok c =
    let view = ap length c.self.view_is in
    replaced c.args.at c.in-Ok.index c.self.inside.stretches c.cut_before.new.self c.put_first.new.self c.args.item c.cut_before.ensures.same c.in-Ok.ensures.before (omega (arith, view, c.requires)) c.in_ok-put_first.ensures.ok
    ∙ ap (λ xs. slice_set xs c.args.at c.args.item) c.self.view_is
