use Rattle.std.proofs.Common.{◌∙◌, ap, length, arith}
use Rattle.std.specs.List.{remove}
use Rattle.std.proofs.lemmas.List.Edits.{length-remove}
use Rattle.t1_parts.specs.Items.{items_in}
use Rattle.t1_parts.proofs.StretchLaws.{removed}
use Rattle.t1_parts.proofs.block.Block.take_out.Goals as goal

pub invariant_of-self-2 : goal.invariant_of-self-2
invariant_of-self-2 c =
    let made = removed c.args.at c.in_ok-index.index c.self.inside.stretches c.cut_before.new.self c.drop_first.new.self c.cut_before.ensures.same c.in_ok-index.ensures.before c.drop_first.ensures in
    let view = ap length c.self.view_is in
    let less = length-remove (items_in c.self.inside.stretches) c.args.at (omega (arith, view, c.requires.within)) in
    let size = ap length made in
    (omega (arith, size, less, view, c.requires.within, c.self.invariant.0), omega (arith, size, less, view, c.requires.others))

pub returns-clause-ok : goal.returns-clause-ok
returns-clause-ok c =
    removed c.args.at c.in_ok-index.index c.self.inside.stretches c.cut_before.new.self c.drop_first.new.self c.cut_before.ensures.same c.in_ok-index.ensures.before c.drop_first.ensures
    ∙ ap (λ xs. remove xs c.args.at) c.self.view_is
