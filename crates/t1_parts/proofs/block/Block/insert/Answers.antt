use Rattle.std.proofs.Common.{◌∙◌, ap, refl, length, arith}
use Rattle.std.specs.List.{insert}
use Rattle.std.proofs.lemmas.List.Edits.{length-insert}
use Rattle.t1_parts.specs.Items.{items_in}
use Rattle.t1_parts.specs.declared.stretch.Stretch.TheVariants.{One}
use Rattle.t1_parts.proofs.StretchLaws.{inserted}
use Rattle.t1_parts.proofs.block.Block.insert.Goals as goal

pub invariant_of-self-2 : goal.invariant_of-self-2
invariant_of-self-2 c =
    let made = inserted c.args.at c.in-Ok.index c.self.inside.stretches c.cut_before.new.self c.insert.new.self (One c.args.item) c.args.item c.cut_before.ensures.same c.in-Ok.ensures.within c.in-Ok.ensures.before refl c.in_ok-insert.ensures.ok in
    let view = ap length c.self.view_is in
    let more = length-insert (items_in c.self.inside.stretches) c.args.at c.args.item (omega (arith, view, c.requires)) in
    let size = ap length made in
    (omega (arith, size, more, c.self.invariant.0, c.in-Some.ensures), omega (arith, size, more))

pub returns-clause-ok : goal.returns-clause-ok
returns-clause-ok c =
    inserted c.args.at c.in-Ok.index c.self.inside.stretches c.cut_before.new.self c.insert.new.self (One c.args.item) c.args.item c.cut_before.ensures.same c.in-Ok.ensures.within c.in-Ok.ensures.before refl c.in_ok-insert.ensures.ok
    ∙ ap (λ xs. insert xs c.args.at c.args.item) c.self.view_is
