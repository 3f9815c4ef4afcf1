use Rattle.std.proofs.Common.{◌≡◌, IfOk, ap, subst, ◌∙◌}
use Rattle.t1_parts.specs.Items.{items_in}
use Rattle.t1_parts.specs.Reading.{unnumbered}
use Rattle.t1_parts.proofs.NumberedLaws.{unnumbered_in}
use Rattle.t1_parts.proofs.gathered.Gathered.into_items.Goals as goal

pub returns : goal.returns
returns c =
    let old = c.self.inside in
    subst (λ xs. IfOk c.of_lists.result (λ items. items ≡ xs))
    (ap items_in c.in_ok-into_lists.ensures ∙ unnumbered_in old.numbers.items old.stretches c.self.invariant.4 ∙ ap unnumbered c.self.view_is) c.of_lists.ensures
