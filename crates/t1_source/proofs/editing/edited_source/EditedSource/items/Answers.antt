use Rattle.std.proofs.Common.{◌∙◌, ap, subst, sym}
use Rattle.std.specs.Option.{option_map}
use Rattle.t1_parts.specs.Counts.{raised}
use Rattle.t1_source.specs.EditedItems.{items_after}
use Rattle.t1_source.specs.EditedSource.{made_of, with_change, CanBeMade, EditedParts}
use Rattle.t1_source.specs.WellFormed.{IsWellFormed}
use Rattle.t1_source.proofs.EditedItemsLaws.{raised_after}
use Rattle.t1_source.proofs.EditedSourceLaws.{made_well_formed}
use Rattle.t1_source.proofs.editing.edited_source.EditedSource.items.Goals as goal

pub returns-in-Some-clause-items : goal.returns-in-Some-clause-items
returns-in-Some-clause-items c =
    let change = c.in-Some.change.now in
    let s = c.self.inside.source.now in
    let fits = subst (λ o. CanBeMade (option_map (λ change. change.now) o) s) c.in-Some.is c.self.invariant in
    ap raised (c.after.ensures ∙ ap (items_after change) c.items.ensures)
    ∙ raised_after change s fits.well
    ∙ sym (ap (λ o. (with_change (option_map (λ change. change.now) o) s).items) c.in-Some.is)
    ∙ ap (λ (e : EditedParts). (made_of e).items) c.self.view_is

pub returns-in-Some-clause-well : goal.returns-in-Some-clause-well
returns-in-Some-clause-well c =
    let change = c.in-Some.change.now in
    let s = c.self.inside.source.now in
    let fits = subst (λ o. CanBeMade (option_map (λ change. change.now) o) s) c.in-Some.is c.self.invariant in
    subst (λ (e : EditedParts). IsWellFormed (made_of e)) c.self.view_is
    (subst (λ o. IsWellFormed (with_change (option_map (λ change. change.now) o) s)) (sym c.in-Some.is) (made_well_formed change s fits))
