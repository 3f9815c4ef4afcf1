use Rattle.std.proofs.Common.{◌≡◌, [], ◌∙◌, ap, sym, subst, length, arith}
use Rattle.std.specs.List.{remove, slice_index_or}
use Rattle.std.proofs.lemmas.List.Edits.{length-remove}
use Rattle.t1_parts.specs.declared.item.Item.TheVariants.{Plain}
use Rattle.t1_parts.specs.ItemRefs.{item_of}
use Rattle.t1_parts.specs.EntryKeys.{AreSectionsBefore}
use Rattle.t1_parts.specs.LenIV.{lead_among, says_lead}
use Rattle.t1_parts.specs.Counts.{subrs_needed, glyphs_needed}
use Rattle.t1_parts.proofs.LeadKeptLaws.{lead_removed}
use Rattle.t1_parts.proofs.NeedLaws.{needs_parted}
use Rattle.t1_parts.proofs.items.Items.take_out.Goals as goal

pub invariant_of-self-2 : goal.invariant_of-self-2
invariant_of-self-2 c =
    let made = c.in_ok-take_out.ensures.ok in
    let view = ap length c.self.view_is in
    let less = length-remove c.self.inside.blocks c.args.at (omega (arith, view, c.requires)) in
    let ends =
    subst (AreSectionsBefore c.end_removed-self-inside.result) (sym made)
    (c.end_removed-self-inside.ensures c.self.inside.blocks (omega (arith, view, c.requires)) (c.self.invariant.4, c.self.invariant.5)) in
    let size = ap length made in (
      omega (arith, size, less, view, c.requires, c.self.invariant.0),
      c.lead_after-self-inside.ensures ∙ ap lead_among c.iter-2.ensures,
      c.needs_without-self-inside.ensures.0 ∙ ap subrs_needed c.iter.ensures,
      c.needs_without-self-inside.ensures.1 ∙ ap glyphs_needed c.iter.ensures,
      ends.0,
      ends.1,
    )

pub needs_without-self-inside-requires-clause-subrs : goal.needs_without-self-inside-requires-clause-subrs
needs_without-self-inside-requires-clause-subrs c =
    let items = c.self.inside.blocks in
    let d = Plain [] in
    let view = ap length c.self.view_is in
    let there : slice_index_or items c.args.at d ≡ item_of c.item-item.result = ap (λ xs. slice_index_or xs c.args.at d) c.self.view_is ∙ c.item-item.ensures d in
    (needs_parted c.self.inside.needs c.needs_of-gone.result c.args.at items c.iter.result d (item_of c.item-item.result) (c.self.invariant.2, c.self.invariant.3) c.needs_of-gone.ensures.needs
    (omega (arith, view, c.requires)) there (c.iter.ensures ∙ c.in_ok-take_out.ensures.ok)).0

pub needs_without-self-inside-requires-clause-glyphs : goal.needs_without-self-inside-requires-clause-glyphs
needs_without-self-inside-requires-clause-glyphs c =
    let items = c.self.inside.blocks in
    let d = Plain [] in
    let view = ap length c.self.view_is in
    let there : slice_index_or items c.args.at d ≡ item_of c.item-item.result = ap (λ xs. slice_index_or xs c.args.at d) c.self.view_is ∙ c.item-item.ensures d in
    (needs_parted c.self.inside.needs c.needs_of-gone.result c.args.at items c.iter.result d (item_of c.item-item.result) (c.self.invariant.2, c.self.invariant.3) c.needs_of-gone.ensures.needs
    (omega (arith, view, c.requires)) there (c.iter.ensures ∙ c.in_ok-take_out.ensures.ok)).1

pub iter-requires : goal.iter-requires
iter-requires c =
    let view = ap length c.self.view_is in
    let less = length-remove c.self.inside.blocks c.args.at (omega (arith, view, c.requires)) in
    let size = ap length c.in_ok-take_out.ensures.ok in
    omega (arith, size, less, view, c.requires, c.self.invariant.0)

pub iter-requires-2 : goal.iter-requires-2
iter-requires-2 c =
    let view = ap length c.self.view_is in
    let less = length-remove c.self.inside.blocks c.args.at (omega (arith, view, c.requires)) in
    let size = ap length c.in_ok-take_out.ensures.ok in
    omega (arith, size, less, view, c.requires, c.self.invariant.0)

pub lead_after-self-inside-requires : goal.lead_after-self-inside-requires
lead_after-self-inside-requires c silent =
    let items = c.self.inside.blocks in
    let d = Plain [] in
    let there : slice_index_or items c.args.at d ≡ item_of c.item-item.result = ap (λ xs. slice_index_or xs c.args.at d) c.self.view_is ∙ c.item-item.ensures d in
    lead_removed c.self.inside.lead c.args.at items c.iter-2.result d c.self.invariant.1 (ap says_lead there ∙ sym c.says_lead-is_said.ensures ∙ silent) (c.iter-2.ensures ∙ c.in_ok-take_out.ensures.ok)

pub returns-clause-ok : goal.returns-clause-ok
returns-clause-ok c = c.in_ok-take_out.ensures.ok ∙ ap (λ xs. remove xs c.args.at) c.self.view_is
