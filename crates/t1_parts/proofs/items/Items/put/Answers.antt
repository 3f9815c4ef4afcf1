use Rattle.std.proofs.Common.{◌≡◌, [], ◌∙◌, ap, sym, subst, length, slice_set, arith}
use Rattle.std.specs.List.{slice_index_or}
use Rattle.std.proofs.lemmas.Bool.{or_parts}
use Rattle.t1_parts.specs.declared.item.Item.TheVariants.{Plain}
use Rattle.t1_parts.specs.ItemRefs.{item_of}
use Rattle.t1_parts.specs.EntryKeys.{AreSectionsBefore}
use Rattle.t1_parts.specs.LenIV.{lead_among, says_lead}
use Rattle.t1_parts.proofs.LeadKeptLaws.{lead_set}
use Rattle.t1_parts.specs.Counts.{subrs_needed, glyphs_needed}
use Rattle.t1_parts.proofs.NeedLaws.{needs_set}
use Rattle.t1_parts.proofs.StretchLaws.{length_set}
use Rattle.t1_parts.proofs.items.Items.put.Goals as goal

pub invariant_of-self-2 : goal.invariant_of-self-2
invariant_of-self-2 c =
    let view = ap length c.self.view_is in
    let items = c.self.inside.blocks in
    let made = c.in_ok-put.ensures.ok in
    let ends =
    subst (AreSectionsBefore c.end_put-sections_end.result) (sym made) (c.end_put-sections_end.ensures items (omega (arith, view, c.requires)) (c.self.invariant.4, c.self.invariant.5)) in
    let size = ap length made in
    let same = length_set c.args.at items c.args.item in (
      omega (arith, size, same, c.self.invariant.0),
      c.lead_after-self-inside.ensures ∙ ap lead_among c.iter-2.ensures,
      c.needs_after-self-inside.ensures.0 ∙ ap subrs_needed c.iter.ensures,
      c.needs_after-self-inside.ensures.1 ∙ ap glyphs_needed c.iter.ensures,
      ends.0,
      ends.1,
    )

pub end_put-sections_end-requires : goal.end_put-sections_end-requires
end_put-sections_end-requires c =
    let view = ap length c.self.view_is in
    omega (arith, view, c.requires, c.self.invariant.0)

pub needs_after-self-inside-requires : goal.needs_after-self-inside-requires
needs_after-self-inside-requires c same =
    let items = c.self.inside.blocks in
    let d = Plain [] in
    let view = ap length c.self.view_is in
    let there : slice_index_or items c.args.at d ≡ item_of c.item-old.result = ap (λ xs. slice_index_or xs c.args.at d) c.self.view_is ∙ c.item-old.ensures d in
    needs_set c.self.inside.needs c.args.at items c.iter.result d (item_of c.item-old.result) c.args.item (c.self.invariant.2, c.self.invariant.3) (omega (arith, view, c.requires)) there
    (c.ask_the_same-is_same.ensures same) (c.iter.ensures ∙ c.in_ok-put.ensures.ok)

pub iter-requires : goal.iter-requires
iter-requires c =
    let size = ap length c.in_ok-put.ensures.ok in
    let same = length_set c.args.at c.self.inside.blocks c.args.item in
    omega (arith, size, same, c.self.invariant.0)

pub iter-requires-2 : goal.iter-requires-2
iter-requires-2 c =
    let size = ap length c.in_ok-put.ensures.ok in
    let same = length_set c.args.at c.self.inside.blocks c.args.item in
    omega (arith, size, same, c.self.invariant.0)

pub lead_after-self-inside-requires : goal.lead_after-self-inside-requires
lead_after-self-inside-requires c silent =
    let items = c.self.inside.blocks in
    let d = Plain [] in
    let there : slice_index_or items c.args.at d ≡ item_of c.item-old.result = ap (λ xs. slice_index_or xs c.args.at d) c.self.view_is ∙ c.item-old.ensures d in
    let off = or_parts (says_lead (item_of c.item-old.result)) (says_lead c.args.item) (sym c.says_either-is_said.ensures ∙ silent) in
    lead_set c.self.inside.lead c.args.at items c.iter-2.result d c.args.item c.self.invariant.1 (ap says_lead there ∙ off.0) off.1 (c.iter-2.ensures ∙ c.in_ok-put.ensures.ok)

pub returns-clause-ok : goal.returns-clause-ok
returns-clause-ok c = c.in_ok-put.ensures.ok ∙ ap (λ xs. slice_set xs c.args.at c.args.item) c.self.view_is
