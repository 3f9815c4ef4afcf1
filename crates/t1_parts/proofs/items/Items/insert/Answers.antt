use Rattle.std.proofs.Common.{◌∙◌, ◌∷◌, [], ap, sym, subst, length, arith}
use Rattle.std.specs.List.{insert}
use Rattle.std.proofs.lemmas.List.Edits.{length-insert}
use Rattle.t1_parts.specs.EntryKeys.{AreSectionsBefore}
use Rattle.t1_parts.specs.LenIV.{lead_among, says_lead}
use Rattle.t1_parts.specs.Needs.{AreNeeded}
use Rattle.t1_parts.proofs.LeadKeptLaws.{lead_inserted}
use Rattle.t1_parts.proofs.NeedLaws.{glyphs_within, needs_inserted}
use Rattle.t1_parts.proofs.items.Items.insert.Goals as goal

pub invariant_of-self-2 : goal.invariant_of-self-2
invariant_of-self-2 c =
    let old = c.self.inside.blocks in
    let made = c.in_ok-insert.ensures.ok in
    let view = ap length c.self.view_is in
    let more = length-insert old c.args.at c.args.item (omega (arith, view, c.requires)) in
    let needs =
    needs_inserted c.self.inside.needs c.needs_of-more.result c.together-self-inside.result c.args.at old _ c.args.item (c.self.invariant.2, c.self.invariant.3)
    (subst (λ kind. AreNeeded c.needs_of-more.result (kind ∷ [])) c.as_ref-2.ensures c.needs_of-more.ensures.needs) c.together-self-inside.ensures.subrs c.together-self-inside.ensures.glyphs made in
    let ends =
    subst (AreSectionsBefore c.end_inserted-sections_end.result) (sym made) (c.end_inserted-sections_end.ensures old (omega (arith, view, c.requires)) (c.self.invariant.4, c.self.invariant.5)) in
    let size = ap length made in (
      omega (arith, size, more, c.self.invariant.0, c.in-Some.ensures),
      c.lead_after-self-inside.ensures ∙ ap lead_among c.iter.ensures,
      needs.0,
      needs.1,
      ends.0,
      ends.1,
    )

pub together-self-inside-requires : goal.together-self-inside-requires
together-self-inside-requires c =
    let within = glyphs_within c.self.inside.blocks in
    omega (arith, within, c.self.invariant.0, c.self.invariant.3, c.in-Some.ensures, c.needs_of-more.ensures.one)

pub end_inserted-sections_end-requires-clause-end : goal.end_inserted-sections_end-requires-clause-end
end_inserted-sections_end-requires-clause-end c = omega (arith, c.self.invariant.0, c.self.invariant.4, c.in-Some.ensures)

pub end_inserted-sections_end-requires-clause-at : goal.end_inserted-sections_end-requires-clause-at
end_inserted-sections_end-requires-clause-at c =
    let view = ap length c.self.view_is in
    omega (arith, view, c.requires, c.self.invariant.0, c.in-Some.ensures)

pub iter-requires : goal.iter-requires
iter-requires c =
    let view = ap length c.self.view_is in
    let more = length-insert c.self.inside.blocks c.args.at c.args.item (omega (arith, view, c.requires)) in
    let size = ap length c.in_ok-insert.ensures.ok in
    omega (arith, size, more, c.self.invariant.0, c.in-Some.ensures)

pub lead_after-self-inside-requires : goal.lead_after-self-inside-requires
lead_after-self-inside-requires c silent =
    lead_inserted c.self.inside.lead c.args.at c.self.inside.blocks c.iter.result c.args.item c.self.invariant.1 (ap says_lead (sym c.as_ref.ensures) ∙ sym c.says_lead-is_said.ensures ∙ silent) (c.iter.ensures ∙ c.in_ok-insert.ensures.ok)

pub returns-clause-ok : goal.returns-clause-ok
returns-clause-ok c = c.in_ok-insert.ensures.ok ∙ ap (λ xs. insert xs c.args.at c.args.item) c.self.view_is
