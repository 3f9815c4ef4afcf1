use Rattle.std.proofs.Common.{◌∷◌, ◌++◌, [], ◌∙◌, ap, sym, subst, length, arith}
use Rattle.std.proofs.lemmas.List.{length-append}
use Rattle.t1_parts.specs.EntryKeys.{AreSectionsBefore}
use Rattle.t1_parts.specs.LenIV.{lead_among, says_lead}
use Rattle.t1_parts.specs.Needs.{AreNeeded}
use Rattle.t1_parts.proofs.LeadKeptLaws.{lead_pushed, one_silent}
use Rattle.t1_parts.proofs.NeedLaws.{glyphs_within, needs_pushed}
use Rattle.t1_parts.proofs.items.Items.push.Goals as goal

pub invariant_of-self-2 : goal.invariant_of-self-2
invariant_of-self-2 c =
    let items = c.self.inside.blocks in
    let item = c.args.item in
    let made = c.in_ok-push.ensures.ok in
    let needs =
    needs_pushed c.self.inside.needs c.needs_of-more.result c.together-self-inside.result items (item ∷ []) _ (c.self.invariant.2, c.self.invariant.3)
    (subst (λ kind. AreNeeded c.needs_of-more.result (kind ∷ [])) c.as_ref-2.ensures c.needs_of-more.ensures.needs) c.together-self-inside.ensures.subrs c.together-self-inside.ensures.glyphs made in
    let ends =
    subst (AreSectionsBefore c.end_pushed-sections_end.result) (sym made)
    (c.end_pushed-sections_end.ensures items (omega (arith, c.self.invariant.0, c.in-Some.ensures)) (c.self.invariant.4, c.self.invariant.5)) in
    let more = ap length made in
    let both = length-append items (item ∷ []) in (
      omega (arith, more, both, c.self.invariant.0, c.in-Some.ensures),
      c.lead_after-self-inside.ensures ∙ ap lead_among c.iter.ensures,
      needs.0,
      needs.1,
      ends.0,
      ends.1,
    )

pub together-self-inside-requires : goal.together-self-inside-requires
together-self-inside-requires c =
    let within = glyphs_within c.self.inside.blocks in
    omega (arith, within, c.self.invariant.0, c.self.invariant.3, c.in-Some.ensures, c.needs_of-more.ensures.one)

pub iter-requires : goal.iter-requires
iter-requires c =
    let size = ap length c.in_ok-push.ensures.ok in
    let both = length-append c.self.inside.blocks (c.args.item ∷ []) in
    omega (arith, size, both, c.self.invariant.0, c.in-Some.ensures)

pub lead_after-self-inside-requires : goal.lead_after-self-inside-requires
lead_after-self-inside-requires c silent =
    let item = c.args.item in
    lead_pushed c.self.inside.lead c.self.inside.blocks (item ∷ []) c.iter.result c.self.invariant.1
    (one_silent item (ap says_lead (sym c.as_ref.ensures) ∙ sym c.says_lead-is_said.ensures ∙ silent)) (c.iter.ensures ∙ c.in_ok-push.ensures.ok)

pub returns-clause-ok : goal.returns-clause-ok
returns-clause-ok c = c.in_ok-push.ensures.ok ∙ ap (λ xs. xs ++ c.args.item ∷ []) c.self.view_is
