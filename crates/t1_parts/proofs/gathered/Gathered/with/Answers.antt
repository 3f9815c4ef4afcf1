use Rattle.std.proofs.Common.{◌∷◌, [], ◌++◌, ◌∙◌, ap}
use Rattle.t1_parts.specs.Sections.{is_subrs_line, is_glyphs_line}
use Rattle.t1_parts.specs.NumberedStretches.{numbered_in}
use Rattle.t1_parts.proofs.NumberedLaws.{with_one, same_pushed}
use Rattle.t1_parts.specs.declared.stretch.Stretch.TheVariants.{One}
use Rattle.t1_parts.proofs.KeyLaws.{or_more}
use Rattle.t1_parts.proofs.gathered.Gathered.with.Goals as goal

pub invariant_of-result : goal.invariant_of-result
invariant_of-result c =
    let old = c.self.inside in
    let items = numbered_in old.numbers.items old.stretches in
    rw (c.in_ok-push_item.ensures.number, c.in_ok-push_item.ensures.stretch, with_one old.numbers.items old.stretches c.args.number c.args.item c.self.invariant.4) (
      or_more is_subrs_line items c.args.number c.args.item _ _ c.self.invariant.0 (c.is_subrs_line.ensures ∙ ap is_subrs_line c.as_ref.ensures),
      or_more is_glyphs_line items c.args.number c.args.item _ _ c.self.invariant.1 (c.is_glyphs_line.ensures ∙ ap is_glyphs_line c.as_ref-2.ensures),
      c.in_ok-push_item.ensures.subrs items c.args.number c.self.invariant.2,
      c.in_ok-push_item.ensures.glyphs items c.args.number c.args.item c.requires c.self.invariant.3,
      same_pushed old.numbers.items old.stretches c.args.number (One c.args.item) c.self.invariant.4,
    )

pub returns : goal.returns
returns c =
    let old = c.self.inside in
    rw (c.in_ok-push_item.ensures.number, c.in_ok-push_item.ensures.stretch, with_one old.numbers.items old.stretches c.args.number c.args.item c.self.invariant.4)
    (ap (λ t. t ++ (c.args.number, c.args.item) ∷ []) c.self.view_is)
