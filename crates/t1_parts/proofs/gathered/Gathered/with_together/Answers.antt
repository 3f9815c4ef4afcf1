use Rattle.std.proofs.Common.{◌++◌, ap, refl, ◌∙◌}
use Rattle.t1_parts.specs.declared.stretch.Stretch.TheVariants.{Lines}
use Rattle.t1_parts.specs.NumberedStretches.{numbered_in, numbered_lines}
use Rattle.t1_parts.specs.Sections.{is_subrs_line, is_glyphs_line}
use Rattle.t1_parts.proofs.NumberedLaws.{with_more, same_pushed, same_with_lines, numbers_with_lines, names_with_lines}
use Rattle.t1_parts.proofs.gathered.Gathered.with_together.Goals as goal

pub invariant_of-result : goal.invariant_of-result
invariant_of-result c =
    let old = c.self.inside in
    let items = numbered_in old.numbers.items old.stretches in
    rw (c.in_ok-push_numbered.ensures.number, c.in_ok-push_numbered.ensures.stretch, with_more old.numbers.items old.stretches c.args.number (Lines c.args.plain) c.self.invariant.4) (
      c.self.invariant.0 ∙ same_with_lines is_subrs_line items c.args.number c.args.plain (λ l. refl),
      c.self.invariant.1 ∙ same_with_lines is_glyphs_line items c.args.number c.args.plain (λ l. refl),
      numbers_with_lines old.subrs.keys items c.args.number c.args.plain c.self.invariant.2,
      names_with_lines old.glyphs.keys items c.args.number c.args.plain c.self.invariant.3,
      same_pushed old.numbers.items old.stretches c.args.number (Lines c.args.plain) c.self.invariant.4,
    )

pub returns : goal.returns
returns c =
    let old = c.self.inside in
    rw (c.in_ok-push_numbered.ensures.number, c.in_ok-push_numbered.ensures.stretch, with_more old.numbers.items old.stretches c.args.number (Lines c.args.plain) c.self.invariant.4)
    (ap (λ t. t ++ numbered_lines c.args.number c.args.plain) c.self.view_is)
