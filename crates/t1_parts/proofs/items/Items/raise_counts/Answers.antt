use Rattle.std.proofs.Common.{length, map, ap, sym, ◌∙◌}
use Rattle.std.proofs.lemmas.List.{length-map}
use Rattle.t1_parts.specs.Counts.{raised_item}
use Rattle.t1_parts.proofs.LeadKeptLaws.{lead_raised}
use Rattle.t1_parts.proofs.NeedLaws.{needs_raised}
use Rattle.t1_parts.proofs.SectionEndLaws.{raised_before}
use Rattle.t1_parts.proofs.items.Items.raise_counts.Goals as goal

pub invariant_of-self-2 : goal.invariant_of-self-2
invariant_of-self-2 c =
    let items = c.self.inside.blocks in
    let made = c.in_ok-raise_counts.ensures.ok in
    let needs = needs_raised c.self.inside.needs c.args.subrs c.args.glyphs items _ (c.self.invariant.2, c.self.invariant.3) made in
    let ends = raised_before c.args.subrs c.args.glyphs c.self.inside.sections_end items _ made (c.self.invariant.4, c.self.invariant.5) in (
      c.self.invariant.0 ∙ sym (ap length made ∙ length-map items (raised_item c.args.subrs c.args.glyphs)),
      lead_raised c.self.inside.lead c.args.subrs c.args.glyphs items _ c.self.invariant.1 made,
      needs.0,
      needs.1,
      ends.0,
      ends.1,
    )

pub returns-clause-ok : goal.returns-clause-ok
returns-clause-ok c = c.in_ok-raise_counts.ensures.ok ∙ ap (map (raised_item c.args.subrs c.args.glyphs)) c.self.view_is
