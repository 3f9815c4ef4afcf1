use Rattle.std.proofs.Common.{◌∙◌}
use Rattle.t1_charstrings.proofs.SectionFrontLaws.{check_front}
use Rattle.t1_charstrings.proofs.raising.check_raised_sections.Goals as goal

pub returns : goal.returns
returns c =
    let n = c.args.needed.now in
    c.check_raised.ensures ∙ check_front n.subrs n.glyphs c.through_sections.result c.args.items.now c.through_sections.ensures.front c.through_sections.ensures.none
