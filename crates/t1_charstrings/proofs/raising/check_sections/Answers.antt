use Rattle.std.proofs.Common.{◌∙◌}
use Rattle.t1_charstrings.proofs.SectionFrontLaws.{check_unraised}
use Rattle.t1_charstrings.proofs.raising.check_sections.Goals as goal

pub returns : goal.returns
returns c = c.check_raised_sections.ensures ∙ check_unraised c.args.items.now
