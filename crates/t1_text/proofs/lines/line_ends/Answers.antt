use Rattle.std.proofs.Common.{◌∙◌}
use Rattle.t1_text.proofs.EndLaws.{feeds_alone}
use Rattle.t1_text.proofs.lines.line_ends.Goals as goal

pub returns-in-None-clause-value : goal.returns-in-None-clause-value
returns-in-None-clause-value c = c.line_feeds.ensures ∙ feeds_alone c.args.text.now c.in-None.ensures
