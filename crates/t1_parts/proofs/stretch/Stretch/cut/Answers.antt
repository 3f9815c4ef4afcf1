use Rattle.std.proofs.Common.{ap, ◌∙◌, rules}
use Rattle.t1_parts.specs.Items.{line_items}
use Rattle.t1_parts.proofs.StretchLaws.{taken_lines, dropped_lines}
use Rattle.t1_parts.proofs.stretch.Stretch.cut.Goals as goal

pub returns-in-Lines : goal.returns-in-Lines
returns-in-Lines c = rw c.in-Lines.is (
  ap line_items c.cut.ensures.front ∙ taken_lines c.args.at c.in-Lines.plain,
  ap line_items c.cut.ensures.back ∙ dropped_lines c.args.at c.in-Lines.plain,
  search rules,
)
