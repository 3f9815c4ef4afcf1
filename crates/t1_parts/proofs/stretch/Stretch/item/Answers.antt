use Rattle.t1_parts.proofs.StretchLaws.{line_item_at}
use Rattle.t1_parts.proofs.stretch.Stretch.item.Goals as goal

pub returns-in-Lines : goal.returns-in-Lines
returns-in-Lines c d = rw c.in-Lines.is (line_item_at c.args.at c.in-Lines.plain d c.line.result.now (rw c.in-Lines.is at c.requires) c.line.ensures)
