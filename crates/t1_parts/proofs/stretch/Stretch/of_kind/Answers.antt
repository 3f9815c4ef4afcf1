use Rattle.t1_parts.proofs.EntryPlaceLaws.{lines_kind}
use Rattle.t1_parts.proofs.stretch.Stretch.of_kind.Goals as goal

pub returns-in-Lines : goal.returns-in-Lines
returns-in-Lines c = rw c.in-Lines.is (lines_kind c.args.kind c.in-Lines._plain)
