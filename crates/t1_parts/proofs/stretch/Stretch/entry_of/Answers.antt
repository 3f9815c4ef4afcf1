use Rattle.t1_parts.proofs.EntryPlaceLaws.{lines_entry}
use Rattle.t1_parts.proofs.stretch.Stretch.entry_of.Goals as goal

pub returns-in-Lines : goal.returns-in-Lines
returns-in-Lines c = rw c.in-Lines.is (lines_entry c.args.key.now c.in-Lines._plain)
