use Rattle.t1_parts.proofs.StretchLaws.{raised_lines}
use Rattle.t1_parts.proofs.stretch.Stretch.is_raised.Goals as goal

pub returns-in-Lines : goal.returns-in-Lines
returns-in-Lines c raised = rw c.in-Lines.is (raised_lines c.args.subrs c.args.glyphs c.in-Lines._plain)
