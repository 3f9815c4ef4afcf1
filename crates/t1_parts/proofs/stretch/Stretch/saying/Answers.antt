use Rattle.t1_parts.proofs.NumberedLaws.{silent_lines}
use Rattle.t1_parts.proofs.stretch.Stretch.saying.Goals as goal

pub returns-in-Lines : goal.returns-in-Lines
returns-in-Lines c = rw c.in-Lines.is (silent_lines c.in-Lines.plain c.len-len.ensures.silent)
