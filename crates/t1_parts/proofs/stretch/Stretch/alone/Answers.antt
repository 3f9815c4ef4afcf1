use Rattle.t1_parts.proofs.AloneLaws.{silent_filtered}
use Rattle.t1_parts.proofs.stretch.Stretch.alone.Goals as goal

pub returns-in-Lines : goal.returns-in-Lines
returns-in-Lines c = rw c.in-Lines.is (silent_filtered c.in-Lines.plain c.len-len.ensures.silent)
