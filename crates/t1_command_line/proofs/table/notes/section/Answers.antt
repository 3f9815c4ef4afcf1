use Rattle.std.proofs.Common.{refl}
use Rattle.t1_command_line.proofs.table.notes.section.Goals as goal

pub returns : goal.returns
returns c = refl
