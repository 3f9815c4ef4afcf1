use Rattle.std.proofs.Common.{refl}
use Rattle.t1_command_line.proofs.table.runs.section.Goals as goal

pub returns : goal.returns
returns c = refl
