use Rattle.t1_disassemble.proofs.CommandLaws.{endchar_known}
use Rattle.t1_disassemble.proofs.known_command.KnownCommand.endchar.Goals as goal

pub invariant_of-result : goal.invariant_of-result
invariant_of-result c = endchar_known
