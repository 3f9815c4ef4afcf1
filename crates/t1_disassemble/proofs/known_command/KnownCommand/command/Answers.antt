use Rattle.t1_disassemble.proofs.CommandLaws.{command_known}
use Rattle.t1_disassemble.proofs.known_command.KnownCommand.command.Goals as goal

pub invariant_of-result : goal.invariant_of-result
invariant_of-result c = command_known c.args.first c.args.command c.requires.small c.requires.alone c.requires.word c.requires.fits
