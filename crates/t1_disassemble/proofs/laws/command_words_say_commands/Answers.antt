use Rattle.t1_disassemble.proofs.WordLaws.{commands_said}
use Rattle.t1_disassemble.proofs.laws.command_words_say_commands.Goals as goal

pub returns : goal.returns
returns c = commands_said
