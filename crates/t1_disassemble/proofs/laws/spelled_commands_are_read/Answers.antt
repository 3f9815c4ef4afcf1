use Rattle.t1_disassemble.proofs.WordLaws.{words_again}
use Rattle.t1_disassemble.proofs.laws.spelled_commands_are_read.Goals as goal

pub returns : goal.returns
returns c = words_again
