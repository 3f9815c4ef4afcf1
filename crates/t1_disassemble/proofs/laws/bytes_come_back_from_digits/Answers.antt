use Rattle.t1_disassemble.proofs.DigitLaws.{lines_again, lines_passed}
use Rattle.t1_disassemble.proofs.laws.bytes_come_back_from_digits.Goals as goal

pub returns-clause-bytes : goal.returns-clause-bytes
returns-clause-bytes c = lines_again

pub returns-clause-after : goal.returns-clause-after
returns-clause-after c = lines_passed
