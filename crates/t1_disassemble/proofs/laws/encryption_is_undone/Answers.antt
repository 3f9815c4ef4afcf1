use Rattle.t1_disassemble.proofs.Deciphering.{charstring_again, private_again}
use Rattle.t1_disassemble.proofs.laws.encryption_is_undone.Goals as goal

pub returns-clause-charstring : goal.returns-clause-charstring
returns-clause-charstring c = charstring_again

pub returns-clause-private : goal.returns-clause-private
returns-clause-private c = private_again
