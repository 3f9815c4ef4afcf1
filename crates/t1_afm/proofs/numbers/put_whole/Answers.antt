use Rattle.std.proofs.Common.{arith}
use Rattle.t1_afm.proofs.Digits.{one_digit, two_digits, three_digits, four_digits}
use Rattle.t1_afm.proofs.numbers.put_whole.Goals as goal

pub put_digits-requires-clause-all : goal.put_digits-requires-clause-all
put_digits-requires-clause-all c = four_digits c.args.number (omega arith) (omega arith)

pub put_digits-requires-then-number-ge100-clause-all : goal.put_digits-requires-then-number-ge100-clause-all
put_digits-requires-then-number-ge100-clause-all c = three_digits c.args.number (omega arith) (omega arith)

pub put_digits-requires-then-number-ge10-clause-all : goal.put_digits-requires-then-number-ge10-clause-all
put_digits-requires-then-number-ge10-clause-all c = two_digits c.args.number (omega arith) (omega arith)

pub put_digits-requires-2-clause-all : goal.put_digits-requires-2-clause-all
put_digits-requires-2-clause-all c = one_digit c.args.number (omega arith)
