use Rattle.std.proofs.Common.{arith}
use Rattle.std.proofs.lemmas.Grind.{common_steps}
use Rattle.t1_frac.proofs.number.leading_short_number.Goals as goal

pub returns-then-not-is_ascii_digit-clause-count : goal.returns-then-not-is_ascii_digit-clause-count
returns-then-not-is_ascii_digit-clause-count c = grind (arith, common_steps)

pub returns-then-not-is_ascii_digit-2-clause-count : goal.returns-then-not-is_ascii_digit-2-clause-count
returns-then-not-is_ascii_digit-2-clause-count c = grind (arith, common_steps)

pub returns-then-not-is_ascii_digit-3-clause-count : goal.returns-then-not-is_ascii_digit-3-clause-count
returns-then-not-is_ascii_digit-3-clause-count c = grind (arith, common_steps)

pub returns-then-not-is_ascii_digit-4-clause-count : goal.returns-then-not-is_ascii_digit-4-clause-count
returns-then-not-is_ascii_digit-4-clause-count c = grind (arith, common_steps)

pub returns-clause-else_longer : goal.returns-clause-else_longer
returns-clause-else_longer c = grind (arith, common_steps)

pub returns-then-not-is_ascii_digit-5-clause-count : goal.returns-then-not-is_ascii_digit-5-clause-count
returns-then-not-is_ascii_digit-5-clause-count c = grind (arith, common_steps)
