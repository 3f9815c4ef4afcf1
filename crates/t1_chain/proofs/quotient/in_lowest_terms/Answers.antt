use Rattle.std.proofs.Common.{arith}
use Rattle.t1_frac.proofs.Divisors.{gcd_above, gcd_below}
use Rattle.t1_chain.proofs.quotient.in_lowest_terms.Goals as goal

pub overflow_cast-result : goal.overflow_cast-result
overflow_cast-result c = grind (arith, gcd_below)

pub nonzero_div-result : goal.nonzero_div-result
nonzero_div-result c = grind (arith, gcd_above, gcd_below)

pub nonzero_div-result-2 : goal.nonzero_div-result-2
nonzero_div-result-2 c = grind (arith, gcd_above)
