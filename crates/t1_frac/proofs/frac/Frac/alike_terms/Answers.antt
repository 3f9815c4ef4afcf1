use Rattle.std.proofs.Common.{arith, rules}
use Rattle.t1_frac.proofs.Sums.{sum_alike}
use Rattle.t1_frac.proofs.frac.Frac.alike_terms.Goals as goal

pub returns-clause-sum : goal.returns-clause-sum
returns-clause-sum c = grind (arith, sum_alike)

pub returns-clause-num_below : goal.returns-clause-num_below
returns-clause-num_below c = search rules

pub returns-clause-den_above : goal.returns-clause-den_above
returns-clause-den_above c = search rules

pub returns-clause-den_below : goal.returns-clause-den_below
returns-clause-den_below c = search rules
