use Rattle.std.proofs.Common.{rules}
use Rattle.t1_frac.proofs.frac.Frac.crossed_terms.Goals as goal

pub returns-clause-sum : goal.returns-clause-sum
returns-clause-sum c = search rules

pub returns-clause-num_below : goal.returns-clause-num_below
returns-clause-num_below c = search rules

pub returns-clause-den_above : goal.returns-clause-den_above
returns-clause-den_above c = search rules

pub returns-clause-den_below : goal.returns-clause-den_below
returns-clause-den_below c = search rules
