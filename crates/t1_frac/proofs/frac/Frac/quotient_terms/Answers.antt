use Rattle.std.proofs.Common.{rules}
use Rattle.t1_frac.proofs.frac.Frac.quotient_terms.Goals as goal

pub returns-then-other-lt0-clause-quotient : goal.returns-then-other-lt0-clause-quotient
returns-then-other-lt0-clause-quotient c = search rules

pub returns-then-other-lt0-clause-num_below : goal.returns-then-other-lt0-clause-num_below
returns-then-other-lt0-clause-num_below c = search rules

pub returns-then-other-lt0-clause-den_above : goal.returns-then-other-lt0-clause-den_above
returns-then-other-lt0-clause-den_above c = search rules

pub returns-then-other-lt0-clause-den_below : goal.returns-then-other-lt0-clause-den_below
returns-then-other-lt0-clause-den_below c = search rules

pub returns-else-other-lt0-clause-quotient : goal.returns-else-other-lt0-clause-quotient
returns-else-other-lt0-clause-quotient c = search rules

pub returns-else-other-lt0-clause-num_below : goal.returns-else-other-lt0-clause-num_below
returns-else-other-lt0-clause-num_below c = search rules

pub returns-else-other-lt0-clause-den_above : goal.returns-else-other-lt0-clause-den_above
returns-else-other-lt0-clause-den_above c = search rules

pub returns-else-other-lt0-clause-den_below : goal.returns-else-other-lt0-clause-den_below
returns-else-other-lt0-clause-den_below c = search rules
