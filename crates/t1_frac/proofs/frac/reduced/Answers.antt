use Rattle.std.proofs.Common.{arith}
use Rattle.t1_frac.proofs.Exact.{coprime_lowest}
use Rattle.t1_frac.proofs.frac.reduced.Goals as goal

pub invariant_of-result : goal.invariant_of-result
invariant_of-result c = grind (arith, coprime_lowest)
