use Rattle.std.proofs.Common.{arith, refl}
use Rattle.t1_frac.proofs.Exact.{IsGcd-one}
use Rattle.t1_frac.proofs.terms.Terms.of.Goals as goal

pub invariant_of-result : goal.invariant_of-result
invariant_of-result c = record {
  num_below = c.requires.num;
  coprime_above = omega arith;
  rest_above = c.requires.above;
  apart = IsGcd-one _ 1 refl;
  den_below = omega (arith, c.requires.below);
}
