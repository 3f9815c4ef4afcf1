use Rattle.std.proofs.Common.{arith, subst}
use Rattle.std.specs.Int.{IsGcd}
use Rattle.std.proofs.lemmas.Nat.Gcd.{IsGcd-from_zero, IsGcd-from_mod}
use Rattle.t1_frac.proofs.Divisors.{gcd_is}
use Rattle.t1_frac.proofs.Exact.{IsGcd-one}
use Rattle.t1_frac.proofs.Primes.{coprime}
use Rattle.t1_frac.proofs.gcd.gcd_64.Goals as goal

pub loop-y-preserved : goal.loop-y-preserved
loop-y-preserved c g h =
    let rest = subst (λ r. IsGcd c.loop-y.y r g) c.remainder-rest.ensures h in
    c.loop-y.invariant g (IsGcd-from_mod _ _ g rest)

pub returns-then-is_small_prime : goal.returns-then-is_small_prime
returns-then-is_small_prime c =
    gcd_is _ _ _ (c.loop-y.invariant _ (coprime c.loop-y.x c.loop-y.y _ (c.is_small_prime.ensures c.if-is_small_prime.true) c.remainder-rest.ensures (omega (arith, c.if-rest-gt0.true)) (omega (arith, c.loop-y-test.true))))

pub returns-then-y-eq1 : goal.returns-then-y-eq1
returns-then-y-eq1 c = gcd_is _ _ _ (c.loop-y.invariant _ (IsGcd-one _ _ (omega arith)))

pub returns-else-y-eq1 : goal.returns-else-y-eq1
returns-else-y-eq1 c = gcd_is _ _ _ (c.loop-y.invariant _ (IsGcd-from_zero _ _ (omega arith)))
