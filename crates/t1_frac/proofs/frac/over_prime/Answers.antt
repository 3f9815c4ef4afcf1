use Rattle.std.proofs.Common.{arith}
use Rattle.t1_frac.proofs.Primes.{divided_by_prime, other_over_prime}
use Rattle.t1_frac.proofs.frac.over_prime.Goals as goal

pub returns-then-num-prime-eq0-clause-lowest : goal.returns-then-num-prime-eq0-clause-lowest
returns-then-num-prime-eq0-clause-lowest c =
    divided_by_prime c.args.num c.args.prime c.signed_quotient.result c.requires.prime c.ranges.num c.if-num-prime-eq0.true (record { sfits = c.signed_quotient.type_inv }) c.signed_quotient.ensures

pub returns-clause-lowest : goal.returns-clause-lowest
returns-clause-lowest c = grind (arith, other_over_prime)
