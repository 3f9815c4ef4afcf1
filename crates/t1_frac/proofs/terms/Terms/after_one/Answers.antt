use Rattle.std.proofs.Common.{◌<◌, ◌^◌, arith, lt_of_le_of_lt, mod-lt, subst, sym}
use Rattle.t1_frac.proofs.SmallPrimes.{prime_above, coprime_quotient, coprime_by_prime, same_divided, same_moved, finer_divided, finer_moved, quotient_below, quotient_above, product_above}
use Rattle.t1_frac.proofs.terms.Terms.after_one.Goals as goal

pub invariant_of-result : goal.invariant_of-result
invariant_of-result c =
    let t = c.args.self.now in
    let p = c.args.prime in
    let prime = prime_above p c.requires.prime in
    let some : 0 < p = omega (arith, prime) in
    record {
      num_below = lt_of_le_of_lt (quotient_below t.num p) t.num_below;
      coprime_above = t.coprime_above;
      rest_above = quotient_above t.rest p some c.requires.divided t.rest_above;
      apart = coprime_quotient t.num p t.coprime c.if-self-prime-eq0.true t.apart;
      den_below = lt_of_le_of_lt (finer_divided t.coprime t.rest p) t.den_below;
    }

pub returns-then-self-prime-eq0-clause-same : goal.returns-then-self-prime-eq0-clause-same
returns-then-self-prime-eq0-clause-same c n d e =
    let t = c.args.self.now in
    let p = c.args.prime in
    let prime = prime_above p c.requires.prime in
    same_divided t.num t.coprime t.rest p n d (omega (arith, prime)) c.if-self-prime-eq0.true c.requires.divided e

pub invariant_of-result-2 : goal.invariant_of-result-2
invariant_of-result-2 c =
    let t = c.args.self.now in
    let p = c.args.prime in
    let prime = prime_above p c.requires.prime in
    let some : 0 < p = omega (arith, prime) in
    record {
      num_below = t.num_below;
      coprime_above = product_above t.coprime p t.coprime_above some;
      rest_above = quotient_above t.rest p some c.requires.divided t.rest_above;
      apart = coprime_by_prime t.num t.coprime p c.requires.prime t.coprime_above (omega (arith, c.if-self-prime-eq0.false)) (mod-lt t.num some) t.apart;
      den_below = subst (λ k. k < 2 ^ 63) (sym (finer_moved t.coprime t.rest p c.requires.divided)) t.den_below;
    }
