use Rattle.std.proofs.Common.{◌*◌, pos, ap, ◌∙◌, w64}
use Rattle.std.specs.Int.RustNames.{unsigned_abs}
use Rattle.std.proofs.lemmas.Int.{to_z-of_z}
use Rattle.t1_frac.specs.Fraction.{signed_like}
use Rattle.t1_frac.proofs.SmallPrimes.{lowest_signed}
use Rattle.t1_frac.proofs.terms.over_small_primes.Goals as goal

pub returns-clause-lowest : goal.returns-clause-lowest
returns-clause-lowest c =
    let t = c.without-terms.result in
    let reads = to_z-of_z w64 c.args.num c.ranges.num in
    let same = c.without-terms.ensures.same _ _ (c.without-3.ensures.same _ _ (c.without-2.ensures.same _ _ (c.without.ensures.same _ _ c.of.ensures.same))) in
    lowest_signed c.args.num t.num t.coprime t.rest c.args.den c.signed.result t.num_below t.coprime_above c.requires.den_above c.if-terms-ne1.false t.apart
    (same ∙ ap (λ k. k * (t.coprime * t.rest)) (c.unsigned_abs.ensures.value ∙ ap unsigned_abs reads)) (c.signed.ensures ∙ ap (λ z. signed_like z (pos t.num)) reads)
