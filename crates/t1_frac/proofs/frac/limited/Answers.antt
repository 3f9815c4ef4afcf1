use Rattle.std.proofs.Common.{◌≡◌, ◌<◌, ◌≤◌, ◌*◌, ◌^◌, ◌∙◌, sym, ap, subst, subst₂, lit<, le_trans, mul-le-mul, mul-le-mul_right, rules, Ok, to_z, of_z, w64}
use mir.Syntax.{w128}
use Rattle.std.specs.Int.RustNames.{unsigned_abs}
use Rattle.std.proofs.lemmas.Int.{to_z-of_z}
use Rattle.t1_frac.specs.Fraction.{gcd}
use Rattle.t1_frac.proofs.Computed.{IsComputed, narrowed}
use Rattle.t1_frac.proofs.Coordinates.{within_ok}
use Rattle.t1_frac.proofs.frac.limited.Goals as goal

size : (c : goal.Else-den) → unsigned_abs c.args.num ≤ c.args.limit * c.args.den
size c =
    let within : c.unsigned_abs.result ≤ c.from.result * c.args.den = search rules in
    subst₂ (λ s l. s ≤ l * c.args.den) (c.unsigned_abs.ensures.value ∙ ap unsigned_abs (to_z-of_z w128 c.args.num c.ranges.num)) c.from.ensures within

narrow : (c : goal.Else-den) → IsComputed w64 (to_z w128 (of_z w128 c.args.num)) c.args.num (2 ^ 51)
narrow c =
    narrowed w128 w64 c.args.num (2 ^ 51) (le_trans (size c) (mul-le-mul c.requires.limit c.if-den.false)) (lit< tt) (lit< tt)

pub overflow_cast-result : goal.overflow_cast-result
overflow_cast-result c = (narrow c).fits

pub invariant_of-result : goal.invariant_of-result
invariant_of-result c =
    let large : unsigned_abs c.args.num ≤ 2 ^ 31 * c.args.den = le_trans (size c) (mul-le-mul_right c.args.den c.requires.limit) in
    subst (λ n. (0 < c.args.den) × (gcd (unsigned_abs n) c.args.den ≡ 1) × (c.args.den ≤ 2 ^ 20) × (unsigned_abs n ≤ 2 ^ 31 * c.args.den)) (sym (narrow c).value)
    (c.requires.den_above, c.requires.coprime, c.if-den.false, large)

pub returns : goal.returns
returns c =
    ap (λ n. Ok (record { num = n; den = c.args.den })) (narrow c).value
    ∙ within_ok c.args.fault c.args.limit (record { num = c.args.num; den = c.args.den }) (size c) c.if-den.false
