use Rattle.std.proofs.Common.{◌≡◌, ◌≤◌, ◌*◌, ◌^◌, ◌*ℤ◌, ◌∙◌, ℕ, ℤ, pos, lit<, to_z, of_z, w64, arith}
use Rattle.std.specs.Int.RustNames.{unsigned_abs, FitsSigned}
use Rattle.std.proofs.lemmas.Int.{ints, to_z-of_z}
use mir.Syntax.{w128}
use Rattle.t1_chain.proofs.ProductLaws.{IsComputed, product}
use Rattle.t1_chain.proofs.quotient.scaled.Goals as goal

made : (x y num : ℤ) (den : ℕ) → x ≡ to_z w64 (of_z w64 num) → y ≡ pos den → FitsSigned w64 num → den ≤ 2 ^ 31
    → IsComputed w128 (to_z w128 (of_z w128 x) *ℤ to_z w128 (of_z w128 y)) (num *ℤ pos den) (2 ^ 63 * 2 ^ 31)
made x y num den e f fits fine =
    let size : unsigned_abs num ≤ 2 ^ 63 = omega (arith, ints, fits) in
    product w128 x y num (pos den) (2 ^ 63) (2 ^ 31) (e ∙ to_z-of_z w64 num fits) f size fine (lit< tt) (lit< tt) (lit< tt)

pub overflow_mul-result : goal.overflow_mul-result
overflow_mul-result c = (made c.from.result c.from-2.result c.args.num c.args.den c.from.ensures c.from-2.ensures c.ranges.num c.requires).fits

pub returns-clause-value : goal.returns-clause-value
returns-clause-value c = (made c.from.result c.from-2.result c.args.num c.args.den c.from.ensures c.from-2.ensures c.ranges.num c.requires).value

pub returns-clause-size : goal.returns-clause-size
returns-clause-size c =
    let h = made c.from.result c.from-2.result c.args.num c.args.den c.from.ensures c.from-2.ensures c.ranges.num c.requires in
    omega (arith, h.size)
