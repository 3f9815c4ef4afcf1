use Rattle.std.proofs.Common.{◌≡◌, ℕ, ℤ, pos, ◌≤◌, ◌*◌, ◌^◌, ◌*ℤ◌, ◌∙◌, arith, ap}
use Rattle.std.specs.Int.RustNames.{unsigned_abs, FitsSigned}
use Rattle.std.proofs.lemmas.Int.{ints}
use mir.Syntax.{w64, w128}
use mir.Val.{to_z, of_z}
use Rattle.t1_afm.proofs.Longs.{read}
use Rattle.t1_afm.proofs.Products.{IsMade, read_wide, wide_product}
use Rattle.t1_extent.proofs.exact.scaled.Goals as goal

made : (x y num : ℤ) (den : ℕ) → x ≡ read num → y ≡ pos den → FitsSigned w64 num → den ≤ 2 ^ 40
    → IsMade w128 (to_z w128 (of_z w128 x) *ℤ to_z w128 (of_z w128 y)) (num *ℤ pos den) (2 ^ 63 * 2 ^ 40)
made x y num den e f fits fine =
    let same : read num ≡ num = omega (arith, ints, fits) in
    let size : unsigned_abs num ≤ 2 ^ 63 = omega (arith, ints, fits) in
    let left : to_z w128 (of_z w128 x) ≡ num = ap (λ z. to_z w128 (of_z w128 z)) (e ∙ same) ∙ read_wide num (omega (arith, size)) in
    let right : to_z w128 (of_z w128 y) ≡ pos den = ap (λ z. to_z w128 (of_z w128 z)) f ∙ read_wide (pos den) (omega (arith, fine)) in
    wide_product _ _ num (pos den) (2 ^ 63) (2 ^ 40) left right size fine (omega arith)

pub overflow_mul-result : goal.overflow_mul-result
overflow_mul-result c = (made c.from.result c.from-2.result c.args.num c.args.den c.from.ensures c.from-2.ensures c.ranges.num c.requires).fits

pub returns-clause-value : goal.returns-clause-value
returns-clause-value c = (made c.from.result c.from-2.result c.args.num c.args.den c.from.ensures c.from-2.ensures c.ranges.num c.requires).same

pub returns-clause-size : goal.returns-clause-size
returns-clause-size c =
    let h = made c.from.result c.from-2.result c.args.num c.args.den c.from.ensures c.from-2.ensures c.ranges.num c.requires in
    omega (arith, h.bound)
