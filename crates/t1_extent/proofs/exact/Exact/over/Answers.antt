use Rattle.std.proofs.Common.{◌≡◌, ℕ, ℤ, pos, ◌≤◌, ◌*◌, ◌^◌, ◌*ℤ◌, ◌∙◌, arith, ap}
use Rattle.std.specs.Int.RustNames.{unsigned_abs}
use mir.Syntax.{w128}
use mir.Val.{to_z, of_z}
use Rattle.t1_afm.proofs.Longs.{read}
use Rattle.t1_afm.proofs.Products.{IsMade, read_wide, widened_long, wide_product}
use Rattle.t1_extent.proofs.exact.Exact.over.Goals as goal

made : (x y num : ℤ) (den : ℕ) → x ≡ read num → y ≡ pos den → unsigned_abs num ≤ 2 ^ 60 → den ≤ 2 ^ 40
    → IsMade w128 (to_z w128 (of_z w128 x) *ℤ to_z w128 (of_z w128 y)) (num *ℤ pos den) (2 ^ 60 * 2 ^ 40)
made x y num den e f size fine =
    let right : to_z w128 (of_z w128 y) ≡ pos den = ap (λ z. to_z w128 (of_z w128 z)) f ∙ read_wide (pos den) (omega (arith, fine)) in
    wide_product _ _ num (pos den) (2 ^ 60) (2 ^ 40) (widened_long x num (2 ^ 60) e size (omega arith)) right size fine (omega arith)

pub overflow_mul-result : goal.overflow_mul-result
overflow_mul-result c =
    (made c.from.result c.from-2.result c.args.self.now.num c.args.other.now.den c.from.ensures c.from-2.ensures c.args.self.now.size c.args.other.now.fine).fits

pub returns : goal.returns
returns c =
    (made c.from.result c.from-2.result c.args.self.now.num c.args.other.now.den c.from.ensures c.from-2.ensures c.args.self.now.size c.args.other.now.fine).same
