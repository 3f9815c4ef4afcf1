use Rattle.std.proofs.Common.{◌≡◌, ℤ, ◌≤◌, ◌*◌, ◌^◌, ◌*ℤ◌, arith}
use Rattle.std.specs.Int.RustNames.{unsigned_abs}
use mir.Syntax.{w128}
use mir.Val.{to_z, of_z}
use Rattle.t1_afm.proofs.Longs.{read}
use Rattle.t1_afm.proofs.Products.{IsMade, wide_product, widened_long}
use Rattle.t1_afm.proofs.ratio.scaled.Goals as goal

made : (x y num den : ℤ) → x ≡ read num → y ≡ read den → unsigned_abs num ≤ 2 ^ 58 → unsigned_abs den ≤ 2 ^ 20
    → IsMade w128 (to_z w128 (of_z w128 x) *ℤ to_z w128 (of_z w128 y)) (num *ℤ den) (2 ^ 58 * 2 ^ 20)
made x y num den e f h k =
    wide_product _ _ num den (2 ^ 58) (2 ^ 20) (widened_long x num (2 ^ 58) e h (omega arith)) (widened_long y den (2 ^ 20) f k (omega arith)) h k (omega arith)

pub overflow_mul-result : goal.overflow_mul-result
overflow_mul-result c = (made c.from.result c.from-2.result c.args.num c.args.den c.from.ensures c.from-2.ensures c.requires.num c.requires.den).fits

pub returns-clause-value : goal.returns-clause-value
returns-clause-value c = (made c.from.result c.from-2.result c.args.num c.args.den c.from.ensures c.from-2.ensures c.requires.num c.requires.den).same

pub returns-clause-size : goal.returns-clause-size
returns-clause-size c = (made c.from.result c.from-2.result c.args.num c.args.den c.from.ensures c.from-2.ensures c.requires.num c.requires.den).bound
