use Rattle.std.proofs.Common.{ℕ, ℤ, pos, ◌≤◌, ◌*◌, ◌^◌, ◌*ℤ◌, arith}
use Rattle.std.specs.Int.RustNames.{unsigned_abs}
use mir.Syntax.{w128}
use mir.Val.{to_z, of_z}
use Rattle.t1_afm.proofs.Products.{IsMade, natural_fits, read_wide, wide_natural, wide_product}
use Rattle.t1_afm.proofs.ratio.WeightedPair.widened.Goals as goal

made : (num : ℤ) (den : ℕ) → unsigned_abs num ≤ 2 ^ 79 → den ≤ 2 ^ 40 → IsMade w128 (to_z w128 (of_z w128 num) *ℤ to_z w128 den) (num *ℤ pos den) (2 ^ 79 * 2 ^ 40)
made num den h k =
    wide_product _ _ num (pos den) (2 ^ 79) (2 ^ 40) (read_wide num (omega (arith, h))) (wide_natural den (omega (arith, k))) h k (omega arith)

pub overflow_cast-result : goal.overflow_cast-result
overflow_cast-result c = natural_fits c.args.other.now.den (omega (arith, c.args.other.now.den_size))

pub overflow_mul-result : goal.overflow_mul-result
overflow_mul-result c = (made c.args.self.now.num c.args.other.now.den c.args.self.now.num_size c.args.other.now.den_size).fits

pub returns-clause-value : goal.returns-clause-value
returns-clause-value c = (made c.args.self.now.num c.args.other.now.den c.args.self.now.num_size c.args.other.now.den_size).same

pub returns-clause-size : goal.returns-clause-size
returns-clause-size c = (made c.args.self.now.num c.args.other.now.den c.args.self.now.num_size c.args.other.now.den_size).bound
