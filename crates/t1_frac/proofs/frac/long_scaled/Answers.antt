use Rattle.std.proofs.Common.{◌^◌, pos, ◌*ℤ◌, ◌∙◌, lit<, to_z, of_z, w64}
use mir.Syntax.{w128}
use Rattle.std.proofs.lemmas.Int.{to_z-of_z}
use Rattle.t1_frac.proofs.Computed.{IsComputed, product}
use Rattle.t1_frac.proofs.frac.long_scaled.Goals as goal

long_product : (c : goal.After-from-2) → IsComputed w128 (to_z w128 (of_z w128 c.from.result) *ℤ to_z w128 (of_z w128 c.from-2.result)) (c.args.num *ℤ pos c.args.den) (2 ^ 82)
long_product c =
    product w128 _ _ c.args.num (pos c.args.den) (2 ^ 51) (2 ^ 31) (c.from.ensures ∙ to_z-of_z w64 c.args.num c.ranges.num) c.from-2.ensures c.requires.num c.requires.den (lit< tt) (lit< tt) (lit< tt)

pub overflow_mul-result : goal.overflow_mul-result
overflow_mul-result c = (long_product c).fits

pub returns-clause-value : goal.returns-clause-value
returns-clause-value c = (long_product c).value

pub returns-clause-size : goal.returns-clause-size
returns-clause-size c = (long_product c).size
