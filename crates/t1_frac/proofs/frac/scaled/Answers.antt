use Rattle.std.proofs.Common.{◌^◌, pos, ◌*ℤ◌, refl, lit<, to_z, of_z, w64}
use Rattle.t1_frac.proofs.Computed.{IsComputed, product}
use Rattle.t1_frac.proofs.frac.scaled.Goals as goal

short_product : (c : goal.Start) → IsComputed w64 (to_z w64 (of_z w64 c.args.num) *ℤ to_z w64 c.args.den) (c.args.num *ℤ pos c.args.den) (2 ^ 60)
short_product c = product w64 _ _ c.args.num (pos c.args.den) (2 ^ 40) (2 ^ 20) refl refl c.requires.num c.requires.den (lit< tt) (lit< tt) (lit< tt)

pub overflow_mul-result : goal.overflow_mul-result
overflow_mul-result c = (short_product c).fits

pub returns-clause-value : goal.returns-clause-value
returns-clause-value c = (short_product c).value

pub returns-clause-size : goal.returns-clause-size
returns-clause-size c = (short_product c).size
