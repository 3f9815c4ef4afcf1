use Rattle.std.proofs.Common.{◌≡◌, ℕ, ℤ, pos, ◌≤◌, ◌*◌, ◌^◌, ◌∙◌, ◌*ℤ◌, arith, ap}
use Rattle.std.specs.Int.RustNames.{unsigned_abs}
use mir.Syntax.{w64}
use Rattle.t1_afm.proofs.Longs.{read, read_small}
use Rattle.t1_afm.proofs.Products.{IsMade, long_product}
use Rattle.t1_afm.proofs.ratio.times.Goals as goal

made : (x num : ℤ) (weight : ℕ) → x ≡ pos weight → weight ≤ 2 ^ 18 → unsigned_abs num ≤ 2 ^ 40 → IsMade w64 (read x *ℤ read num) (pos weight *ℤ num) (2 ^ 18 * 2 ^ 40)
made x num weight e h k =
    long_product _ _ (pos weight) num (2 ^ 18) (2 ^ 40) (ap read e ∙ read_small (pos weight) (omega (arith, h))) (read_small num (omega (arith, k))) h k (omega arith)

pub overflow_mul-result : goal.overflow_mul-result
overflow_mul-result c = (made c.from.result c.args.num c.args.weight c.from.ensures c.requires.weight c.requires.num).fits

pub returns-clause-value : goal.returns-clause-value
returns-clause-value c = (made c.from.result c.args.num c.args.weight c.from.ensures c.requires.weight c.requires.num).same

pub returns-clause-size : goal.returns-clause-size
returns-clause-size c = (made c.from.result c.args.num c.args.weight c.from.ensures c.requires.weight c.requires.num).bound
