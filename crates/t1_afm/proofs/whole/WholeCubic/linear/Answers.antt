use Rattle.std.proofs.Common.{arith, ◌≤◌, ◌^◌, ◌+◌, ℤ, ◌-ℤ◌}
use Rattle.std.specs.Int.RustNames.{unsigned_abs}
use Rattle.t1_afm.proofs.Longs.{IsLong, read, long, difference_long, difference_fits, multiple_long, multiple_fits}
use Rattle.t1_afm.proofs.whole.WholeCubic.linear.Goals as goal

apart : (a b : ℤ) → unsigned_abs a ≤ 2 ^ 20 → unsigned_abs b ≤ 2 ^ 20 → IsLong (read b -ℤ read a) (b -ℤ a) (2 ^ 20 + 2 ^ 20)
apart a b h k = difference_long b a b a (2 ^ 20) (2 ^ 20) (long b (2 ^ 20) k (omega arith)) (long a (2 ^ 20) h (omega arith)) (omega arith)

pub overflow_sub-result : goal.overflow_sub-result
overflow_sub-result c =
    let p = c.args.self.now in
    difference_fits p.first p.start p.first p.start (2 ^ 20) (2 ^ 20) (long p.first (2 ^ 20) p.first_size (omega arith)) (long p.start (2 ^ 20) p.start_size (omega arith)) (omega arith)

pub overflow_mul-result : goal.overflow_mul-result
overflow_mul-result c =
    let p = c.args.self.now in
    multiple_fits 12288 _ _ (2 ^ 20 + 2 ^ 20) (apart p.start p.first p.start_size p.first_size) (omega arith)

pub returns-clause-value : goal.returns-clause-value
returns-clause-value c =
    let p = c.args.self.now in
    (multiple_long 12288 _ _ (2 ^ 20 + 2 ^ 20) (apart p.start p.first p.start_size p.first_size) (omega arith)).same

pub returns-clause-size : goal.returns-clause-size
returns-clause-size c =
    let p = c.args.self.now in
    let h = multiple_long 12288 _ _ (2 ^ 20 + 2 ^ 20) (apart p.start p.first p.start_size p.first_size) (omega arith) in
    rw h.same (omega (arith, h.bound))
