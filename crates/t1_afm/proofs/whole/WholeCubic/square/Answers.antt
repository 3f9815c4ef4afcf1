use Rattle.std.proofs.Common.{arith, ◌≤◌, ◌^◌, ◌+◌, ◌*◌, ℤ, pos, ◌+ℤ◌, ◌-ℤ◌, ◌*ℤ◌}
use Rattle.std.specs.Int.RustNames.{unsigned_abs}
use Rattle.t1_afm.specs.declared.whole.WholeCubic.{WholeCubic}
use Rattle.t1_afm.proofs.Longs.{IsLong, read, long, sum_long, sum_fits, difference_long, multiple_long, multiple_fits}
use Rattle.t1_afm.proofs.whole.WholeCubic.square.Goals as goal

less : (a b : ℤ) → unsigned_abs a ≤ 2 ^ 20 → unsigned_abs b ≤ 2 ^ 20 → IsLong (read a -ℤ read (pos 2 *ℤ read b)) (a -ℤ pos 2 *ℤ b) (2 ^ 20 + 2 * 2 ^ 20)
less a b h k =
    difference_long a (pos 2 *ℤ read b) a (pos 2 *ℤ b) (2 ^ 20) (2 * 2 ^ 20) (long a (2 ^ 20) h (omega arith))
    (multiple_long 2 b b (2 ^ 20) (long b (2 ^ 20) k (omega arith)) (omega arith)) (omega arith)

inner : (p : WholeCubic)
    → IsLong (read (read p.start -ℤ read (pos 2 *ℤ read p.first)) +ℤ read p.second) (p.start -ℤ pos 2 *ℤ p.first +ℤ p.second) (2 ^ 20 + 2 * 2 ^ 20 + 2 ^ 20)
inner p =
    sum_long _ _ _ _ (2 ^ 20 + 2 * 2 ^ 20) (2 ^ 20) (less p.start p.first p.start_size p.first_size) (long p.second (2 ^ 20) p.second_size (omega arith)) (omega arith)

pub overflow_add-result : goal.overflow_add-result
overflow_add-result c =
    let p = c.args.self.now in
    sum_fits _ _ _ _ (2 ^ 20 + 2 * 2 ^ 20) (2 ^ 20) (less p.start p.first p.start_size p.first_size) (long p.second (2 ^ 20) p.second_size (omega arith)) (omega arith)

pub overflow_mul-result-2 : goal.overflow_mul-result-2
overflow_mul-result-2 c = multiple_fits 192 _ _ (2 ^ 20 + 2 * 2 ^ 20 + 2 ^ 20) (inner c.args.self.now) (omega arith)

pub returns-clause-value : goal.returns-clause-value
returns-clause-value c = (multiple_long 192 _ _ (2 ^ 20 + 2 * 2 ^ 20 + 2 ^ 20) (inner c.args.self.now) (omega arith)).same

pub returns-clause-size : goal.returns-clause-size
returns-clause-size c =
    let h = multiple_long 192 _ _ (2 ^ 20 + 2 * 2 ^ 20 + 2 ^ 20) (inner c.args.self.now) (omega arith) in
    rw h.same (omega (arith, h.bound))
