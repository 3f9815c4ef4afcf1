use Rattle.std.proofs.Common.{arith, ◌≤◌, ◌^◌, ◌+◌, ◌*◌, ℤ, pos, ◌+ℤ◌, ◌-ℤ◌, ◌*ℤ◌}
use Rattle.std.specs.Int.RustNames.{unsigned_abs}
use Rattle.t1_afm.specs.declared.whole.WholeCubic.{WholeCubic}
use Rattle.t1_afm.specs.Differences.{cube}
use Rattle.t1_afm.proofs.Longs.{IsLong, read, long, sum_long, sum_fits, difference_long, multiple_long}
use Rattle.t1_afm.proofs.whole.WholeCubic.cube.Goals as goal

ends : (a d : ℤ) → unsigned_abs a ≤ 2 ^ 20 → unsigned_abs d ≤ 2 ^ 20 → IsLong (read d -ℤ read a) (d -ℤ a) (2 ^ 21)
ends a d h k = difference_long d a d a (2 ^ 20) (2 ^ 20) (long d (2 ^ 20) k (omega arith)) (long a (2 ^ 20) h (omega arith)) (omega arith)

middle : (b c : ℤ) → unsigned_abs b ≤ 2 ^ 20 → unsigned_abs c ≤ 2 ^ 20 → IsLong (pos 3 *ℤ read (read b -ℤ read c)) (pos 3 *ℤ (b -ℤ c)) (3 * 2 ^ 21)
middle b c h k = multiple_long 3 _ _ (2 ^ 21) (ends c b k h) (omega arith)

whole : (p : WholeCubic) → IsLong (read (read p.end -ℤ read p.start) +ℤ read (pos 3 *ℤ read (read p.first -ℤ read p.second))) (cube p) (2 ^ 21 + 3 * 2 ^ 21)
whole p =
    sum_long _ _ _ _ (2 ^ 21) (3 * 2 ^ 21) (ends p.start p.end p.start_size p.end_size) (middle p.first p.second p.first_size p.second_size) (omega arith)

pub overflow_add-result : goal.overflow_add-result
overflow_add-result c =
    let p = c.args.self.now in
    sum_fits _ _ _ _ (2 ^ 21) (3 * 2 ^ 21) (ends p.start p.end p.start_size p.end_size) (middle p.first p.second p.first_size p.second_size) (omega arith)

pub returns-clause-value : goal.returns-clause-value
returns-clause-value c = let h = whole c.args.self.now in h.same

pub returns-clause-size : goal.returns-clause-size
returns-clause-size c = let h = whole c.args.self.now in rw h.same (h.bound)
