use Rattle.std.proofs.Common.{arith, ◌^◌, ◌+◌, ◌*◌}
use Rattle.t1_afm.specs.Differences.{linear, square, cube}
use Rattle.t1_afm.proofs.Longs.{IsLong, long, sum_long, sum_fits, multiple_long, multiple_fits, read_long}
use Rattle.t1_afm.proofs.whole.Sample.start.Goals as goal

linear_is : (c : goal.After-result-1) → IsLong c.linear-linear.result (linear c.args.cubic.now) (2 ^ 35)
linear_is c = read_long _ _ (2 ^ 35) c.linear-linear.ensures.value c.linear-linear.ensures.size (omega arith)

square_is : (c : goal.After-result-1) → IsLong c.square-square.result (square c.args.cubic.now) (2 ^ 30)
square_is c = read_long _ _ (2 ^ 30) c.square-square.ensures.value c.square-square.ensures.size (omega arith)

cube_is : (c : goal.After-result-1) → IsLong c.cube-cube.result (cube c.args.cubic.now) (2 ^ 23)
cube_is c = read_long _ _ (2 ^ 23) c.cube-cube.ensures.value c.cube-cube.ensures.size (omega arith)

pub overflow_add-result-2 : goal.overflow_add-result-2
overflow_add-result-2 c =
    sum_fits _ _ _ _ (2 ^ 23 + 2 ^ 30) (2 ^ 35) (sum_long _ _ _ _ (2 ^ 23) (2 ^ 30) (cube_is c) (square_is c) (omega arith)) (linear_is c) (omega arith)

pub overflow_mul-result-2 : goal.overflow_mul-result-2
overflow_mul-result-2 c = multiple_fits 6 _ _ (2 ^ 23) (cube_is c) (omega arith)

pub overflow_add-result-3 : goal.overflow_add-result-3
overflow_add-result-3 c =
    sum_fits _ _ _ _ (6 * 2 ^ 23) (2 * 2 ^ 30) (multiple_long 6 _ _ (2 ^ 23) (cube_is c) (omega arith)) (multiple_long 2 _ _ (2 ^ 30) (square_is c) (omega arith)) (omega arith)

pub overflow_mul-result-4 : goal.overflow_mul-result-4
overflow_mul-result-4 c = multiple_fits 6 _ _ (2 ^ 23) (cube_is c) (omega arith)

pub returns-clause-value : goal.returns-clause-value
returns-clause-value c =
    let h = multiple_long 262144 _ _ (2 ^ 20) (long c.args.cubic.now.start (2 ^ 20) c.args.cubic.now.start_size (omega arith)) (omega arith) in
    h.same

pub returns-clause-first : goal.returns-clause-first
returns-clause-first c =
    let h = sum_long _ _ _ _ (2 ^ 23 + 2 ^ 30) (2 ^ 35) (sum_long _ _ _ _ (2 ^ 23) (2 ^ 30) (cube_is c) (square_is c) (omega arith)) (linear_is c) (omega arith) in
    h.same

pub returns-clause-second : goal.returns-clause-second
returns-clause-second c =
    let h = sum_long _ _ _ _ (6 * 2 ^ 23) (2 * 2 ^ 30) (multiple_long 6 _ _ (2 ^ 23) (cube_is c) (omega arith)) (multiple_long 2 _ _ (2 ^ 30) (square_is c) (omega arith)) (omega arith) in
    h.same

pub returns-clause-third : goal.returns-clause-third
returns-clause-third c =
    let h = multiple_long 6 _ _ (2 ^ 23) (cube_is c) (omega arith) in
    h.same
