use Rattle.std.proofs.Common.{arith}
use Rattle.std.proofs.lemmas.Int.{ints}
use Rattle.t1_afm.proofs.Convex.{coordinate_floor_small}
use Rattle.t1_afm.proofs.span.rounded_down.Goals as goal

pub overflow_cast-result : goal.overflow_cast-result
overflow_cast-result c = omega (arith, ints, c.floor.ensures, coordinate_floor_small c.args.a.now c.requires)

pub returns-clause-value : goal.returns-clause-value
returns-clause-value c = omega (arith, ints, c.floor.ensures, coordinate_floor_small c.args.a.now c.requires)

pub returns-clause-size : goal.returns-clause-size
returns-clause-size c = omega (arith, ints, c.floor.ensures, coordinate_floor_small c.args.a.now c.requires)
