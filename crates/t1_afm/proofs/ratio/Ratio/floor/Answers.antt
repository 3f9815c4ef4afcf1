use Rattle.std.proofs.Common.{arith}
use Rattle.std.proofs.lemmas.Int.{ints}
use Rattle.t1_afm.specs.Bounds.{fraction_of}
use Rattle.t1_afm.proofs.Convex.{floor_small}
use Rattle.t1_afm.proofs.ratio.Ratio.floor.Goals as goal

pub returns-clause-value : goal.returns-clause-value
returns-clause-value c = omega (arith, ints, c.floor_wide.ensures, floor_small (fraction_of c.args.self.now) c.requires)

pub returns-clause-size : goal.returns-clause-size
returns-clause-size c = omega (arith, ints, c.floor_wide.ensures, floor_small (fraction_of c.args.self.now) c.requires)
