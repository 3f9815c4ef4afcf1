use Rattle.std.proofs.Common.{arith}
use Rattle.std.proofs.lemmas.Int.{ints}
use Rattle.t1_afm.proofs.Ends.{between}
use Rattle.t1_afm.proofs.cubic.Cubic.fraction_span.Goals as goal

pub returns-then-inner-ends : goal.returns-then-inner-ends
returns-then-inner-ends c =
    between c.span-ends.result c.span-inner.result _ _ _ _ c.args.self.now.start_within c.args.self.now.first_within c.args.self.now.second_within c.args.self.now.end_within c.span-ends.ensures c.span-inner.ensures
    (record { below = omega (arith, ints, c.if-ends-inner.true) })
    (record { below = omega (arith, ints, c.if-inner-ends.true) })
