use Rattle.t1_afm.proofs.Held.{held_one}
use Rattle.t1_afm.proofs.span.Span.with.Goals as goal

pub returns-then-holds : goal.returns-then-holds
returns-then-holds c = held_one c.args.self.now c.args.a.now c.requires (c.holds.ensures.0 c.if-holds.true)
