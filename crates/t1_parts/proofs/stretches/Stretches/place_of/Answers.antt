use Rattle.std.proofs.Common.{subst}
use Rattle.t1_parts.specs.Stretches.{AreSingle}
use Rattle.t1_parts.proofs.SingleLaws.{single_place}
use Rattle.t1_parts.proofs.stretches.Stretches.place_of.Goals as goal

pub returns-then-self : goal.returns-then-self
returns-then-self c = single_place c.args.at c.args.self.now (subst AreSingle c.self.view_is (c.self.invariant.0 c.if-self.true)) c.requires
