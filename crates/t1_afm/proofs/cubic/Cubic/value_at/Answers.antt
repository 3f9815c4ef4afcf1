use Rattle.std.proofs.Common.{subst, sym}
use Rattle.t1_afm.specs.Bounds.{IsInRange}
use Rattle.t1_afm.proofs.Convex.{cubic_in_range}
use Rattle.t1_afm.proofs.cubic.Cubic.value_at.Goals as goal

pub returns-clause-range : goal.returns-clause-range
returns-clause-range c =
    subst IsInRange (sym c.terms_at.ensures) (cubic_in_range _ _ _ _ _ c.requires c.args.self.now.start_within c.args.self.now.first_within c.args.self.now.second_within c.args.self.now.end_within)
