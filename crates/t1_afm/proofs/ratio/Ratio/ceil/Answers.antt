use Rattle.std.proofs.Common.{subst, sym}
use Rattle.t1_afm.specs.Bounds.{IsInRange}
use Rattle.t1_afm.proofs.Convex.{negated_in_range}
use Rattle.t1_afm.proofs.ratio.Ratio.ceil.Goals as goal

pub floor-requires : goal.floor-requires
floor-requires c = subst IsInRange (sym c.negated-negated.ensures) (negated_in_range _ c.requires)
