use Rattle.t1_extent.proofs.Onward.{two_onto}
use Rattle.t1_extent.proofs.outline_sides.with_both.Goals as goal

pub returns : goal.returns
returns c =
    two_onto c.args.sides.now c.of.result c.of-2.result _ _ c.args.a.now c.args.b.now c.reaching.ensures c.reaching-2.ensures c.of.ensures c.of-2.ensures
