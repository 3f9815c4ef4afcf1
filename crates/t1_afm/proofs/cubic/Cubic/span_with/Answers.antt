use Rattle.t1_afm.proofs.Held.{held_cubic}
use Rattle.t1_afm.proofs.cubic.Cubic.span_with.Goals as goal

pub returns-then-holds-4 : goal.returns-then-holds-4
returns-then-holds-4 c =
    let p = c.args.self.now in
    held_cubic c.args.other.now p.start p.first p.second p.end p.start_within p.first_within p.second_within p.end_within
    (c.holds.ensures.0 c.if-holds.true) (c.holds-then-holds.ensures.0 c.if-holds-2.true)
    (c.holds-then-holds-2.ensures.0 c.if-holds-3.true) (c.holds-then-holds-3.ensures.0 c.if-holds-4.true)
