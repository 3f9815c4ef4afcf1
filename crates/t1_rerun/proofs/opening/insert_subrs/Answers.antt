use Rattle.t1_rerun.proofs.Building.{subr-apart, subr-inserted}
use Rattle.t1_rerun.proofs.opening.insert_subrs.Goals as goal

pub insert_subr-requires : goal.insert_subr-requires
insert_subr-requires c =
    subr-apart c.args.records.now c.args.bodies.entries c.loop-number.left.entries c.pop.new.self.entries c.loop-number.records c.in-Some.number c.in-Some.body
    c.in-Some.ensures.entries c.loop-number.invariant

pub loop-number-preserved : goal.loop-number-preserved
loop-number-preserved c =
    let reported = c.in_ok-insert_subr.ensures in
    subr-inserted c.args.records.now c.args.bodies.entries c.loop-number.left.entries c.pop.new.self.entries c.loop-number.records c.in-Some.number c.in-Some.body
    c.in-Some.ensures.entries c.loop-number.invariant c.insert_subr.new.records c.in-Some.ensures.updates.1 reported.bodies reported.users reported.kept
