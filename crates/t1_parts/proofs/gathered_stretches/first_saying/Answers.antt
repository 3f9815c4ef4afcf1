use Rattle.std.proofs.Common.{◌∙◌, sym}
use Rattle.t1_parts.proofs.NumberedLaws.{said_there, said_later}
use Rattle.t1_parts.proofs.gathered_stretches.first_saying.Goals as goal

pub returns-in-Some : goal.returns-in-Some
returns-in-Some c =
    sym (said_there c.loop-at.at c.args.numbers.now c.args.stretches.now c.index-stretches-at.result c.in-Some.item.now c.requires c.loop-at-test.true c.index-stretches-at.is c.in-Some.ensures.0 c.in-Some.ensures.1)
    ∙ c.loop-at.invariant

pub loop-at-preserved : goal.loop-at-preserved
loop-at-preserved c =
    sym (said_later c.loop-at.at c.args.numbers.now c.args.stretches.now c.index-stretches-at.result c.requires c.loop-at-test.true c.index-stretches-at.is c.in_default.ensures)
    ∙ c.loop-at.invariant
