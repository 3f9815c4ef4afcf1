use Rattle.std.proofs.Common.{arith}
use Rattle.t1edit.proofs.NumberedLaws.{after_one}
use Rattle.t1edit.proofs.numbered_lines.past_lines.Goals as goal

pub loop-passed-preserved : goal.loop-passed-preserved
loop-passed-preserved c =
    (omega arith, after_one c.loop-passed.passed c.loop-passed.rest.now c.args.text.now c.first_line.result.0.now c.first_line.result.1.now c.loop-passed.invariant.1 c.first_line.ensures.lines)
