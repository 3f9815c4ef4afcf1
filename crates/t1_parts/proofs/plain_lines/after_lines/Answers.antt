use Rattle.t1_parts.proofs.RunCutLaws.{cut_line_on}
use Rattle.t1_parts.proofs.plain_lines.after_lines.Goals as goal

pub loop-turn-preserved : goal.loop-turn-preserved
loop-turn-preserved c =
    let cut = c.next_line.ensures in
    cut_line_on c.loop-turn._turn c.args.bytes.now c.loop-turn.rest.now c.next_line.result.0.now c.next_line.result.1.now c.loop-turn.invariant cut.lines cut.shorter cut.cut
