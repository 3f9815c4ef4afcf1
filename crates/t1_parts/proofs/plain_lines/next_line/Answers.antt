use Rattle.t1_parts.proofs.RunCutLaws.{cut_line_feed}
use Rattle.t1_parts.proofs.plain_lines.next_line.Goals as goal

pub returns-then-first-eq10-clause-cut : goal.returns-then-first-eq10-clause-cut
returns-then-first-eq10-clause-cut c = cut_line_feed c.args.bytes.now c.in-Some.first.now c.in-Some.after.now c.in-Some.ensures.cases.0 c.if-first-eq10.true
