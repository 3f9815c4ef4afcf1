use Rattle.std.proofs.Common.{◌+◌}
use Rattle.t1_text.proofs.WholeLines.{cut_following_end, line_from}
use Rattle.t1_text.proofs.lines.last_line_start.Goals as goal

pub returns-in-Some-clause-line : goal.returns-in-Some-clause-line
returns-in-Some-clause-line c = line_from (c.in-Some.end + 1) c.args.bytes.now c.in-Some.ensures.0.after

pub returns-in-Some-clause-cut : goal.returns-in-Some-clause-cut
returns-in-Some-clause-cut c = cut_following_end c.args.bytes.now c.in-Some.end c.in-Some.ensures.0.high c.in-Some.ensures.1

pub returns-in-None-clause-line : goal.returns-in-None-clause-line
returns-in-None-clause-line c = line_from 0 c.args.bytes.now c.in-None.ensures
