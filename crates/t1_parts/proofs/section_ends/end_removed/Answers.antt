use Rattle.std.proofs.Common.{arith}
use Rattle.t1_parts.proofs.SectionEndLaws.{removed_before, removed_among}
use Rattle.t1_parts.proofs.section_ends.end_removed.Goals as goal

pub returns-then-at-end : goal.returns-then-at-end
returns-then-at-end c items within h = removed_before c.args.end c.args.at items within (omega (arith, c.if-at-end.true)) h

pub returns-else-at-end : goal.returns-else-at-end
returns-else-at-end c items within h = removed_among c.args.end c.args.at items within (omega (arith, c.if-at-end.false)) h
