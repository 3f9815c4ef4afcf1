use Rattle.std.proofs.Common.{sym, subst, ◌<◌}
use Rattle.t1_parts.proofs.RunCutLaws.{some_lines}
use Rattle.t1_parts.proofs.plain_lines.PlainLines.len.Goals as goal

pub returns-clause-some : goal.returns-clause-some
returns-clause-some c = subst (λ n. 0 < n) (sym c.self.invariant.1) (some_lines c.self.inside.bytes.now c.self.invariant.0)
