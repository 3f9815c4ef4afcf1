use Rattle.t1_parts.specs.Stretches.{IsCutAfter}
use Rattle.t1_parts.proofs.plain_lines.after_lines.Given as goal

-- the rest is cut off after as many lines as turns
abbrev pub invariant-loop-turn : goal.invariant-loop-turn
invariant-loop-turn l = IsCutAfter l._turn l.bytes l.rest
