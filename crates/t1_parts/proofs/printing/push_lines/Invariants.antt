use Rattle.std.proofs.Common.{◌≡◌, ◌++◌, length}
use Rattle.t1_text.specs.Lines.{joined}
use Rattle.t1_parts.proofs.printing.push_lines.Given as goal

-- the text so far, and the lines of the rest
abbrev pub invariant-loop-line : goal.invariant-loop-line
invariant-loop-line l = l.text.items ++ joined l.rest ≡ l.initial.text.items ++ joined l.lines

abbrev pub decreases-loop-line : goal.decreases-loop-line
decreases-loop-line l = length l.rest
