use Rattle.std.proofs.Common.{◌≡◌, ◌++◌, length}
use Rattle.t1_text.specs.Lines.{joined}
use Rattle.t1_disassemble.proofs.lines.add_lines.Given as goal

-- the text so far, and the lines of the rest
abbrev pub invariant-loop-line : goal.invariant-loop-line
invariant-loop-line g l = g.T.Lines.text l.text ++ joined l.rest ≡ g.T.Lines.text l.initial.text ++ joined l.lines

abbrev pub decreases-loop-line : goal.decreases-loop-line
decreases-loop-line g l = length l.rest
