use Rattle.std.proofs.Common.{◌≡◌, ◌++◌, length}
use Rattle.t1_text.specs.Lines.{lines}
use Rattle.t1_text.proofs.lines.copied_lines.Given as goal

-- the lines copied so far, and those of the rest
abbrev pub invariant-loop-rest : goal.invariant-loop-rest
invariant-loop-rest l = l.copies.items ++ lines l.rest ≡ lines l.text

abbrev pub decreases-loop-rest : goal.decreases-loop-rest
decreases-loop-rest l = length l.rest
