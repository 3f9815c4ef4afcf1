use Rattle.std.proofs.Common.{◌≡◌, ◌++◌, ◌+◌, ◌≤◌, length}
use Rattle.t1_text.specs.Lines.{lines}
use Rattle.t1_notes.specs.NumberedLines.{numbered}
use Rattle.t1_notes.proofs.line.numbered_lines.Given as goal

-- the lines so far, and those of the rest
abbrev pub invariant-loop-rest : goal.invariant-loop-rest
invariant-loop-rest l =
    (l.found.items ++ numbered l.number (lines l.rest) ≡ numbered 1 (lines l.text)) × (l.number + length l.rest ≤ 1 + length l.text)

abbrev pub decreases-loop-rest : goal.decreases-loop-rest
decreases-loop-rest l = length l.rest
