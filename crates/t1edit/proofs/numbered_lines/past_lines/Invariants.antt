use Rattle.std.proofs.Common.{◌≡◌, ◌-◌, ◌≤◌, drop}
use Rattle.t1_text.specs.Lines.{lines}
use Rattle.t1edit.proofs.numbered_lines.past_lines.Given as goal

-- the lines of the rest are those after the lines that were passed
abbrev pub invariant-loop-passed : goal.invariant-loop-passed
invariant-loop-passed l = (l.passed ≤ l.count) × (lines l.rest ≡ drop l.passed (lines l.text))

abbrev pub decreases-loop-passed : goal.decreases-loop-passed
decreases-loop-passed l = l.count - l.passed
