use Rattle.std.proofs.Common.{◌≡◌, ◌+◌, ◌≤◌, length}
use Rattle.t1_text.specs.LineEnds.{line_ends}
use Rattle.t1_text.proofs.LineLaws.{line_len}
use Rattle.t1_text.proofs.lines.mixed_line_ends.Given as goal

-- the line ends counted so far, and those of the rest
abbrev pub invariant-loop-at : goal.invariant-loop-at
invariant-loop-at l = (l.count + line_ends l.rest ≡ line_ends l.text) × (l.count + length l.rest ≤ length l.text) × (l.at ≡ line_len l.rest)

abbrev pub decreases-loop-at : goal.decreases-loop-at
decreases-loop-at l = length l.rest
