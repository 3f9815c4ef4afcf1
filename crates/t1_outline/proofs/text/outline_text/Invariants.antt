use Rattle.std.proofs.Common.{◌≡◌, ◌++◌, drop}
use Rattle.t1_text.specs.Lines.{joined}
use Rattle.t1_outline.specs.Text.{lines_after, outline_text}
use Rattle.t1_outline.proofs.text.outline_text.Given as goal

-- the lines so far, and those of the segments that are left
abbrev pub invariant-loop-segment : goal.invariant-loop-segment
invariant-loop-segment l = l.text.items ++ joined (lines_after l.ended (drop l.segment-index l.segments)) ≡ outline_text l.segments
