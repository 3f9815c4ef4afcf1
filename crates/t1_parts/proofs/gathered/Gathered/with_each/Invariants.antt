use Rattle.std.proofs.Common.{◌≡◌, ◌+◌, ◌++◌, length}
use Rattle.t1_text.specs.Lines.{lines}
use Rattle.t1_parts.specs.NumberedStretches.{numbered_lines}
use Rattle.t1_parts.proofs.gathered.Gathered.with_each.Given as goal

-- the items so far and the lines that are left
abbrev pub invariant-loop-rest : goal.invariant-loop-rest
invariant-loop-rest l =
    (l.items ++ numbered_lines l.next (lines l.rest) ≡ l.fn.self ++ numbered_lines l.number (lines l.bytes))
    × (l.next + length (lines l.rest) ≡ l.number + length (lines l.bytes))

abbrev pub decreases-loop-rest : goal.decreases-loop-rest
decreases-loop-rest l = length l.rest
