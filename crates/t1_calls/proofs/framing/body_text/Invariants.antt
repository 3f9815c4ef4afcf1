use Rattle.std.proofs.Common.{◌≡◌, ◌++◌, length}
use Rattle.t1_text.specs.Lines.{lines, joined}
use Rattle.t1_calls.proofs.framing.body_text.Given as goal

-- the lines so far, and those of the rest
abbrev pub invariant-loop-rest : goal.invariant-loop-rest
invariant-loop-rest l = l.text.items ++ joined (lines l.rest) ≡ joined (lines l.body)

abbrev pub decreases-loop-rest : goal.decreases-loop-rest
decreases-loop-rest l = length l.rest
