use Rattle.std.proofs.Common.{◌≡◌, length}
use Rattle.t1_parts.specs.Parts.{holds}
use Rattle.t1_parts.proofs.parts.holds.Given as goal

-- the text is held by the rest, or not at all
abbrev pub invariant-loop-rest : goal.invariant-loop-rest
invariant-loop-rest l = holds l.text l.rest ≡ holds l.text l.line

abbrev pub decreases-loop-rest : goal.decreases-loop-rest
decreases-loop-rest l = length l.rest
