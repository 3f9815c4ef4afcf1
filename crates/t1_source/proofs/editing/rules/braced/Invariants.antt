use Rattle.std.proofs.Common.{◌≡◌, length}
use Rattle.t1_source.specs.Editing.{braced}
use Rattle.t1_source.proofs.editing.rules.braced.Given as goal

-- no line before the rest has a brace
abbrev pub invariant-loop-rest : goal.invariant-loop-rest
invariant-loop-rest l = braced l.rest ≡ braced l.body

abbrev pub decreases-loop-rest : goal.decreases-loop-rest
decreases-loop-rest l = length l.rest
