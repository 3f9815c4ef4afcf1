use Rattle.std.proofs.Common.{◌≡◌, length}
use Rattle.t1_calls.specs.Framing.{is_body}
use Rattle.t1_calls.proofs.framing.is_body.Given as goal

-- no line before the rest ends a body
abbrev pub invariant-loop-rest : goal.invariant-loop-rest
invariant-loop-rest l = is_body l.text ≡ is_body l.rest

abbrev pub decreases-loop-rest : goal.decreases-loop-rest
decreases-loop-rest l = length l.rest
