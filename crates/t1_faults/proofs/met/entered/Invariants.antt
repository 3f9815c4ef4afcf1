use Rattle.std.proofs.Common.{◌≡◌, map, take}
use Rattle.t1_faults.proofs.met.entered.Given as goal

-- the Subrs so far
abbrev pub invariant-loop-call : goal.invariant-loop-call
invariant-loop-call l = l.subrs.items ≡ map (λ call. call.subr) (take l.call-index l.calls)
