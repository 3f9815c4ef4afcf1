use Rattle.std.proofs.Common.{length}
use Rattle.t1_code.proofs.Writing.{passing, Written}
use Rattle.t1_code.proofs.outlet.Outlet.put_in_turns.Given as goal

-- the rest is left
abbrev pub invariant-loop-rest : goal.invariant-loop-rest
invariant-loop-rest g l = Written (passing g.W.Write.contents) l.fn.self l.self l.bytes l.rest

abbrev pub decreases-loop-rest : goal.decreases-loop-rest
decreases-loop-rest g l = length l.rest
