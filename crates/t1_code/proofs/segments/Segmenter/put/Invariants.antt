use Rattle.std.proofs.Common.{length}
use Rattle.t1_code.proofs.Carrying.{Carried}
use Rattle.t1_code.proofs.Segmenting.{cutting}
use Rattle.t1_code.proofs.segments.Segmenter.put.Given as goal

-- the rest is left for the present segment and those after it
abbrev pub invariant-loop-rest : goal.invariant-loop-rest
invariant-loop-rest g l =
    Carried g.W.Write.contents cutting l.fn.outlet l.outlet l.fn.self l.self l.bytes l.rest

abbrev pub decreases-loop-rest : goal.decreases-loop-rest
decreases-loop-rest g l = length l.rest
