use Rattle.std.proofs.Common.{length}
use Rattle.t1_code.proofs.Carrying.{Carried}
use Rattle.t1_code.proofs.Enciphering.{enciphering}
use Rattle.t1_code.proofs.eexec.EexecWriter.put.Given as goal

-- the rest goes out under the present key
abbrev pub invariant-loop-rest : goal.invariant-loop-rest
invariant-loop-rest g l =
    Carried g.W.Write.contents enciphering l.fn.outlet l.outlet l.fn.self (record { key = l.self-inside.cipher; form = l.self-inside.form }) l.bytes l.rest

abbrev pub decreases-loop-rest : goal.decreases-loop-rest
decreases-loop-rest g l = length l.rest
