use Rattle.std.proofs.Common.{drop}
use Rattle.t1_code.specs.Parts.{slices_bytes}
use Rattle.t1_code.proofs.Carrying.{Carried}
use Rattle.t1_code.proofs.Enciphering.{enciphering}
use Rattle.t1_code.proofs.eexec.EexecWriter.put_each.Given as goal

-- the slices that are left go out under the present key
abbrev pub invariant-loop-slice : goal.invariant-loop-slice
invariant-loop-slice g l =
    Carried g.W.Write.contents enciphering l.fn.outlet l.outlet l.fn.self l.self (slices_bytes l.slices) (slices_bytes (drop l.slice-index l.slices))
