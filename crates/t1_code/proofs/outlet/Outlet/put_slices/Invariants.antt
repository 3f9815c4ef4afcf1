use Rattle.std.proofs.Common.{drop}
use Rattle.t1_code.specs.Parts.{slices_bytes}
use Rattle.t1_code.proofs.Writing.{passing, Written}
use Rattle.t1_code.proofs.outlet.Outlet.put_slices.Given as goal

-- the slices so far were passed on, and the others are left
abbrev pub invariant-loop-slice : goal.invariant-loop-slice
invariant-loop-slice g l =
    Written (passing g.W.Write.contents) l.fn.self l.self (slices_bytes l.slices) (slices_bytes (drop l.slice-index l.slices))
