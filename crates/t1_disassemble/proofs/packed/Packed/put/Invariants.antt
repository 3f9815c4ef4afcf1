use Rattle.std.proofs.Common.{length}
use Rattle.t1_code.proofs.Writing.{passing, Written}
use Rattle.t1_disassemble.specs.Packed.{packed_text}
use Rattle.t1_disassemble.proofs.packed.Packed.put.Given as goal

-- the lines and charstrings that are left
abbrev pub invariant-loop-cut : goal.invariant-loop-cut
invariant-loop-cut g l =
    Written (passing g.W.Write.contents) l.fn.outlet l.outlet l.fn.self (packed_text l.rest l.lines l.codes)

abbrev pub decreases-loop-cut : goal.decreases-loop-cut
decreases-loop-cut g l = length l.rest
