use Rattle.std.proofs.Common.{drop}
use Rattle.t1_code.proofs.Carrying.{Carried}
use Rattle.t1_code.proofs.Digits.{lining}
use Rattle.t1_code.proofs.hexadecimal.HexLines.put.Given as goal

-- the bytes that are left go on in the present line
abbrev pub invariant-loop-byte : goal.invariant-loop-byte
invariant-loop-byte g l =
    Carried g.W.Write.contents lining l.fn.outlet l.outlet l.fn.self.room l.self.room l.bytes (drop l.byte-index l.bytes)
