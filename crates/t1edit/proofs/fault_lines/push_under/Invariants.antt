use Rattle.std.proofs.Common.{◌≡◌, ◌++◌, map, take}
use Rattle.t1edit.specs.FaultLines.{under}
use Rattle.t1edit.proofs.fault_lines.push_under.Given as goal

-- the bytes so far, after what was there
abbrev pub invariant-loop-byte : goal.invariant-loop-byte
invariant-loop-byte l = l.text.items ≡ l.fn.text.items ++ map under (take l.byte-index l.front)
