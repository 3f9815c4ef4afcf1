use Rattle.std.proofs.Common.{◌≡◌, ◌++◌, length}
use Rattle.t1_disassemble.specs.Digits.{digit_bytes}
use Rattle.t1_disassemble.proofs.digits.push_bytes.Given as goal

-- the bytes so far, and those of the digits that are left
abbrev pub invariant-loop-byte : goal.invariant-loop-byte
invariant-loop-byte l = l.bytes.items ++ digit_bytes l.rest ≡ l.fn.bytes.items ++ digit_bytes l.text

abbrev pub decreases-loop-byte : goal.decreases-loop-byte
decreases-loop-byte l = length l.rest
