use Rattle.std.proofs.Common.{◌≡◌, ◌++◌, take, drop}
use Rattle.t1_code.specs.Cipher.{cipher}
use Rattle.t1_disassemble.proofs.cipher.encipher.Given as goal

-- the bytes so far are encrypted, and the rest under the present key completes them
abbrev pub invariant-loop-byte : goal.invariant-loop-byte
invariant-loop-byte l = take l.byte-index l.bytes ++ cipher l.state (drop l.byte-index l.bytes) ≡ cipher l.fn.key l.fn.bytes
