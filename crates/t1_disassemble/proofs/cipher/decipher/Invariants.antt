use Rattle.std.proofs.Common.{◌≡◌, ◌≤◌, ◌++◌, length, ◌-◌, take, drop}
use Rattle.t1_disassemble.specs.Decipher.{deciphered}
use Rattle.t1_disassemble.proofs.cipher.decipher.Given as goal

-- the bytes so far are plain, and the rest under the present key completes them
abbrev pub invariant-loop-at : goal.invariant-loop-at
invariant-loop-at l = record {
  all : take l.at l.bytes ++ deciphered l.state (drop l.at l.bytes) ≡ deciphered l.fn.key l.fn.bytes;
  within : l.at ≤ length l.bytes;
}

abbrev pub decreases-loop-at : goal.decreases-loop-at
decreases-loop-at l = length l.initial.bytes - l.at
