use Rattle.std.proofs.Common.{◌≡◌, ◌++◌, take, drop}
use Rattle.t1_code.specs.Cipher.{cipher, key_after}
use Rattle.t1_code.proofs.charstring.Cipher.encrypt.Given as goal

-- the bytes so far are cipher bytes, and the rest under the present key completes them
abbrev pub invariant-loop-byte : goal.invariant-loop-byte
invariant-loop-byte l = record {
  bytes : take l.byte-index l.bytes ++ cipher l.cipher (drop l.byte-index l.bytes) ≡ cipher l.fn.self l.fn.bytes;
  key : l.cipher ≡ key_after l.fn.self (take l.byte-index l.bytes);
}
