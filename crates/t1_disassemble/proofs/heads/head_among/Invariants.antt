use Rattle.std.proofs.Common.{◌≡◌, ◌+◌, length, take}
use Rattle.t1_text.specs.Tokens.{places_from}
use Rattle.t1_disassemble.specs.Heads.{head_among}
use Rattle.t1_disassemble.proofs.heads.head_among.Given as goal

-- no token before the rest begins a head
abbrev pub invariant-loop-at : goal.invariant-loop-at
invariant-loop-at l = record {
  heads : head_among l.bytes (places_from l.place l.rest) ≡ head_among l.bytes (places_from 0 (take l.end l.bytes));
  within : l.place + length l.rest ≡ length (take l.end l.bytes);
}

abbrev pub decreases-loop-at : goal.decreases-loop-at
decreases-loop-at l = length l.rest
