use Rattle.std.proofs.Common.{◌≡◌, ◌+◌, length}
use Rattle.t1_text.specs.Tokens.{places_from}
use Rattle.t1_disassemble.specs.Opening.{first_opening}
use Rattle.t1_disassemble.proofs.opening.first_opening.Given as goal

-- no token before the rest opens an entry
abbrev pub invariant-loop-at : goal.invariant-loop-at
invariant-loop-at l = record {
  opens : first_opening l.operator (places_from l.place l.rest) ≡ first_opening l.operator (places_from 0 l.line);
  within : l.place + length l.rest ≡ length l.line;
}

abbrev pub decreases-loop-at : goal.decreases-loop-at
decreases-loop-at l = length l.rest
