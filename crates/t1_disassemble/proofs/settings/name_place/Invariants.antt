use Rattle.std.proofs.Common.{◌≡◌, ◌+◌, length}
use Rattle.t1_text.specs.Tokens.{places_from}
use Rattle.t1_disassemble.specs.Settings.{name_place}
use Rattle.t1_disassemble.proofs.settings.name_place.Given as goal

-- no token before the rest is a section's name
abbrev pub invariant-loop-at : goal.invariant-loop-at
invariant-loop-at l = record {
  names : name_place (length l.line) (places_from l.place l.rest) ≡ name_place (length l.line) (places_from 0 l.line);
  within : l.place + length l.rest ≡ length l.line;
}

abbrev pub decreases-loop-at : goal.decreases-loop-at
decreases-loop-at l = length l.rest
