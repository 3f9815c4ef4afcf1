use Rattle.std.proofs.Common.{◌≡◌, ◌+◌, length}
use Rattle.t1_text.specs.Tokens.{places_from}
use Rattle.t1_source.specs.Leads.{place_after}
use Rattle.t1_source.proofs.editing.leads.place_after.Given as goal

-- the text isn't among the tokens before the rest
abbrev pub invariant-loop-at : goal.invariant-loop-at
invariant-loop-at l =
    (place_after l.key (places_from l.place l.rest) ≡ place_after l.key (places_from 0 l.line))
    × (l.place + length l.rest ≡ length l.line)

abbrev pub decreases-loop-at : goal.decreases-loop-at
decreases-loop-at l = length l.rest
