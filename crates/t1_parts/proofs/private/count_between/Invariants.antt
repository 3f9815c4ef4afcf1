use Rattle.std.proofs.Common.{◌≡◌, ◌∷◌, ◌+◌, ◌≤◌, length}
use Rattle.t1_text.specs.Tokens.{places_from}
use Rattle.t1_parts.specs.Sections.{count_between}
use Rattle.t1_parts.proofs.private.count_between.Given as goal

-- the search among the last two tokens and those of the rest
abbrev pub invariant-loop-at : goal.invariant-loop-at
invariant-loop-at l =
    (count_between l.key l.word ((l.first_at, l.first) ∷ (l.count_at, l.count) ∷ places_from l.place l.rest)
    ≡ count_between l.key l.word (places_from 0 l.line))
    × (l.count_at + length l.count ≤ length l.line)
    × (l.place + length l.rest ≡ length l.line)

abbrev pub decreases-loop-at : goal.decreases-loop-at
decreases-loop-at l = length l.rest
