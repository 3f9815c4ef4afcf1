use Rattle.std.proofs.Common.{◌≡◌, length, None}
use Rattle.std.specs.Option.{option_map}
use Rattle.std.specs.List.{last_or}
use Rattle.t1_text.specs.Tokens.{tokens}
use Rattle.t1_text.proofs.tokens.last_is.Given as goal

-- the last of the tokens so far and of those of the rest
abbrev pub invariant-loop-token : goal.invariant-loop-token
invariant-loop-token l = last_or (option_map (λ t. t.now) l.last) (tokens l.rest) ≡ last_or None (tokens l.line)

abbrev pub decreases-loop-token : goal.decreases-loop-token
decreases-loop-token l = length l.rest
