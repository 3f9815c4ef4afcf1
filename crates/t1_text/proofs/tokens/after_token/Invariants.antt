use Rattle.std.proofs.Common.{◌≡◌, length}
use Rattle.t1_text.specs.Tokens.{tokens, after_token}
use Rattle.t1_text.proofs.tokens.after_token.Given as goal

-- the first such token stands in the rest
abbrev pub invariant-loop-token : goal.invariant-loop-token
invariant-loop-token l = after_token l.key (tokens l.rest) ≡ after_token l.key (tokens l.line)

abbrev pub decreases-loop-token : goal.decreases-loop-token
decreases-loop-token l = length l.rest
