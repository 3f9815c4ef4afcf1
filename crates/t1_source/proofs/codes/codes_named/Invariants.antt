use Rattle.std.proofs.Common.{◌≡◌, ℕ, ◌<◌, false, length, get_or, take, filter_map}
use Rattle.t1_text.specs.Tokens.{tokens, is_token}
use Rattle.t1_parts.specs.Encoding.{slot_of_tokens}
use Rattle.t1_source.specs.Codes.{slot_name}
use Rattle.t1_source.proofs.codes.codes_named.Given as goal

-- what the slots so far say
abbrev pub invariant-loop-line : goal.invariant-loop-line
invariant-loop-line l =
    (length l.named ≡ 256)
    × ((code : ℕ) → code < 256
    → get_or l.named code false ≡ is_token l.name (slot_name (filter_map (λ l. slot_of_tokens (tokens l)) (take l.line-index l.lines)) code))
