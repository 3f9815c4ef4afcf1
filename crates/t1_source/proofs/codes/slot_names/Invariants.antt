use Rattle.std.proofs.Common.{◌≡◌, ℕ, ◌<◌, length, take, filter_map}
use Rattle.t1_text.specs.Tokens.{tokens}
use Rattle.t1_parts.specs.Encoding.{slot_of_tokens}
use Rattle.t1_source.specs.Codes.{slot_name, name_at}
use Rattle.t1_source.proofs.codes.slot_names.Given as goal

-- what the slots so far say
abbrev pub invariant-loop-line : goal.invariant-loop-line
invariant-loop-line l =
    (length l.names ≡ 256)
    × ((code : ℕ) → code < 256 → name_at l.names code ≡ slot_name (filter_map (λ l. slot_of_tokens (tokens l)) (take l.line-index l.lines)) code)
