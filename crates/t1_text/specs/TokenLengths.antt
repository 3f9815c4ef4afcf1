-- The bytes of tokens, as the code cuts them.
use Rattle.std.specs.Prelude.{ℕ, ◌+◌, if◌then◌else◌, List, [], ◌∷◌}
use Rattle.std.specs.List.{prefix_len}
use Rattle.t1_text.specs.Tokens.{is_bracket, is_regular}

-- word, tokens: how many bytes the token takes that begins the list
abbrev pub token_len : List ℕ → ℕ
token_len [] = 0
token_len (c ∷ rest) = if is_bracket c then 1 else 1 + prefix_len is_regular rest
