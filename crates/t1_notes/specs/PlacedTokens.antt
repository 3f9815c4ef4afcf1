-- The tokens of lines, where they stand.
use Rattle.std.specs.Prelude.{ℕ, ◌+◌, List, map, flat_map}
use Rattle.t1_text.specs.Tokens.{places_from}
use Rattle.t1_notes.specs.declared.line.Line.{Line}

-- profile, notes: a token with the number of its line and its column
pub record PlacedToken : Type 0 where
  pub line : ℕ
  pub column : ℕ
  pub token : List ℕ

-- profile, notes: a token at a place of the line of this number
abbrev pub placed_token : ℕ → ℕ × List ℕ → PlacedToken
placed_token number found = record { line = number; column = found.0 + 1; token = found.1 }

-- profile, notes: the tokens of some lines
abbrev pub placed_tokens : List Line → List PlacedToken
placed_tokens ls = flat_map (λ l. map (placed_token l.number) (places_from 0 l.text)) ls
