-- Tables and names, as the code has them.
use Rattle.std.specs.Prelude.{List, ℕ, map, Bool}
use Rattle.std.specs.Borrow.{Bor}
use Rattle.std.specs.List.{list_any}
use Rattle.std.specs.Str.{bytes_eq}
use Rattle.t1_code.specs.declared.command.Command.{Command}

-- word, notes: a table of the code, as definitions have it
abbrev pub rows_of : List (Bor (List ℕ) × Command) → List (List ℕ × Command)
rows_of table = map (λ row. (row.0.now, row.1)) table

-- word, notes: whether this name is among some
abbrev pub is_among_names : List (Bor (List ℕ)) → List ℕ → Bool
is_among_names names glyph = list_any (λ name. bytes_eq glyph name.now) names
