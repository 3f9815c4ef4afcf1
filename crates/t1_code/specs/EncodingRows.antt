-- The table of standard names, as the code has it.
use Rattle.std.specs.Prelude.{ℕ, map, List, nat_eq, Bool, Option}
use Rattle.std.specs.List.{list_any}
use Rattle.std.specs.Map.{lookup}
use Rattle.std.specs.Str.{bytes_eq}
use Rattle.std.specs.Borrow.{Bor}

-- word: the same in a table of the code
abbrev pub named_in : List (ℕ × Bor (List ℕ)) → ℕ → Option (List ℕ)
named_in table code = lookup (nat_eq code) (map (λ row. (row.0, row.1.now)) table)

-- word: the same in a table of the code
abbrev pub has_name : List (ℕ × Bor (List ℕ)) → List ℕ → Bool
has_name table name = list_any (λ (row : ℕ × List ℕ). bytes_eq row.1 name) (map (λ row. (row.0, row.1.now)) table)
