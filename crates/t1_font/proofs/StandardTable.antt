-- The names of the table of StandardEncoding.
use Rattle.std.proofs.Common.{◌≡◌, ◌+◌, ◌<◌, ◌||◌, ℕ, suc, Bool, true, false, List, ◌∷◌, length, map, get_or, drop, drop-cons, add-one, refl, ap}
use Rattle.std.specs.Borrow.{Bor}
use Rattle.std.specs.List.{list_any}
use Rattle.std.specs.Str.{bytes_eq}
use Rattle.t1_code.specs.Encoding.{is_standard_name, standard_names}
use Rattle.t1_code.specs.EncodingRows.{has_name}
use Rattle.t1_font.proofs.Lookups.{bytes-turned}

-- a row of the table has the name
abbrev pub in_table : List (ℕ × Bor (List ℕ)) → List ℕ → Bool
in_table table g = has_name table g

either : (b : Bool) (g : List ℕ) (row : ℕ × Bor (List ℕ)) (rest : List (ℕ × Bor (List ℕ)))
    → ((b || bytes_eq g row.1.now) || in_table rest g) ≡ (b || in_table (row ∷ rest) g)
either true g row rest = refl
either false g row rest = ap (λ t. t || in_table rest g) (bytes-turned g row.1.now)

-- a row's name among those before it and those of the rows after it
pub row-taken : (table : List (ℕ × Bor (List ℕ))) (i : ℕ) (none : ℕ × Bor (List ℕ)) (b : Bool) (g : List ℕ) → i < length table
    → ((b || bytes_eq g (get_or table i none).1.now) || in_table (drop (i + 1) table) g) ≡ (b || in_table (drop i table) g)
row-taken table i none b g inside = rw (add-one, drop-cons table i none) (either b g (get_or table i none) (drop (suc i) table))

pub table-standard : (table : List (ℕ × Bor (List ℕ))) (g : List ℕ) → map (λ row. (row.0, row.1.now)) table ≡ standard_names → in_table table g ≡ is_standard_name g
unfolding is_standard_name
table-standard table g is = ap (list_any (λ (row : ℕ × List ℕ). bytes_eq row.1 g)) is
