-- Names of glyphs, one after another.
use Rattle.std.specs.Prelude.{ℕ, List, [], ◌∷◌, ◌++◌, flat_map}

-- profile, faults: a name after what stands between two
abbrev pub name_after : List ℕ → List ℕ → List ℕ
name_after between name = between ++ name

-- profile, faults: names with this between each two
abbrev pub listed : List ℕ → List (List ℕ) → List ℕ
listed between [] = []
listed between (name ∷ names) = name ++ flat_map (name_after between) names
