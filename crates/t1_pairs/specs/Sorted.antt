-- Pairs that are kept in a map.
use Rattle.std.specs.Prelude.{ℕ, ℤ, List, map}
use Rattle.std.specs.declared.vec.Vec.{Vec}
use Rattle.t1_pairs.specs.declared.pairs.Pair.{Pair}

-- word: the pairs of a map's entries
abbrev pub pairs_of_entries : {A B : Type 0} → List ((Vec ℕ A × Vec ℕ B) × ℤ) → List Pair
pairs_of_entries entries = map (λ e. record { left = e.0.0.items; right = e.0.1.items; value = e.1 }) entries
