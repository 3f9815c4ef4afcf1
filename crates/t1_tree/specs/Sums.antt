-- Elements that are summed.
use Rattle.std.specs.Prelude.{◌≡◌, ℕ, List, [], ◌∷◌}
use Rattle.std.specs.List.{slice_index_or}

module _ {T S : Type 0} where
  -- profile: a sum and that of some elements, by what is added, and the sum of one
  abbrev pub sum_from : S → (S → S → S) → (T → S) → List T → S
  sum_from sum plus one [] = sum
  sum_from sum plus one (x ∷ xs) = sum_from (plus sum (one x)) plus one xs

  -- word: the sum of some elements, from the sum of none
  abbrev pub sum_all : S → (S → S → S) → (T → S) → List T → S
  sum_all none plus one xs = sum_from none plus one xs

  -- word: the element of a place has the sum of another
  abbrev pub IsSameSum : (T → S) → List T → ℕ → T → Type 0
  IsSameSum one xs at x = (d : T) → one (slice_index_or xs at d) ≡ one x
