-- A property of the sum of the first elements, and where it is reached.
use Rattle.std.specs.Prelude.{◌≡◌, ◌<◌, ◌+◌, ℕ, Bool, true, false, List, length, take}
use Rattle.t1_tree.specs.Sums.{sum_all, sum_from}

module _ {T S : Type 0} where
  -- word: the sum through the element of a place has the property, and that of those before it doesn't, where there are any
  abbrev pub IsBoundary : (S → Bool) → S → (S → S → S) → (T → S) → List T → ℕ → Type 0
  IsBoundary by sum plus one xs at =
      (0 < at → by (sum_from sum plus one (take at xs)) ≡ false)
      × (at < length xs → by (sum_from sum plus one (take (at + 1) xs)) ≡ true)

  -- word: once the sum of the first elements has the property, it keeps it with each further one
  abbrev pub Stays : (S → Bool) → S → (S → S → S) → (T → S) → List T → Type 0
  Stays by none plus one xs =
      (k : ℕ) → k < length xs → by (sum_all none plus one (take k xs)) ≡ true → by (sum_all none plus one (take (k + 1) xs)) ≡ true

  -- word: the element of a place, where there is one, is the first with which the sum of all through it has the property
  abbrev pub IsFirstReached : (S → Bool) → S → (S → S → S) → (T → S) → List T → ℕ → Type 0
  IsFirstReached by none plus one xs at =
      ((k : ℕ) → k < at → by (sum_all none plus one (take (k + 1) xs)) ≡ false)
      × (at < length xs → by (sum_all none plus one (take (at + 1) xs)) ≡ true)
