-- Stretches of items, and the numbers of their first lines.
use Rattle.std.specs.Prelude.{ℕ, ◌+◌, List, [], ◌∷◌, ◌++◌}
use Rattle.t1_parts.specs.declared.item.Item.TheVariants.{Plain}
use Rattle.t1_parts.specs.declared.stretch.Stretch.{Stretch}
use Rattle.t1_parts.specs.declared.stretch.Stretch.TheVariants.{One, Lines}
use Rattle.t1_parts.specs.Entries.{NumberedItem}

-- word: lines as plain items with their numbers, of which the first is n
abbrev pub numbered_lines : ℕ → List (List ℕ) → List NumberedItem
numbered_lines n [] = []
numbered_lines n (l ∷ ls) = (n, Plain l) ∷ numbered_lines (n + 1) ls

-- word: the items of a stretch whose first line has number n
abbrev pub numbered_items : ℕ → Stretch → List NumberedItem
numbered_items n (One item) = (n, item) ∷ []
numbered_items n (Lines ls) = numbered_lines n ls

-- word: the items of some stretches, of which the first lines have these numbers
abbrev pub numbered_in : List ℕ → List Stretch → List NumberedItem
numbered_in [] ss = []
numbered_in (n ∷ ns) [] = []
numbered_in (n ∷ ns) (s ∷ ss) = numbered_items n s ++ numbered_in ns ss
