-- How many items stand before each of some stretches.
use Rattle.std.specs.Prelude.{◌≡◌, ◌≤◌, ◌<◌, ◌+◌, ◌-◌, ℕ, zero, suc, Bool, true, false, List, [], ◌∷◌, length, take}
use Rattle.std.specs.List.{slice_index_or}
use Rattle.t1_parts.specs.declared.stretch.Stretch.{Stretch}
use Rattle.t1_parts.specs.declared.entry_key.EntryKey.{EntryKey}
use Rattle.t1_parts.specs.EntryKeys.{IsEntryAt}
use Rattle.t1_parts.specs.Items.{stretch_items, items_in}
use Rattle.t1_parts.specs.Stretches.{AreSingle}

-- word: how many items stand before each of some stretches, where so many stand before the first
abbrev pub starts_from : ℕ → List Stretch → List ℕ
starts_from n [] = []
starts_from n (s ∷ ss) = n ∷ starts_from (n + length (stretch_items s)) ss

-- word: the starts that are kept of some stretches; where each stretch is known to be one item, they say nothing
abbrev pub AreStarts : Bool → List ℕ → List Stretch → Type 0
AreStarts single starts ss = (single ≡ true → AreSingle ss) × (single ≡ false → starts ≡ starts_from 0 ss)

-- word: the last of some numbers that is at most a place stands at an index, where the numbers grow
abbrev pub IsLastStart : ℕ → List ℕ → ℕ → Type 0
IsLastStart at starts i =
    (i < length starts)
    × ((d : ℕ) → slice_index_or starts i d ≤ at)
    × ((d : ℕ) → i + 1 < length starts → at < slice_index_or starts (i + 1) d)

-- word: numbers of which those from an index on are raised by one
abbrev pub raised_from : ℕ → List ℕ → List ℕ
raised_from i [] = []
raised_from zero (n ∷ ns) = (n + 1) ∷ raised_from zero ns
raised_from (suc i) (n ∷ ns) = n ∷ raised_from i ns

-- word: numbers of which those from an index on are lowered by one
abbrev pub lowered_from : ℕ → List ℕ → List ℕ
lowered_from i [] = []
lowered_from zero (n ∷ ns) = (n - 1) ∷ lowered_from zero ns
lowered_from (suc i) (n ∷ ns) = n ∷ lowered_from i ns

-- word: the stretch of an index is the entry of a key, which stands where that stretch starts
abbrev pub IsEntryOnIts : EntryKey → List Stretch → ℕ → Type 0
IsEntryOnIts key ss i = (i < length ss) × ((n : ℕ) → n ≡ length (items_in (take i ss)) → IsEntryAt key (items_in ss) n)
