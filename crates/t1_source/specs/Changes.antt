-- What edits change of a source and its pairs.
use Rattle.std.specs.Prelude.{◌≡◌, ◌<◌, ◌≤◌, Bool, true, false, List, [], length, ℕ, None, Option, Some}
use Rattle.std.specs.List.{insert, remove, slice_set, slice_index_or}
use Rattle.t1_parts.specs.declared.item.Item.{Item}
use Rattle.t1_parts.specs.declared.item.Item.TheVariants.{Plain, Subr, Glyph}
use Rattle.t1_parts.specs.Items.{is_entry}
use Rattle.t1_parts.specs.Stretches.{StandsAloneAt}
use Rattle.t1_parts.specs.SourceParts.{SourceParts}
use Rattle.t1_source.specs.declared.editing.Change.{Change}
use Rattle.t1_source.specs.declared.editing.Change.TheVariants.{PutItem, InsertItem, RemoveItem, PutClear, PutPair, InsertPair, RemovePair}
use Rattle.t1_pairs.specs.declared.pairs.Pair.{Pair}
use Rattle.t1_source.specs.Editing.{with_items, with_clear}
use Rattle.t1_pairs.specs.Kerning.{are_pairs}
use Rattle.t1_source.specs.WellFormed.{IsWellFormed}

-- word, edits: the source and the pairs after a change
abbrev pub changed : Change → SourceParts → List Pair → SourceParts × List Pair
changed (PutItem at item) s k = (with_items s (slice_set s.items at item), k)
changed (InsertItem at item) s k = (with_items s (insert s.items at item), k)
changed (RemoveItem at) s k = (with_items s (remove s.items at), k)
changed (PutClear lines) s k = (with_clear s lines.items, k)
changed (PutPair at pair) s k = (s, slice_set k at pair)
changed (InsertPair at pair) s k = (s, insert k at pair)
changed (RemovePair at) s k = (s, remove k at)

-- word, edits: the source after a change, whatever the pairs
abbrev pub made_after : Change → SourceParts → SourceParts
made_after change s = (changed change s []).0

-- word, edits: whether a change leaves all items but Subrs and glyphs as they are
abbrev pub is_entry_changed : Change → SourceParts → Bool
is_entry_changed (PutItem at item) s = is_entry item
is_entry_changed (InsertItem at item) s = is_entry item
is_entry_changed (RemoveItem at) s = is_entry (slice_index_or s.items at (Plain []))
is_entry_changed (PutClear lines) s = true
is_entry_changed (PutPair at pair) s = true
is_entry_changed (InsertPair at pair) s = true
is_entry_changed (RemovePair at) s = true

-- word, edits: where the item stands that a change takes out, or in whose place it puts another
abbrev pub taken_by : Change → Option ℕ
taken_by (PutItem at item) = Some at
taken_by (InsertItem at item) = None
taken_by (RemoveItem at) = Some at
taken_by (PutClear lines) = None
taken_by (PutPair at pair) = None
taken_by (InsertPair at pair) = None
taken_by (RemovePair at) = None

-- word, edits: the item that a change puts in
abbrev pub put_by : Change → Option Item
put_by (PutItem at item) = Some item
put_by (InsertItem at item) = Some item
put_by (RemoveItem at) = None
put_by (PutClear lines) = None
put_by (PutPair at pair) = None
put_by (InsertPair at pair) = None
put_by (RemovePair at) = None

-- word, edits: whether a change is one of the pairs, which leaves the source as it is
abbrev pub is_of_pairs : Change → Bool
is_of_pairs (PutItem at item) = false
is_of_pairs (InsertItem at item) = false
is_of_pairs (RemoveItem at) = false
is_of_pairs (PutClear lines) = false
is_of_pairs (PutPair at pair) = true
is_of_pairs (InsertPair at pair) = true
is_of_pairs (RemovePair at) = true

-- word, edits: both are plain lines, the Subr of one number, or the glyph of one name
abbrev pub IsInPlaceOf : Item → Item → Type 0
IsInPlaceOf (Plain l) (Plain m) = Unit {0}
IsInPlaceOf (Subr m ws c) (Subr n vs d) = m ≡ n
IsInPlaceOf (Glyph g ws c) (Glyph h vs d) = g ≡ h
IsInPlaceOf _ _ = ⊥

-- word, edits: the place is one of the source or of the pairs; an item comes in the place of one of its kind and key; and what
-- is replaced or taken out is no plain line but one that says lenIV
abbrev pub Fits : Change → SourceParts → List Pair → Type 0
Fits (PutItem at item) s k = (at < length s.items) × StandsAloneAt s.items at × IsInPlaceOf (slice_index_or s.items at (Plain [])) item
Fits (InsertItem at item) s k = at ≤ length s.items
Fits (RemoveItem at) s k = (at < length s.items) × StandsAloneAt s.items at
Fits (PutClear lines) s k = Unit {0}
Fits (PutPair at pair) s k = at < length k
Fits (InsertPair at pair) s k = at ≤ length k
Fits (RemovePair at) s k = at < length k

-- word, edits: the change can be made of this source and these pairs, and leaves what is true of all that were read
-- or edited
pub record Suits (change : Change) (s : SourceParts) (k : List Pair) : Type 0 where
  pub fits : Fits change s k
  pub source : IsWellFormed (changed change s k).0
  pub pairs : are_pairs (changed change s k).1 ≡ true

-- word, edits: the change can be made of the source, beside some pairs
pub record IsFor (change : Change) (s : SourceParts) : Type 0 where
  pub pairs : List Pair
  pub serves : Suits change s pairs
  pub well : IsWellFormed s
