-- Stretches of items, as the code looks into them.
use Rattle.std.specs.Prelude.{◌≡◌, ◌≤◌, ◌<◌, ◌+◌, ◌-◌, ℕ, Bool, true, Option, Some, None, List, [], ◌∷◌, ◌++◌, length, take, drop, filter, flat_map}
use Rattle.std.specs.Borrow.{Bor}
use Rattle.std.specs.List.{list_any, slice_index_or}
use Rattle.std.specs.declared.alloc.Global.{Global}
use Rattle.std.specs.declared.vec.Vec.{Vec}
use Rattle.t1_text.specs.Lines.{lines}
use Rattle.t1_parts.specs.declared.item.Item.{Item}
use Rattle.t1_parts.specs.declared.item.Item.TheVariants.{Plain, Section, Subr, Glyph}
use Rattle.t1_parts.specs.declared.stretch.Stretch.{Stretch}
use Rattle.t1_parts.specs.declared.stretch.Stretch.TheVariants.{One, Lines}
use Rattle.t1_parts.specs.Counts.{raised_item}
use Rattle.t1_parts.specs.LenIV.{says_lead}
use Rattle.t1_parts.specs.Items.{stretch_items, items_in}

-- word: the stretches of some lists, one list after another
abbrev pub stretches_in : List (Vec Stretch Global) → List Stretch
stretches_in lists = flat_map (λ list. list.items) lists

-- word: the one item that stands there, or none
abbrev pub one_item : Option (Bor Item) → List Item
one_item None = []
one_item (Some item) = item.now ∷ []

-- word: whether a line says lenIV
unfoldable pub line_says : List ℕ → Bool
line_says l = says_lead (Plain l)

-- word: whether one of the lines says lenIV
abbrev pub lines_say : List (List ℕ) → Bool
lines_say ls = list_any line_says ls

-- word: whether an item never stands among lines: all but the plain lines that say nothing of lenIV
unfoldable pub stands_alone : Item → Bool
stands_alone (Plain l) = line_says l
stands_alone (Section before n after) = true
stands_alone (Subr n ws closing) = true
stands_alone (Glyph g ws closing) = true

-- word: the next of some items that never stands among lines, and the items after it; or there is none
abbrev pub IsNextAlone : List Item → Option (Bor Item) → List Item → Type 0
IsNextAlone items None after = (filter stands_alone items ≡ []) × (filter stands_alone after ≡ [])
IsNextAlone items (Some item) after = filter stands_alone items ≡ item.now ∷ filter stands_alone after

-- word: the item at a place is one that never stands among lines
abbrev pub StandsAloneAt : List Item → ℕ → Type 0
StandsAloneAt items at = (d : Item) → stands_alone (slice_index_or items at d) ≡ true

-- word: bytes cut off after so many of their lines: the rest has the others, and so has what is cut off of it
abbrev pub IsCutAfter : ℕ → List ℕ → List ℕ → Type 0
IsCutAfter n bytes rest =
    (length rest ≤ length bytes)
    × (n + length (lines rest) ≡ length (lines bytes))
    × (lines rest ≡ drop n (lines bytes))
    × ((j : ℕ) → lines (take (length bytes - length rest + j) bytes) ≡ take n (lines bytes) ++ lines (take j rest))

-- word: the item of a place stands so many items into the stretch of an index; past the last item it is the end
abbrev pub IsPlaceOfItem : ℕ → List Stretch → ℕ × ℕ → Type 0
IsPlaceOfItem at stretches place =
    (place.0 ≤ length stretches)
    × (length (items_in (take place.0 stretches)) + place.1 ≡ at)
    × ((d : Stretch) → place.0 < length stretches → place.1 < length (stretch_items (slice_index_or stretches place.0 d)))
    × (length stretches ≤ place.0 → place.1 ≡ 0)

-- word: each stretch is one item
abbrev pub AreSingle : List Stretch → Type 0
AreSingle [] = Unit {0}
AreSingle (s ∷ ss) = (length (stretch_items s) ≡ 1) × AreSingle ss

-- word, sections: a stretch with the count of a section line raised to what is needed
abbrev pub raised_stretch : ℕ → ℕ → Stretch → Stretch
raised_stretch subrs glyphs (One item) = One (raised_item subrs glyphs item)
raised_stretch subrs glyphs (Lines ls) = Lines ls
