-- The items of a private part in memory, where plain lines that follow one another stand together.
use Rattle.std.specs.Prelude.{ℕ, Bool, true, false, List, [], ◌∷◌, map, flat_map}
use Rattle.t1_parts.specs.declared.item.Item.{Item}
use Rattle.t1_parts.specs.declared.item.Item.TheVariants.{Plain, Subr, Glyph}
use Rattle.t1_parts.specs.declared.stretch.Stretch.{Stretch}
use Rattle.t1_parts.specs.declared.stretch.Stretch.TheVariants.{One, Lines}

-- profile: each line as a plain item
abbrev pub line_items : List (List ℕ) → List Item
line_items ls = map Plain ls

-- profile: the items of a stretch: that item, or each line as a plain one
abbrev pub stretch_items : Stretch → List Item
stretch_items (One item) = item ∷ []
stretch_items (Lines ls) = line_items ls

-- profile: the items of some stretches
abbrev pub items_in : List Stretch → List Item
items_in stretches = flat_map stretch_items stretches

-- word: whether an item is a Subr or a glyph
abbrev pub is_entry : Item → Bool
is_entry (Subr n words closing) = true
is_entry (Glyph g words closing) = true
is_entry item = false
