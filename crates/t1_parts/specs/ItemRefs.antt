-- Items where they stand.
use Rattle.t1_parts.specs.declared.item.Item.{Item}
use Rattle.t1_parts.specs.declared.item.Item.TheVariants as items
use Rattle.t1_parts.specs.declared.item_ref.ItemRef.{ItemRef}
use Rattle.t1_parts.specs.declared.item_ref.ItemRef.TheVariants.{Plain, Section, Subr, Glyph}

-- word: the item whose parts these are
abbrev pub item_of : ItemRef → Item
item_of (Plain l) = items.Plain l.now
item_of (Section before n after) = items.Section before.now n after.now
item_of (Subr n words closing) = items.Subr n words.now closing.now
item_of (Glyph g words closing) = items.Glyph g.now words.now closing.now
