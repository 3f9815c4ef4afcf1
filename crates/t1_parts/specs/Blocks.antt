-- Items that stand in blocks.
use Rattle.std.specs.Prelude.{Option, Some, None, List, []}
use Rattle.std.specs.Borrow.{Bor}
use Rattle.t1_parts.specs.declared.item.Item.{Item}
use Rattle.t1_parts.specs.declared.stretch.Stretch.{Stretch}
use Rattle.t1_parts.specs.Items.{items_in}

-- word: the items of some stretches, or none
abbrev pub items_of_part : Option (Bor (List Stretch)) → List Item
items_of_part None = []
items_of_part (Some stretches) = items_in stretches.now
