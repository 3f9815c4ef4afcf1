-- The items of a source after a change, in three parts of those that stand.
use Rattle.std.specs.Prelude.{◌++◌, List}
use Rattle.std.specs.List.{insert, remove, slice_set}
use Rattle.t1_parts.specs.declared.item.Item.{Item}
use Rattle.t1_source.specs.declared.editing.Change.{Change}
use Rattle.t1_source.specs.declared.editing.Change.TheVariants.{PutItem, InsertItem, RemoveItem}
use Rattle.t1_source.specs.declared.editing.edited_items.EditedItems.{EditedItems}

-- word, edits: the items after a change, before their counts are raised
abbrev pub items_after : Change → List Item → List Item
items_after (PutItem at item) items = slice_set items at item
items_after (InsertItem at item) items = insert items at item
items_after (RemoveItem at) items = remove items at
items_after _ items = items

-- word: items in three parts
abbrev pub edited_items : EditedItems → List Item
edited_items items = items.before ++ (items.put ++ items.after)
