use Rattle.std.proofs.Common.{◌≡◌, false, length, take}
use Rattle.std.specs.List.{list_any}
use Rattle.t1_parts.specs.EntryKeys.{is_entry_of}
use Rattle.t1_parts.specs.Items.{items_in}
use Rattle.t1_parts.proofs.block.place_of_entry.Given as goal

-- the items of the stretches passed, none of which is the entry
abbrev pub invariant-loop-stretch : goal.invariant-loop-stretch
invariant-loop-stretch l =
    (l.passed ≡ length (items_in (take l.stretch-index l.stretches))) × (list_any (is_entry_of l.key) (items_in (take l.stretch-index l.stretches)) ≡ false)
