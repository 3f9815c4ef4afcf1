use Rattle.std.proofs.Common.{◌≡◌, false, length, take}
use Rattle.std.specs.List.{list_any}
use Rattle.t1_buckets.specs.Buckets.{shared_joined}
use Rattle.t1_parts.specs.EntryKeys.{is_entry_of}
use Rattle.t1_parts.proofs.blocks.entry_place.Given as goal

-- none of the items passed is the entry
abbrev pub invariant-loop-block : goal.invariant-loop-block
invariant-loop-block l =
    (l.passed ≡ length (shared_joined (take l.block-index l.blocks)))
    × (list_any (is_entry_of l.key) (shared_joined (take l.block-index l.blocks)) ≡ false)
