use Rattle.std.proofs.Common.{◌≡◌, ◌≤◌, false, length, take, drop}
use Rattle.std.specs.List.{list_any}
use Rattle.t1_parts.specs.EntryKeys.{is_of_kind}
use Rattle.t1_parts.specs.Items.{items_in}
use Rattle.t1_parts.proofs.block.through_last.Given as goal

-- the items of the stretches that are left; none behind them is of the kind
abbrev pub invariant-loop-index : goal.invariant-loop-index
invariant-loop-index l =
    (l.index ≤ length l.stretches)
    × (l.through ≡ length (items_in (take l.index l.stretches)))
    × (list_any (is_of_kind l.kind) (items_in (drop l.index l.stretches)) ≡ false)

abbrev pub decreases-loop-index : goal.decreases-loop-index
decreases-loop-index l = l.index
