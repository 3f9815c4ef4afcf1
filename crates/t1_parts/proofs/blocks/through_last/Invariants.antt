use Rattle.std.proofs.Common.{◌≡◌, ◌≤◌, false, length, take, drop}
use Rattle.std.specs.List.{list_any}
use Rattle.t1_buckets.specs.Buckets.{shared_joined}
use Rattle.t1_parts.specs.EntryKeys.{is_of_kind}
use Rattle.t1_parts.proofs.blocks.through_last.Given as goal

-- the items of the blocks that are left; none behind them is of the kind
abbrev pub invariant-loop-index : goal.invariant-loop-index
invariant-loop-index l =
    (l.index ≤ length l.blocks)
    × (l.before ≡ length (shared_joined (take l.index l.blocks)))
    × (list_any (is_of_kind l.kind) (shared_joined (drop l.index l.blocks)) ≡ false)

abbrev pub decreases-loop-index : goal.decreases-loop-index
decreases-loop-index l = l.index
