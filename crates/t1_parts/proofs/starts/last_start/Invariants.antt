use Rattle.std.proofs.Common.{◌<◌, ◌≤◌, ◌-◌, ℕ, length}
use Rattle.std.specs.List.{slice_index_or}
use Rattle.t1_parts.proofs.starts.last_start.Given as goal

-- the start of the first index is at most the place, and that of the end past it
abbrev pub invariant-loop-end : goal.invariant-loop-end
invariant-loop-end l =
    (l.from < l.end)
    × (l.end ≤ length l.starts)
    × ((d : ℕ) → slice_index_or l.starts l.from d ≤ l.at)
    × ((d : ℕ) → l.end < length l.starts → l.at < slice_index_or l.starts l.end d)

abbrev pub decreases-loop-end : goal.decreases-loop-end
decreases-loop-end l = l.end - l.from
