use Rattle.std.proofs.Common.{◌≡◌, length, take}
use Rattle.t1_parts.specs.Items.{items_in}
use Rattle.t1_parts.specs.Starts.{starts_from}
use Rattle.t1_parts.proofs.starts.counted_starts.Given as goal

-- the starts of the stretches passed, and how many items these have
abbrev pub invariant-loop-stretch : goal.invariant-loop-stretch
invariant-loop-stretch l =
    (l.starts.items ≡ starts_from 0 (take l.stretch-index l.stretches)) × (l.count ≡ length (items_in (take l.stretch-index l.stretches)))
