use Rattle.std.proofs.Common.{◌≡◌}
use Rattle.t1_pairs.specs.Sorted.{pairs_of_entries}
use Rattle.t1_pairs.proofs.pairs.Sorted.into_pairs.Given as goal

-- the pairs so far
abbrev pub invariant-loop-left : goal.invariant-loop-left
invariant-loop-left l = l.pairs ≡ pairs_of_entries l.yielded
