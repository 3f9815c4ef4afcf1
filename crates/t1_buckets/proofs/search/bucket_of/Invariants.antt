use Rattle.std.proofs.Common.{◌≤◌, ◌-◌, Ordering, length}
use Rattle.std.specs.Fn.{ComputesKey}
use Rattle.t1_buckets.specs.BucketPlaces.{IsAfter, IsUpTo}
use Rattle.t1_buckets.specs.Buckets.{lists_of}
use Rattle.t1_buckets.proofs.search.bucket_of.Given as goal

-- the bucket that is looked for stands between the two
abbrev pub invariant-loop-first : goal.invariant-loop-first
invariant-loop-first g l =
    (l.first ≤ l.end) × (l.end ≤ length l.buckets) × goal.F-IsAlwaysCallable g l.order
    × ((by : g.row.T.Denot → Ordering) → ComputesKey g.F.FnMut by l.initial.order → ComputesKey g.F.FnMut by l.order × IsAfter by (lists_of l.buckets) l.first × IsUpTo by (lists_of l.buckets) l.end)

abbrev pub decreases-loop-first : goal.decreases-loop-first
decreases-loop-first g l = l.end - l.first
