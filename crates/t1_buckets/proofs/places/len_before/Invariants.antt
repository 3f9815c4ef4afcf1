use Rattle.std.proofs.Common.{◌≡◌, length, take}
use Rattle.t1_buckets.specs.Buckets.{shared_joined}
use Rattle.t1_buckets.proofs.places.len_before.Given as goal

-- the elements of the buckets passed
abbrev pub invariant-loop-bucket : goal.invariant-loop-bucket
invariant-loop-bucket g l = l.len ≡ length (shared_joined (take l.bucket-index l.front))
