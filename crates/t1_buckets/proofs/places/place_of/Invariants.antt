use Rattle.std.proofs.Common.{◌≡◌, ◌+◌, length, take}
use Rattle.t1_buckets.specs.Buckets.{shared_joined}
use Rattle.t1_buckets.proofs.places.place_of.Given as goal

-- the elements of the buckets passed, and those that are left before the place
abbrev pub invariant-loop-bucket : goal.invariant-loop-bucket
invariant-loop-bucket g l =
    (l.index ≡ l.bucket-index) × (length (shared_joined (take l.bucket-index l.buckets)) + l.left ≡ l.at)
