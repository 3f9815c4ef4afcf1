use Rattle.std.proofs.Common.{◌≡◌, take}
use Rattle.t1_buckets.specs.Buckets.{shared_joined}
use Rattle.t1_buckets.proofs.edits.again.Given as goal

-- the buckets passed
abbrev pub invariant-loop-bucket : goal.invariant-loop-bucket
invariant-loop-bucket g l = shared_joined l.copies.items ≡ shared_joined (take l.bucket-index l.buckets)
