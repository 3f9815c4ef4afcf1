use Rattle.std.proofs.Common.{◌≡◌, take}
use Rattle.t1_buckets.proofs.bucket.copies_of.Given as goal

-- the elements passed
abbrev pub invariant-loop-element : goal.invariant-loop-element
invariant-loop-element g l = l.copies.items ≡ take l.element-index l.elements
