use Rattle.std.proofs.Common.{◌≡◌, ◌+◌, length, take}
use Rattle.t1_buckets.specs.Buckets.{shared_joined}
use Rattle.t1_parts.proofs.blocks.place_of.Given as goal

-- the items of the blocks passed, and those that are left before the place
abbrev pub invariant-loop-block : goal.invariant-loop-block
invariant-loop-block l = (l.index ≡ l.block-index) × (length (shared_joined (take l.block-index l.blocks)) + l.left ≡ l.at)
