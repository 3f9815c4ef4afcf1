use Rattle.std.proofs.Common.{◌≡◌, take}
use Rattle.t1_buckets.specs.Buckets.{shared_joined}
use Rattle.t1_parts.proofs.blocks.again.Given as goal

-- the blocks passed
abbrev pub invariant-loop-block : goal.invariant-loop-block
invariant-loop-block l = shared_joined l.copies.items ≡ shared_joined (take l.block-index l.blocks)
