use Rattle.std.proofs.Common.{◌≡◌, length, take}
use Rattle.t1_buckets.specs.Buckets.{shared_joined}
use Rattle.t1_parts.proofs.blocks.len_before.Given as goal

-- the items of the blocks passed
abbrev pub invariant-loop-block : goal.invariant-loop-block
invariant-loop-block l = l.len ≡ length (shared_joined (take l.block-index l.front))
