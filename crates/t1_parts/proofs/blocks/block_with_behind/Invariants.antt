use Rattle.std.proofs.Common.{◌≤◌, length}
use Rattle.t1_parts.proofs.blocks.block_with_behind.Given as goal

-- the blocks that are left
abbrev pub invariant-loop-index : goal.invariant-loop-index
invariant-loop-index l = l.index ≤ length l.blocks

abbrev pub decreases-loop-index : goal.decreases-loop-index
decreases-loop-index l = l.index
