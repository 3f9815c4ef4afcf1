use Rattle.std.proofs.Common.{◌≡◌, ◌++◌}
use Rattle.t1_buckets.specs.Buckets.{shared_joined}
use Rattle.t1_parts.specs.Items.{items_in}
use Rattle.t1_parts.specs.Stretches.{stretches_in}
use Rattle.t1_parts.proofs.blocks.Blocks.of_lists.Given as goal

-- the lists passed stand in blocks
abbrev pub invariant-loop-stretches : goal.invariant-loop-stretches
invariant-loop-stretches l = shared_joined l.blocks.items ++ items_in (stretches_in l.stretches-iterator.rest.items) ≡ items_in (stretches_in l.fn.lists.items)
