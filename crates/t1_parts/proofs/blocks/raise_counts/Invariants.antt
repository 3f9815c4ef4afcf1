use Rattle.std.proofs.Common.{◌≡◌, ◌++◌, map, take, drop}
use Rattle.t1_buckets.specs.Buckets.{lists_of}
use Rattle.t1_parts.specs.Counts.{raised_item}
use Rattle.t1_parts.proofs.blocks.raise_counts.Given as goal

-- the blocks in front of the place are raised
abbrev pub invariant-loop-index : goal.invariant-loop-index
invariant-loop-index l =
    lists_of l.blocks.items ≡ map (map (raised_item l.subrs l.glyphs)) (take l.index (lists_of l.fn.blocks.items)) ++ drop l.index (lists_of l.fn.blocks.items)
