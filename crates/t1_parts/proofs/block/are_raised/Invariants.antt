use Rattle.std.proofs.Common.{◌≡◌, map, take}
use Rattle.t1_parts.specs.Counts.{raised_item}
use Rattle.t1_parts.specs.Items.{items_in}
use Rattle.t1_parts.proofs.block.are_raised.Given as goal

-- those passed are raised
abbrev pub invariant-loop-stretch : goal.invariant-loop-stretch
invariant-loop-stretch l = map (raised_item l.subrs l.glyphs) (items_in (take l.stretch-index l.stretches)) ≡ items_in (take l.stretch-index l.stretches)
