use Rattle.std.proofs.Common.{◌≡◌, ◌++◌, map, take, drop}
use Rattle.t1_parts.specs.Stretches.{raised_stretch}
use Rattle.t1_parts.proofs.stretches.raise_stretches.Given as goal

-- the stretches in front of the place are raised
abbrev pub invariant-loop-index : goal.invariant-loop-index
invariant-loop-index l =
    l.stretches.items ≡ map (raised_stretch l.subrs l.glyphs) (take l.index l.fn.stretches.items) ++ drop l.index l.fn.stretches.items
