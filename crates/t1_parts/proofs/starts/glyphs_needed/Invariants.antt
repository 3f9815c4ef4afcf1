use Rattle.std.proofs.Common.{◌≡◌, ◌+◌, ◌≤◌, filter, length}
use Rattle.t1_parts.specs.Counts.{glyphs_needed}
use Rattle.t1_parts.specs.Stretches.{stands_alone}
use Rattle.t1_parts.proofs.starts.glyphs_needed.Given as goal

-- the glyphs so far, and those of the rest
abbrev pub invariant-loop-item : goal.invariant-loop-item
invariant-loop-item l =
    (goal.iterator-loop-item).can_next l.item-iterator × (goal.iterator-loop-item).is_finite l.item-iterator
    × (l.needed + glyphs_needed l.item-iterator ≡ glyphs_needed (filter stands_alone l.fn.items)) × (l.needed + length l.item-iterator ≤ length (filter stands_alone l.fn.items))
