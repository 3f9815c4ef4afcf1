use Rattle.std.proofs.Common.{◌≡◌, ◌<◌, ◌+◌, ◌^◌, ◌-◌, min, length}
use Rattle.t1_charstrings.specs.Raising.{raised_text}
use Rattle.t1_charstrings.proofs.raising.raised_sections_len.Given as goal

-- the section lines so far, and those of the rest
abbrev pub invariant-loop-item : goal.invariant-loop-item
invariant-loop-item l =
    (goal.iterator-loop-item).can_next l.item-iterator × (goal.iterator-loop-item).is_finite l.item-iterator
    × (l.total < 2 ^ 64)
    × (min (l.total + length (raised_text l.needed.subrs l.needed.glyphs l.item-iterator)) (2 ^ 64 - 1)
    ≡ min (length (raised_text l.needed.subrs l.needed.glyphs l.items)) (2 ^ 64 - 1))
