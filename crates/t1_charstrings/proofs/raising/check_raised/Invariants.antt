use Rattle.std.proofs.Common.{◌≡◌, filter}
use Rattle.t1_parts.specs.Stretches.{stands_alone}
use Rattle.t1_charstrings.specs.Raising.{raised_check}
use Rattle.t1_charstrings.proofs.raising.check_raised.Given as goal

-- the rest decides
abbrev pub invariant-loop-item : goal.invariant-loop-item
invariant-loop-item l =
    (goal.iterator-loop-item).can_next l.item-iterator × (goal.iterator-loop-item).is_finite l.item-iterator
    × (raised_check l.needed.subrs l.needed.glyphs l.item-iterator ≡ raised_check l.needed.subrs l.needed.glyphs (filter stands_alone l.items))
