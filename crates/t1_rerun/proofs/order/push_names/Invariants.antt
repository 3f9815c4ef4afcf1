use Rattle.std.proofs.Common.{◌≡◌, ◌++◌, map}
use Rattle.t1_font.specs.Glyphs.{glyph_names}
use Rattle.t1_rerun.proofs.order.push_names.Given as goal

-- the names so far, in front of those of the items that are left
abbrev pub invariant-loop-item : goal.invariant-loop-item
invariant-loop-item l =
    (goal.iterator-loop-item).can_next l.item-iterator × (goal.iterator-loop-item).is_finite l.item-iterator
    × (map (λ name. name.now) l.names.items ++ glyph_names l.item-iterator ≡ map (λ name. name.now) l.fn.names.items ++ glyph_names l.fn.items)
