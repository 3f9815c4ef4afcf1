use Rattle.std.proofs.Common.{◌≡◌, ℕ, List}
use Rattle.std.specs.Prelude.{◌||◌}
use Rattle.std.specs.List.{list_any}
use Rattle.std.specs.Str.{bytes_eq}
use Rattle.t1_font.specs.Glyphs.{glyph_names}
use Rattle.t1_font.specs.Names.{is_name_kept}
use Rattle.t1_font.proofs.turns.names_of.Given as goal

-- the names so far, or those of the items that are left
abbrev pub invariant-loop-item : goal.invariant-loop-item
invariant-loop-item l =
    (goal.iterator-loop-item).can_next l.item-iterator × (goal.iterator-loop-item).is_finite l.item-iterator
    × ((g : List ℕ) → (is_name_kept l.names.keys g || list_any (bytes_eq g) (glyph_names l.item-iterator)) ≡ list_any (bytes_eq g) (glyph_names l.items))
