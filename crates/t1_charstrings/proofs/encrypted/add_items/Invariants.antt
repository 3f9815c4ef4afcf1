use Rattle.std.proofs.Common.{◌≡◌, ℕ, List, filter}
use Rattle.std.specs.Option.{option_map, option_or}
use Rattle.t1_parts.specs.Stretches.{stands_alone}
use Rattle.t1_run.specs.Run.{Subr, Glyph}
use Rattle.t1_font.specs.Bodies.{bodies_check, subr_among, glyph_among}
use Rattle.t1_charstrings.specs.Entries.{encrypted, glyph_charstring, subr_charstring}
use Rattle.t1_charstrings.proofs.encrypted.add_items.Given as goal

-- what was added, and the bodies of the items that are left
abbrev pub invariant-loop-item : goal.invariant-loop-item
invariant-loop-item l =
    (goal.iterator-loop-item).can_next l.item-iterator × (goal.iterator-loop-item).is_finite l.item-iterator
    × (bodies_check l.item-iterator ≡ bodies_check (filter stands_alone l.items))
    × ((n : ℕ) → option_or (subr_charstring l.charstrings.subrs.entries n) (option_map (encrypted l.lead (Subr n)) (subr_among l.item-iterator n))
    ≡ option_or (subr_charstring l.fn.charstrings.subrs.entries n) (option_map (encrypted l.lead (Subr n)) (subr_among (filter stands_alone l.items) n)))
    × ((g : List ℕ) → option_or (glyph_charstring l.charstrings.glyphs.entries g) (option_map (encrypted l.lead (Glyph g)) (glyph_among l.item-iterator g))
    ≡ option_or (glyph_charstring l.fn.charstrings.glyphs.entries g) (option_map (encrypted l.lead (Glyph g)) (glyph_among (filter stands_alone l.items) g)))
