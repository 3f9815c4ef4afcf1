-- The counts on section lines.
use Rattle.std.specs.Prelude.{ℕ, Bool, true, false, ◌+◌, max, if◌then◌else◌, List, [], ◌∷◌, map, count_by}
use Rattle.t1_parts.specs.declared.item.Item.{Item}
use Rattle.t1_parts.specs.declared.item.Item.TheVariants.{Plain, Section, Subr, Glyph}
use Rattle.t1_parts.specs.Sections.{is_glyphs_line}

-- profile, sections: the highest Subr number plus one
abbrev pub subrs_needed : List Item → ℕ
subrs_needed [] = 0
subrs_needed (Subr n ws closing ∷ items) = max (n + 1) (subrs_needed items)
subrs_needed (_ ∷ items) = subrs_needed items

-- profile, sections: whether an item is a glyph
abbrev pub is_glyph_entry : Item → Bool
is_glyph_entry (Glyph g ws closing) = true
is_glyph_entry _ = false

-- profile, sections: the number of glyphs
abbrev pub glyphs_needed : List Item → ℕ
glyphs_needed items = count_by is_glyph_entry items

-- profile, sections: a section line with its count raised to what is needed
abbrev pub raised_item : ℕ → ℕ → Item → Item
raised_item subrs glyphs (Section before n after) =
    Section before (max n (if is_glyphs_line (Section before n after) then glyphs else subrs)) after
raised_item subrs glyphs (Plain l) = Plain l
raised_item subrs glyphs (Subr n ws closing) = Subr n ws closing
raised_item subrs glyphs (Glyph g ws closing) = Glyph g ws closing

-- profile, sections: the counts raised to what is needed, and never lowered
abbrev pub raised : List Item → List Item
raised items = map (raised_item (subrs_needed items) (glyphs_needed items)) items
