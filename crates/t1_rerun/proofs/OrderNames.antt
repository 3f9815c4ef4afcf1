-- The names of the glyphs of a source that edits make.
use Rattle.std.proofs.Common.{◌≡◌, List, ◌++◌, sym, ◌∙◌, ap}
use Rattle.std.proofs.lemmas.List.Concat.{flat_map-append}
use Rattle.t1_parts.specs.declared.item.Item.{Item}
use Rattle.t1_parts.specs.Counts.{raised, subrs_needed, glyphs_needed}
use Rattle.t1_font.specs.Glyphs.{glyph_names, name_in}
use Rattle.t1_cache.proofs.Middles.{names-raised}

-- those of three lists, one after another
pub three-names : (a b c : List Item) → glyph_names a ++ (glyph_names b ++ glyph_names c) ≡ glyph_names (a ++ (b ++ c))
three-names a b c = sym (flat_map-append name_in a (b ++ c) ∙ ap (λ l. glyph_names a ++ l) (flat_map-append name_in b c))

-- counts that are raised have no names
pub raised-names : (items : List Item) → glyph_names (raised items) ≡ glyph_names items
raised-names items = names-raised (subrs_needed items) (glyphs_needed items) items
