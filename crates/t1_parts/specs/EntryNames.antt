-- The names of entries, as the code asks for them.
use Rattle.std.specs.Prelude.{ℕ, Option, Some, None, List}
use Rattle.t1_parts.specs.declared.item.Item.{Item}
use Rattle.t1_parts.specs.declared.item.Item.TheVariants.{Glyph}

-- word, entries: the name of an item that is a glyph
abbrev pub glyph_name : Item → Option (List ℕ)
glyph_name (Glyph g ws closing) = Some g
glyph_name _ = None
