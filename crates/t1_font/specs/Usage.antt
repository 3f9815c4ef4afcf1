-- The usage table: the Subrs and the glyphs on which each glyph stands.
use Rattle.std.specs.Prelude.{ℕ, List, [], ◌++◌, map, flat_map, codes, decimal, Option, None, Some}
use Rattle.t1_text.specs.Lines.{joined}
use Rattle.t1_font.specs.declared.glyph_metrics.GlyphMetrics.{GlyphMetrics}
use Rattle.t1_font.specs.declared.glyph_metrics.PlacedParts.{PlacedParts}

-- profile, usage table: ` S N ;` for a Subr that the glyph's own run entered
abbrev pub entered_text : ℕ → List ℕ
entered_text number = codes " S " ++ decimal number ++ codes " ;"

-- profile, usage table: ` P BASE ; P ACCENT ;` for the parts of a composite
abbrev pub parts_text : Option PlacedParts → List ℕ
parts_text None = []
parts_text (Some parts) = codes " P " ++ parts.base ++ codes " ; P " ++ parts.accent ++ codes " ;"

-- profile, usage table: a glyph's line: its name, the Subrs ascending and each once, the parts
abbrev pub usage_line : GlyphMetrics → List ℕ
usage_line g = codes "U " ++ g.name ++ codes " ;" ++ flat_map entered_text g.entered ++ parts_text g.parts

-- profile, usage table: a line a glyph, in the order of the source
abbrev pub usage_table : List GlyphMetrics → List ℕ
usage_table glyphs = joined (map usage_line glyphs)
