-- The line of a glyph in an AFM file, by its record.
use Rattle.std.specs.Prelude.{ℕ, pos, List, [], ◌∷◌, ◌++◌, codes, Option, option_map, unwrap_or}
use Rattle.std.specs.Fmt.{signed_decimal}
use Rattle.t1_frac.specs.Fraction.{nearest_of}
use Rattle.t1_parts.specs.SourceParts.{SourceParts}
use Rattle.t1_source.specs.Codes.{code_of}
use Rattle.t1_afm.specs.declared.metrics.CharMetric.{CharMetric}
use Rattle.t1_afm.specs.Afm.{Line, char_line, code_number, line_text, sides}
use Rattle.t1_cache.specs.declared.records.GlyphRecord.{GlyphRecord}

-- word, queries: what the AFM file of a source says of the glyph of this name, by its record
abbrev pub recorded_char : SourceParts → List ℕ → GlyphRecord → CharMetric
recorded_char s name kept = record {
  code = code_of s name;
  wx = nearest_of kept.run.drawing.width.x;
  wy = nearest_of kept.run.drawing.width.y;
  name = name;
  bbox = unwrap_or kept.bbox (record { left = pos 0; bottom = pos 0; right = pos 0; top = pos 0 });
}

-- word, queries: its line, where it has a record
abbrev pub recorded_line : SourceParts → List ℕ → Option GlyphRecord → Option (List ℕ)
recorded_line s name found = option_map (λ r. line_text (char_line (recorded_char s name r))) found

-- word, queries: what stands before the width in a glyph's line
abbrev pub before_width : Option ℕ → List ℕ
before_width code = codes "C " ++ (signed_decimal (code_number code) ++ codes " ;")

-- word, queries: the words after the width
abbrev pub after_width : CharMetric → Line
after_width c = codes ";" ∷ codes "N" ∷ c.name ∷ codes ";" ∷ codes "B" ∷ sides c.bbox ++ codes ";" ∷ []
