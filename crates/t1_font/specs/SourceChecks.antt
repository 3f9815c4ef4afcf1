-- The metrics and the usage table of a source, and its first fault.
use Rattle.std.specs.Prelude.{ℕ, List, Result, Ok}
use Rattle.t1_frac.specs.declared.fault.Fault.{Fault}
use Rattle.t1_frac.specs.Outcome.{◌>>=◌}
use Rattle.t1_parts.specs.SourceParts.{SourceParts}
use Rattle.t1_font.specs.Bodies.{bodies}
use Rattle.t1_font.specs.Glyphs.{Glyph, glyphs, glyph_names}
use Rattle.t1_font.specs.MeasuredGlyphs.{MeasuredFont, measured}
use Rattle.t1_font.specs.Usage.{usage_table}
use Rattle.t1_font.specs.Assembly.{file_check}

-- profile, order of faults: the metrics of the glyphs of a source and the font's box, or its first fault: of the bodies, F23, or
-- of a glyph
unfoldable pub measured_source : SourceParts → Result MeasuredFont Fault
measured_source source = file_check source >>= λ checked. measured source.items

-- profile: the first fault of a source, where it has one
abbrev pub source_check : SourceParts → Result (Unit {0}) Fault
source_check source = measured_source source >>= λ font. Ok tt

-- profile: the usage table of a source, or its first fault
abbrev pub source_usage : SourceParts → Result (List ℕ) Fault
source_usage source = measured_source source >>= λ font. Ok (usage_table font.metrics)

-- profile: the glyphs of a source from scratch, of which records are kept, or its first fault
abbrev pub source_glyphs : SourceParts → Result (List Glyph) Fault
source_glyphs source = file_check source >>= λ checked. glyphs (bodies source.items) (glyph_names source.items)
