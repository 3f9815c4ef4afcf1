-- What is reported of a font's glyphs.
use Rattle.std.specs.Prelude.{ℕ, List, map, Option, Result, Ok}
use Rattle.t1_frac.specs.declared.fault.Code.{Code}
use Rattle.t1_frac.specs.declared.fault.Fault.{Fault}
use Rattle.t1_frac.specs.Outcome.{◌>>=◌}
use Rattle.t1_parts.specs.declared.item.Item.{Item}
use Rattle.t1_run.specs.Composite.{outline_within}
use Rattle.t1_run.specs.Run.{Drawing}
use Rattle.t1_afm.specs.declared.bbox.BBox.{BBox}
use Rattle.t1_afm.specs.Box.{drawn_box, font_box}
use Rattle.t1_font.specs.declared.glyph_metrics.GlyphMetrics.{GlyphMetrics}
use Rattle.t1_font.specs.Bodies.{bodies}
use Rattle.t1_font.specs.Glyphs.{Glyph, glyph_of, glyphs, glyph_names}

-- profile: what is reported of a glyph: its name, width and parts, and its box where it draws
abbrev pub glyph_metrics : Glyph → GlyphMetrics
glyph_metrics g = record {
  name = g.name;
  width = g.drawing.width;
  entered = g.drawing.entered;
  parts = g.parts;
  bbox = drawn_box g.outline;
}

-- profile: what is reported of a glyph, by runs that are kept
unfoldable pub glyph_metrics_at : (List ℕ → Option (Result Drawing Code)) → List ℕ → Result GlyphMetrics Code
glyph_metrics_at run name =
    glyph_of name (run name) (outline_within run 4 name) >>= (λ glyph. Ok (glyph_metrics glyph))

-- profile: what is reported of the glyphs, in the order of their entries, and the font's box
pub record MeasuredFont : Type 0 where
  pub metrics : List GlyphMetrics
  pub font_box : BBox

-- profile: what is reported of the glyphs of a private part whose bodies have no fault, and the font's box; or the first fault of
-- a glyph
unfoldable pub measured : List Item → Result MeasuredFont Fault
measured items =
    glyphs (bodies items) (glyph_names items) >>= (λ glyphs.
    Ok (record { metrics = map glyph_metrics glyphs; font_box = font_box (map (λ g. g.outline) glyphs) }))
