-- Rows of text that the definitions compute.
use Rattle.std.proofs.Common.{◌≡◌, ℕ, List, [], ◌∷◌, ◌++◌, refl, ℤ, pos, negsuc, true, false, Option, Some, None}
use Rattle.std.specs.Prelude.{codes}
use Rattle.std.specs.Fmt.{digits}
use Rattle.t1_afm.specs.declared.bbox.BBox.{BBox}
use Rattle.t1_afm.specs.declared.metrics.Header.{Header}
use Rattle.t1_afm.specs.declared.metrics.CharMetric.{CharMetric}
use Rattle.t1_afm.specs.declared.metrics.CompositeMetric.{CompositeMetric}
use Rattle.t1_afm.specs.Afm.{lines_of, lines_text, line_text, char_line}

abbrev pub bbox : ℤ → ℤ → ℤ → ℤ → BBox
bbox left bottom right top = record { left = left; bottom = bottom; right = right; top = top }

abbrev pub glyph : Option ℕ → ℕ → List ℕ → BBox → CharMetric
glyph code wx name b = record { code = code; wx = pos wx; wy = pos 0; name = name; bbox = b }

abbrev pub no_values : Header
no_values = record {
  font_name = None;
  full_name = None;
  family_name = None;
  weight = None;
  italic_angle = None;
  is_fixed_pitch = None;
  underline_position = None;
  underline_thickness = None;
  version = None;
  notice = None;
}

abbrev pub empty_box : BBox
empty_box = bbox (pos 0) (pos 0) (pos 0) (pos 0)

-- the small font
small_font : lines_text (lines_of no_values true empty_box (glyph (Some 32) 250 (codes "space") empty_box ∷ []) [] [])
    ≡ codes "StartFontMetrics 4.1\nFontBBox 0 0 0 0\nEncodingScheme AdobeStandardEncoding\n"
    ++ codes "StartCharMetrics 1\nC 32 ; WX 250 ; N space ; B 0 0 0 0 ;\nEndCharMetrics\nEndFontMetrics\n"
unfolding digits
small_font = refl

abbrev pub demo_values : Header
demo_values = record {
  font_name = Some ((codes "Demo"));
  full_name = Some ((codes "Demo Roman"));
  family_name = None;
  weight = Some ((codes "Medium"));
  italic_angle = Some ((codes "0"));
  is_fixed_pitch = Some ((codes "false"));
  underline_position = None;
  underline_thickness = None;
  version = Some ((codes "001.000"));
  notice = None;
}

abbrev pub demo_glyphs : List CharMetric
demo_glyphs =
    glyph (Some 32) 250 (codes "space") empty_box
    ∷ glyph (Some 65) 600 (codes "A") (bbox (pos 10) (pos 0) (pos 310) (pos 700))
    ∷ glyph (Some 86) 722 (codes "V") (bbox (pos 15) (pos 0) (pos 115) (pos 700))
    ∷ glyph (Some 194) 333 (codes "acute") (bbox (pos 93) (pos 500) (pos 193) (pos 678))
    ∷ glyph None 250 (codes ".notdef") empty_box
    ∷ glyph None 600 (codes "Aacute") (bbox (pos 10) (pos 0) (pos 310) (pos 892)) ∷ []

abbrev pub demo_composites : List CompositeMetric
demo_composites = record { name = (codes "Aacute"); base = (codes "A"); accent = (codes "acute"); dx = pos 87; dy = pos 214 } ∷ []

-- the demo font
demo_font : lines_text (lines_of demo_values true (bbox (pos 10) (pos 0) (pos 310) (pos 892)) demo_glyphs [] demo_composites)
    ≡ codes "StartFontMetrics 4.1\nFontName Demo\nFullName Demo Roman\nWeight Medium\nItalicAngle 0\nIsFixedPitch false\n"
    ++ codes "FontBBox 10 0 310 892\nVersion 001.000\nEncodingScheme AdobeStandardEncoding\nStartCharMetrics 6\n"
    ++ codes "C 32 ; WX 250 ; N space ; B 0 0 0 0 ;\nC 65 ; WX 600 ; N A ; B 10 0 310 700 ;\nC 86 ; WX 722 ; N V ; B 15 0 115 700 ;\n"
    ++ codes "C 194 ; WX 333 ; N acute ; B 93 500 193 678 ;\nC -1 ; WX 250 ; N .notdef ; B 0 0 0 0 ;\nC -1 ; WX 600 ; N Aacute ; B 10 0 310 892 ;\n"
    ++ codes "EndCharMetrics\nStartComposites 1\nCC Aacute 2 ; PCC A 0 0 ; PCC acute 87 214 ;\nEndComposites\nEndFontMetrics\n"
unfolding digits
demo_font = refl

-- a width along y too
both_widths : line_text (char_line (record { code = Some 32; wx = pos 500; wy = pos 20; name = (codes "space"); bbox = empty_box }))
    ≡ codes "C 32 ; W 500 20 ; N space ; B 0 0 0 0 ;\n"
unfolding digits
both_widths = refl

-- one pair, and the heights of H and p in a font of another encoding
pair_font : lines_text (lines_of no_values false (bbox (pos 0) (pos 0) (pos 5) (pos 7))
    (glyph (Some 1) 2 (codes "H") (bbox (pos 0) (pos 0) (pos 5) (pos 7)) ∷ glyph None 3 (codes "p") (bbox (pos 0) (negsuc 1) (pos 1) (pos 1)) ∷ [])
    (record { left = (codes "H"); right = (codes "p"); value = negsuc 91 } ∷ []) [])
    ≡ codes "StartFontMetrics 4.1\nFontBBox 0 0 5 7\nEncodingScheme FontSpecific\nCapHeight 7\nDescender -2\n"
    ++ codes "StartCharMetrics 2\nC 1 ; WX 2 ; N H ; B 0 0 5 7 ;\nC -1 ; WX 3 ; N p ; B 0 -2 1 1 ;\nEndCharMetrics\n"
    ++ codes "StartKernData\nStartKernPairs 1\nKPX H p -92\nEndKernPairs\nEndKernData\nEndFontMetrics\n"
unfolding digits
pair_font = refl
