-- The text of an AFM file (Adobe Font Metrics File Format Specification 4.1). Which lines stand, and their order, is this project's profile.
use Rattle.std.specs.Prelude.{ℕ, zero, Bool, true, false, List, [], ◌∷◌, ◌++◌, length, map, flat_map, Option, Some, None, option_map, ℤ, pos, negsuc, decimal, codes}
use Rattle.std.specs.Fmt.{signed_decimal}
use Rattle.std.specs.List.{find}
use Rattle.std.specs.Str.{bytes_eq}
use Rattle.t1_frac.specs.Ascii.{line_feed, space}
use Rattle.t1_afm.specs.declared.bbox.BBox.{BBox}
use Rattle.t1_afm.specs.declared.metrics.Header.{Header}
use Rattle.t1_afm.specs.declared.metrics.CharMetric.{CharMetric}
use Rattle.t1_afm.specs.declared.metrics.KernPair.{KernPair}
use Rattle.t1_afm.specs.declared.metrics.CompositeMetric.{CompositeMetric}

-- AFM 4.1: what a file says of a font: the values about the whole font, whether the encoding is StandardEncoding, the
-- font's box, and the glyphs, pairs and composites in the order of the file
pub record FontMetrics : Type 0 where
  pub header : Header
  pub standard : Bool
  pub font_box : BBox
  pub chars : List CharMetric
  pub pairs : List KernPair
  pub composites : List CompositeMetric

-- AFM 4.1, file format: a line is a key and its values; a value that is a string, blanks included, counts as one word here
abbrev pub Line : Type 0
Line = List (List ℕ)

-- AFM 4.1, file format: the words that follow, each after a space, and the line's end
abbrev pub rest_text : Line → List ℕ
rest_text [] = line_feed ∷ []
rest_text (word ∷ words) = space ∷ word ++ rest_text words

-- AFM 4.1, file format: the words with a space between each two, and the line's end
abbrev pub line_text : Line → List ℕ
line_text [] = line_feed ∷ []
line_text (word ∷ words) = word ++ rest_text words

-- AFM 4.1, file format: the lines, one after another
abbrev pub lines_text : List Line → List ℕ
lines_text lines = flat_map line_text lines

-- profile: a line of a key and its value, where there is a value
abbrev pub value_line : List ℕ × Option (List ℕ) → List Line
value_line (key, None) = []
value_line (key, Some value) = (key ∷ value ∷ []) ∷ []

-- profile: such lines, one after another
abbrev pub value_lines : List (List ℕ × Option (List ℕ)) → List Line
value_lines values = flat_map value_line values

-- AFM 4.1, Global Font Information: the values that stand before the font's box
abbrev pub values_before_box : Header → List (List ℕ × Option (List ℕ))
values_before_box h =
    (codes "FontName", h.font_name)
    ∷ (codes "FullName", h.full_name)
    ∷ (codes "FamilyName", h.family_name)
    ∷ (codes "Weight", h.weight)
    ∷ (codes "ItalicAngle", h.italic_angle)
    ∷ (codes "IsFixedPitch", h.is_fixed_pitch)
    ∷ []

-- AFM 4.1, Global Font Information: the values that stand after the font's box
abbrev pub values_after_box : Header → List (List ℕ × Option (List ℕ))
values_after_box h =
    (codes "UnderlinePosition", h.underline_position)
    ∷ (codes "UnderlineThickness", h.underline_thickness)
    ∷ (codes "Version", h.version)
    ∷ (codes "Notice", h.notice)
    ∷ []

-- AFM 4.1, FontBBox and B: the four sides of a box, left, bottom, right, top
abbrev pub sides : BBox → Line
sides b = signed_decimal b.left ∷ signed_decimal b.bottom ∷ signed_decimal b.right ∷ signed_decimal b.top ∷ []

-- AFM 4.1, EncodingScheme
abbrev pub scheme : Bool → List ℕ
scheme true = codes "AdobeStandardEncoding"
scheme false = codes "FontSpecific"

-- AFM 4.1, Control Information and Global Font Information: the lines before the heights
abbrev pub header_lines : Header → Bool → BBox → List Line
header_lines header standard font_box =
    (codes "StartFontMetrics" ∷ codes "4.1" ∷ [])
    ∷ value_lines (values_before_box header)
    ++ (codes "FontBBox" ∷ sides font_box)
    ∷ value_lines (values_after_box header)
    ++ (codes "EncodingScheme" ∷ scheme standard ∷ []) ∷ []

-- profile: the first glyph of a name
abbrev pub char_named : List ℕ → List CharMetric → Option CharMetric
char_named name chars = find (λ c. bytes_eq c.name name) chars

-- profile: a side of the box of the glyph of this name, where there is that glyph
abbrev pub side_of : (BBox → ℤ) → List ℕ → List CharMetric → Option (List ℕ)
side_of side name chars = option_map (λ c. signed_decimal (side c.bbox)) (char_named name chars)

-- AFM 4.1, CapHeight, XHeight, Ascender and Descender: the tops of H, x and d, and the bottom of p
abbrev pub heights : List CharMetric → List (List ℕ × Option (List ℕ))
heights chars =
    (codes "CapHeight", side_of (λ b. b.top) (codes "H") chars)
    ∷ (codes "XHeight", side_of (λ b. b.top) (codes "x") chars)
    ∷ (codes "Ascender", side_of (λ b. b.top) (codes "d") chars)
    ∷ (codes "Descender", side_of (λ b. b.bottom) (codes "p") chars)
    ∷ []

-- AFM 4.1, C: a glyph's code, -1 where it has none
abbrev pub code_number : Option ℕ → ℤ
code_number None = negsuc 0
code_number (Some code) = pos code

-- AFM 4.1, WX and W: the width along x alone, or both where there is one along y
abbrev pub width_words : ℤ → ℤ → Line
width_words wx (pos zero) = codes "WX" ∷ signed_decimal wx ∷ []
width_words wx wy = codes "W" ∷ signed_decimal wx ∷ signed_decimal wy ∷ []

-- AFM 4.1, Individual Character Metrics: code, this width, name and box, each with a semicolon after it
abbrev pub entries : Line → CharMetric → Line
entries width c =
    signed_decimal (code_number c.code) ∷ codes ";"
    ∷ width ++ codes ";"
    ∷ codes "N" ∷ c.name ∷ codes ";"
    ∷ codes "B" ∷ sides c.bbox ++ codes ";" ∷ []

-- AFM 4.1, Individual Character Metrics: a glyph's line
abbrev pub char_line : CharMetric → Line
char_line c = codes "C" ∷ entries (width_words c.wx c.wy) c

-- AFM 4.1, KPX: the kerning of a pair along x
abbrev pub pair_line : KernPair → Line
pair_line p = codes "KPX" ∷ p.left ∷ p.right ∷ signed_decimal p.value ∷ []

-- AFM 4.1, CC and PCC: a composite of two parts, the base at its origin and the accent moved
abbrev pub composite_line : CompositeMetric → Line
composite_line c =
    codes "CC" ∷ c.name ∷ codes "2" ∷ codes ";"
    ∷ codes "PCC" ∷ c.base ∷ codes "0" ∷ codes "0" ∷ codes ";"
    ∷ codes "PCC" ∷ c.accent ∷ signed_decimal c.dx ∷ signed_decimal c.dy ∷ codes ";" ∷ []

-- AFM 4.1: a section is a line that counts its lines, these, and a line that ends it
abbrev pub section : List ℕ → List ℕ → List Line → List Line
section start end lines = (start ∷ decimal (length lines) ∷ []) ∷ lines ++ (end ∷ []) ∷ []

-- AFM 4.1, Kerning Data, where there is a pair
abbrev pub kerning_lines : List KernPair → List Line
kerning_lines [] = []
kerning_lines (pair ∷ pairs) =
    (codes "StartKernData" ∷ [])
    ∷ section (codes "StartKernPairs") (codes "EndKernPairs") (map pair_line (pair ∷ pairs))
    ++ (codes "EndKernData" ∷ []) ∷ []

-- AFM 4.1, Composite Character Data, where there is a composite
abbrev pub composite_lines : List CompositeMetric → List Line
composite_lines [] = []
composite_lines (composite ∷ composites) =
    section (codes "StartComposites") (codes "EndComposites") (map composite_line (composite ∷ composites))

-- profile: the lines of the file
abbrev pub lines_of : Header → Bool → BBox → List CharMetric → List KernPair → List CompositeMetric → List Line
lines_of header standard font_box chars pairs composites =
    header_lines header standard font_box
    ++ value_lines (heights chars)
    ++ section (codes "StartCharMetrics") (codes "EndCharMetrics") (map char_line chars)
    ++ kerning_lines pairs
    ++ composite_lines composites
    ++ (codes "EndFontMetrics" ∷ []) ∷ []

-- profile: the file
unfoldable pub afm : FontMetrics → List ℕ
afm s = lines_text (lines_of s.header s.standard s.font_box s.chars s.pairs s.composites)
