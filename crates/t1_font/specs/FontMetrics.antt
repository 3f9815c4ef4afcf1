-- What an AFM file says of a source.
use Rattle.std.specs.Prelude.{List, map, codes}
use Rattle.t1_pairs.specs.declared.pairs.Pair.{Pair}
use Rattle.t1_source.specs.Codes.{code_of}
use Rattle.t1_parts.specs.SourceParts.{SourceParts}
use Rattle.t1_parts.specs.Header.{header}
use Rattle.t1_parts.specs.Reading.{standard}
use Rattle.t1_afm.specs.declared.metrics.Header.{Header}
use Rattle.t1_afm.specs.Afm.{FontMetrics}
use Rattle.t1_font.specs.Metrics.{char_of, in_code_order, composites, kern_pairs}
use Rattle.t1_font.specs.MeasuredGlyphs.{MeasuredFont}

-- AFM 4.1, Global Font Information: the values of the source's header keys
abbrev pub header_values : SourceParts → Header
header_values source = record {
  font_name = header source (codes "FontName");
  full_name = header source (codes "FullName");
  family_name = header source (codes "FamilyName");
  weight = header source (codes "Weight");
  italic_angle = header source (codes "ItalicAngle");
  is_fixed_pitch = header source (codes "isFixedPitch");
  underline_position = header source (codes "UnderlinePosition");
  underline_thickness = header source (codes "UnderlineThickness");
  version = header source (codes "version");
  notice = header source (codes "Notice");
}

-- AFM 4.1: what the file says of a source, its pairs and its glyphs
abbrev pub metrics_of : SourceParts → List Pair → MeasuredFont → FontMetrics
metrics_of source pairs glyphs = record {
  header = header_values source;
  standard = standard source;
  font_box = glyphs.font_box;
  chars = in_code_order (map (char_of (code_of source)) glyphs.metrics);
  pairs = kern_pairs glyphs.metrics pairs;
  composites = composites glyphs.metrics;
}
