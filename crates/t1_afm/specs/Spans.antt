-- What contracts see of spans, the boxes of one axis.
use Rattle.std.specs.Prelude.{List, [], ◌∷◌, map}
use Rattle.std.specs.Int.{int_min, int_max}
use Rattle.t1_frac.specs.Fraction.{Fraction, floor_of, ceiling_of}
use Rattle.t1_afm.specs.declared.bbox.BBox.{BBox}
use Rattle.t1_afm.specs.declared.span.Span.{Span}
use Rattle.t1_afm.specs.Points.{cubic_at}
use Rattle.t1_afm.specs.Box.{least, greatest}

-- word: the least span of whole numbers around fractions of one axis
abbrev pub span_of : List Fraction → Span
span_of xs = record { low = least (map floor_of xs); high = greatest (map ceiling_of xs) }

-- word: the span around one fraction
abbrev pub span_around_one : Fraction → Span
span_around_one a = record { low = floor_of a; high = ceiling_of a }

-- word: the span around two spans
abbrev pub span_around : Span → Span → Span
span_around s t = record { low = int_min s.low t.low; high = int_max s.high t.high }

-- word: the box of a span along each axis
abbrev pub spans_box : Span → Span → BBox
spans_box x y = record { left = x.low; bottom = y.low; right = x.high; top = y.high }

-- word: the span around the four points of a cubic, along one axis
abbrev pub hull_of : Fraction → Fraction → Fraction → Fraction → Span
hull_of a b c d = span_around (span_of (a ∷ b ∷ [])) (span_of (c ∷ d ∷ []))

-- word: the span around a cubic's values at both ends
abbrev pub end_span : Fraction → Fraction → Fraction → Fraction → Span
end_span a b c d = span_around (span_around_one (cubic_at a b c d 0)) (span_around_one (cubic_at a b c d 64))
