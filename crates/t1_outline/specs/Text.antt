-- The text of an outline.
use Rattle.std.specs.Prelude.{ℕ, Bool, false, ◌&&◌, ◌==◌, if◌then◌else◌, List, [], ◌∷◌, ◌++◌, flat_map, Option, Some, None, codes, decimal}
use Rattle.std.specs.Fmt.{signed_decimal}
use Rattle.std.specs.Ordering.{is_eq}
use Rattle.t1_frac.specs.Ascii.{slash, space}
use Rattle.t1_frac.specs.Fraction.{Fraction, compared}
use Rattle.t1_text.specs.Lines.{joined}
use Rattle.t1_run.specs.declared.outline.Point.{Point}
use Rattle.t1_run.specs.declared.outline.Segment.{Segment}
use Rattle.t1_run.specs.declared.outline.Segment.TheVariants.{Line, Curve}

-- profile, outlines: a coordinate in character space units, exact: `5`, or `5/2`
abbrev pub coordinate_text : Fraction → List ℕ
coordinate_text c = signed_decimal c.num ++ (if c.den == 1 then [] else slash ∷ decimal c.den)

-- profile, outlines: a point's two coordinates, each after a space
abbrev pub point_text : Point → List ℕ
point_text p = space ∷ coordinate_text p.x ++ space ∷ coordinate_text p.y

-- profile, outlines: a line: its letter and its points
abbrev pub outline_line : List ℕ → List Point → List ℕ
outline_line letter points = letter ++ flat_map point_text points

-- profile, outlines: the point at which a segment begins
abbrev pub start_of : Segment → Point
start_of (Line start end) = start
start_of (Curve start first second end) = start

-- profile, outlines: the point at which a segment ends
abbrev pub end_of : Segment → Point
end_of (Line start end) = end
end_of (Curve start first second end) = end

-- profile, outlines: both are the same point
abbrev pub is_same_point : Point → Point → Bool
is_same_point p q = is_eq (compared p.x q.x) && is_eq (compared p.y q.y)

-- profile, outlines: a segment that begins here goes on where the last one ended; the first segment goes on from none
abbrev pub segment_goes_on : Option Point → Point → Bool
segment_goes_on None start = false
segment_goes_on (Some ended) start = is_same_point ended start

-- profile, outlines: `M x y` where a segment doesn't begin where the last one ended
abbrev pub move_lines : Option Point → Point → List (List ℕ)
move_lines ended start = if segment_goes_on ended start then [] else outline_line (codes "M") (start ∷ []) ∷ []

-- profile, outlines: `L x y` for a line to there, `C x y x y x y` for a curve by its two control points to its end
abbrev pub drawn_line : Segment → List ℕ
drawn_line (Line start end) = outline_line (codes "L") (end ∷ [])
drawn_line (Curve start first second end) = outline_line (codes "C") (first ∷ second ∷ end ∷ [])

-- profile, outlines: the lines of a segment, after one that ended there
abbrev pub segment_lines : Option Point → Segment → List (List ℕ)
segment_lines ended segment = move_lines ended (start_of segment) ++ drawn_line segment ∷ []

-- profile, outlines: the lines of these segments, after one that ended there
abbrev pub lines_after : Option Point → List Segment → List (List ℕ)
lines_after ended [] = []
lines_after ended (segment ∷ segments) = segment_lines ended segment ++ lines_after (Some (end_of segment)) segments

-- profile, outlines: the text of an outline, a line for each segment and for each move
unfoldable pub outline_text : List Segment → List ℕ
outline_text segments = joined (lines_after None segments)
