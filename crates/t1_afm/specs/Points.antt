-- The points over which an outline's box is taken.
use Rattle.std.specs.Prelude.{ℕ, ◌-◌, ◌*◌, List, [], ◌∷◌, map, flat_map, pos, ◌*ℤ◌}
use Rattle.std.specs.List.{range_with_len}
use Rattle.t1_frac.specs.Fraction.{Fraction, plus}
use Rattle.t1_run.specs.declared.outline.Point.{Point}
use Rattle.t1_run.specs.declared.outline.Segment.{Segment}
use Rattle.t1_run.specs.declared.outline.Segment.TheVariants.{Line, Curve}

-- profile: n times a
abbrev pub times : ℕ → Fraction → Fraction
times n a = record { num = pos n *ℤ a.num; den = a.den }

-- profile: a over n
abbrev pub over_whole : ℕ → Fraction → Fraction
over_whole n a = record { num = a.num; den = n * a.den }

-- profile: the sum of four fractions with weights
abbrev pub weighted : ℕ → ℕ → ℕ → ℕ → Fraction → Fraction → Fraction → Fraction → Fraction
weighted u v w x a b c d = plus (plus (times u a) (times v b)) (plus (times w c) (times x d))

-- Type 1 Font Format, Chapter 6, rrcurveto: a Bézier cubic at k/64, by its Bernstein sum over 64^3; j is 64 - k
abbrev pub bernstein : ℕ → ℕ → Fraction → Fraction → Fraction → Fraction → Fraction
bernstein j k a b c d = over_whole 262144 (weighted (j * j * j) (3 * j * j * k) (3 * j * k * k) (k * k * k) a b c d)

-- profile: a cubic at k/64
abbrev pub cubic_at : Fraction → Fraction → Fraction → Fraction → ℕ → Fraction
cubic_at a b c d k = bernstein (64 - k) k a b c d

-- profile: the numbers from 0 to 64
unfoldable pub sixty_fourths : List ℕ
sixty_fourths = range_with_len 0 65

-- profile: the point of a curve at k/64, each coordinate by its cubic
abbrev pub curve_at : Point → Point → Point → Point → ℕ → Point
curve_at a b c d k = record { x = cubic_at a.x b.x c.x d.x k; y = cubic_at a.y b.y c.y d.y k }

-- profile: both ends of a line; the 65 points of a curve
abbrev pub points_of : Segment → List Point
points_of (Line start end) = start ∷ end ∷ []
points_of (Curve start first second end) = map (curve_at start first second end) sixty_fourths

-- profile: the points of an outline, segment by segment
abbrev pub points : List Segment → List Point
points outline = flat_map points_of outline
