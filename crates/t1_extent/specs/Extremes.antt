-- The exact extremes of an outline's points, from which its box is had after any move.
use Rattle.std.specs.Prelude.{◌^◌, ◌==◌, Bool, ◌&&◌, ◌||◌, if◌then◌else◌, List, [], ◌∷◌, map, flat_map, Option, Some, None, option_map, Result, Ok, Err, pos, ◌+ℤ◌, ◌*ℤ◌, ◌≡◌, ◌⊎◌}
use Rattle.std.specs.Int.RustNames.{int_lt}
use Rattle.std.specs.List.{reduce, list_all, AllByRecursion}
use Rattle.t1_frac.specs.Fraction.{Fraction, lowest, plus, floor_of, ceiling_of}
use Rattle.t1_frac.specs.Limits.{exceeds}
use Rattle.t1_frac.specs.declared.fault.Code.{Code}
use Rattle.t1_frac.specs.declared.fault.Code.TheVariants.{F40}
use Rattle.t1_run.specs.declared.outline.Point.{Point}
use Rattle.t1_run.specs.declared.outline.Segment.{Segment}
use Rattle.t1_run.specs.declared.outline.Segment.TheVariants.{Line, Curve}
use Rattle.t1_afm.specs.declared.bbox.BBox.{BBox}

-- word, fractions: by cross products
abbrev pub is_less : Fraction → Fraction → Bool
is_less a b = int_lt (a.num *ℤ pos b.den) (b.num *ℤ pos a.den)

-- word, fractions: the lesser of two; the first of equal ones
abbrev pub lesser : Fraction → Fraction → Fraction
lesser a b = if is_less b a then b else a

-- word, fractions: the greater of two; the first of equal ones
abbrev pub greater : Fraction → Fraction → Fraction
greater a b = if is_less a b then b else a

-- word: how far points reach, each side in lowest terms
pub record Extremes : Type 0 where
  pub left : Fraction
  pub bottom : Fraction
  pub right : Fraction
  pub top : Fraction

-- word: the extremes of one point
abbrev pub point_extremes : Point → Extremes
point_extremes p = record { left = lowest p.x; bottom = lowest p.y; right = lowest p.x; top = lowest p.y }

-- word: the extremes of two together
abbrev pub reaching : Extremes → Extremes → Extremes
reaching d e = record {
  left = lesser d.left e.left;
  bottom = lesser d.bottom e.bottom;
  right = greater d.right e.right;
  top = greater d.top e.top;
}

-- word: the same, where there may be none
abbrev pub unite_extremes : Option Extremes → Option Extremes → Option Extremes
unite_extremes None e = e
unite_extremes (Some d) None = Some d
unite_extremes (Some d) (Some e) = Some (reaching d e)

-- word: the extremes of points, where there are any
abbrev pub extremes : List Point → Option Extremes
extremes ps = reduce reaching (map point_extremes ps)

-- word: both ends of each line and curve, and the two points between those of a curve
abbrev pub corners_of : Segment → List Point
corners_of (Line start end) = start ∷ end ∷ []
corners_of (Curve start first second end) = start ∷ first ∷ second ∷ end ∷ []

-- word: these points of an outline, segment by segment
abbrev pub corners : List Segment → List Point
corners outline = flat_map corners_of outline

-- ---- boxes

-- AFM 4.1, B: the least box of whole numbers around extremes
abbrev pub rounded : Extremes → BBox
rounded e = record { left = floor_of e.left; bottom = floor_of e.bottom; right = ceiling_of e.right; top = ceiling_of e.top }

-- word: the same; 0 0 0 0 where there are no points
abbrev pub boxed : Option Extremes → BBox
boxed None = record { left = pos 0; bottom = pos 0; right = pos 0; top = pos 0 }
boxed (Some e) = rounded e

-- ---- moves

-- word, fractions: a coordinate moved, in lowest terms
abbrev pub shifted : Fraction → Fraction → Fraction
shifted by a = lowest (plus a by)

-- word, limits: the same, or F40 past the limit of coordinates
abbrev pub shift_checked : Fraction → Fraction → Result Fraction Code
shift_checked by a = if exceeds (2 ^ 20) (shifted by a) then Err F40 else Ok (shifted by a)

-- word: extremes moved as their points are, before they are rounded
abbrev pub shifted_by : Point → Extremes → Extremes
shifted_by by e = record {
  left = shifted by.x e.left;
  bottom = shifted by.y e.bottom;
  right = shifted by.x e.right;
  top = shifted by.y e.top;
}

-- word, limits: a side is past the limit
abbrev pub is_out : Extremes → Bool
is_out e = (exceeds (2 ^ 20) e.left || exceeds (2 ^ 20) e.right) || (exceeds (2 ^ 20) e.bottom || exceeds (2 ^ 20) e.top)

-- word, limits: F40 where extremes are past the limit of coordinates
abbrev pub limit_check : Option Extremes → Result (Unit {0}) Code
limit_check None = Ok tt
limit_check (Some e) = if is_out e then Err F40 else Ok tt

-- word, limits: F40 where moved extremes are
abbrev pub move_check : Point → Option Extremes → Result (Unit {0}) Code
move_check by e = limit_check (option_map (shifted_by by) e)

-- word: a box moved by a whole distance
abbrev pub moved_box : Point → BBox → BBox
moved_box by b = record { left = b.left +ℤ by.x.num; bottom = b.bottom +ℤ by.y.num; right = b.right +ℤ by.x.num; top = b.top +ℤ by.y.num }

-- ---- whole coordinates

-- word: both coordinates of a point are whole
pub record IsWhole (p : Point) : Type 0 where
  pub x : p.x.den ≡ 1
  pub y : p.y.den ≡ 1

-- word: the move is whole, or all points are
abbrev pub MovesEasily : Point → List Segment → Type 0
MovesEasily by outline = IsWhole by ⊎ AllByRecursion IsWhole (corners outline)

-- word: each coordinate of the segment is whole
abbrev pub IsWholeSegment : Segment → Type 0
IsWholeSegment (Line start end) = IsWhole start × IsWhole end
IsWholeSegment (Curve start first second end) = IsWhole start × IsWhole first × IsWhole second × IsWhole end

-- word: whether both coordinates of a point are whole
abbrev pub is_whole_point : Point → Bool
is_whole_point p = (p.x.den == 1) && (p.y.den == 1)

-- word: whether each coordinate of a segment is
abbrev pub is_whole_segment : Segment → Bool
is_whole_segment (Line start end) = is_whole_point start && is_whole_point end
is_whole_segment (Curve start first second end) = is_whole_point start && is_whole_point first && is_whole_point second && is_whole_point end

-- word: whether each coordinate of an outline is
abbrev pub is_whole_outline : List Segment → Bool
is_whole_outline outline = list_all is_whole_segment outline
