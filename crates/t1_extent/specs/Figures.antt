-- Outlines whose coordinates are all whole, by their first point and their extremes.
use Rattle.std.specs.Prelude.{◌≡◌, ◌^◌, ◌≤◌, List, [], ◌∷◌, Option, Some, None, true}
use Rattle.t1_frac.specs.Fraction.{minus}
use Rattle.t1_run.specs.declared.outline.Point.{Point}
use Rattle.t1_run.specs.declared.outline.Segment.{Segment}
use Rattle.t1_run.specs.declared.outline.Segment.TheVariants.{Line, Curve}
use Rattle.t1_afm.specs.Points.{points}
use Rattle.t1_extent.specs.declared.distance.Distance.{Distance}
use Rattle.t1_extent.specs.declared.figure.Figure.{Figure}
use Rattle.t1_extent.specs.Extremes.{corners, extremes, is_whole_outline}
use Rattle.t1_extent.specs.Laws.{AreWithin}
use Rattle.t1_extent.specs.Exacts.{kept_number, extremes_of}

-- word: where an outline starts
abbrev pub first_point : List Segment → Option Point
first_point [] = None
first_point (Line start end ∷ outline) = Some start
first_point (Curve start first second end ∷ outline) = Some start

-- word: how far a point is moved from one place to another
abbrev pub apart : Point → Point → Point
apart from to = record { x = minus to.x from.x; y = minus to.y from.y }

-- word: the distance, as a pair of fractions
abbrev pub distance_of : Distance → Point
distance_of d = record { x = kept_number d.x; y = kept_number d.y }

-- word: both denominators are those of a run
pub record IsFineDistance (d : Distance) : Type 0 where
  pub x : d.x.den ≤ 2 ^ 20
  pub y : d.y.den ≤ 2 ^ 20

-- word: an outline's first point, the extremes of its drawn points, and those of all its points
pub record IsFigure (figure : Figure) (outline : List Segment) : Type 0 where
  pub start : first_point outline ≡ Some figure.start
  pub drawn : extremes (points outline) ≡ Some (extremes_of figure.drawn)
  pub corners : extremes (corners outline) ≡ Some (extremes_of figure.corners)

-- word: the same, where the outline draws
abbrev pub IsFigureOf : Option Figure → List Segment → Type 0
IsFigureOf None outline = outline ≡ []
IsFigureOf (Some figure) outline = IsFigure figure outline

-- word: an outline within the limits whose coordinates are all whole, and its figure
pub record IsWholeFigure (figure : Option Figure) (outline : List Segment) : Type 0 where
  pub within : AreWithin outline
  pub whole : is_whole_outline outline ≡ true
  pub reported : IsFigureOf figure outline
