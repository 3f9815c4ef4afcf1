-- The points of an outline that its curves start and end in, and those that its curves pass.
use Rattle.std.specs.Prelude.{List, [], ◌∷◌, flat_map}
use Rattle.t1_run.specs.declared.outline.Point.{Point}
use Rattle.t1_run.specs.declared.outline.Segment.{Segment}
use Rattle.t1_run.specs.declared.outline.Segment.TheVariants.{Line, Curve}
use Rattle.t1_afm.specs.Points.{points_of}

-- word: both ends of a line or a curve
abbrev pub ends_of : Segment → List Point
ends_of (Line start end) = start ∷ end ∷ []
ends_of (Curve start first second end) = start ∷ end ∷ []

-- word: these points of an outline, segment by segment
abbrev pub ends : List Segment → List Point
ends outline = flat_map ends_of outline

-- word: the 65 points of a curve; none of a line
abbrev pub bends_of : Segment → List Point
bends_of (Line start end) = []
bends_of (Curve start first second end) = points_of (Curve start first second end)

-- word: these points of an outline, curve by curve
abbrev pub bends : List Segment → List Point
bends outline = flat_map bends_of outline

-- word: the two points between the ends of a curve; none of a line
abbrev pub inner_of : Segment → List Point
inner_of (Line start end) = []
inner_of (Curve start first second end) = first ∷ second ∷ []

-- word: these points of an outline, curve by curve
abbrev pub inner : List Segment → List Point
inner outline = flat_map inner_of outline
