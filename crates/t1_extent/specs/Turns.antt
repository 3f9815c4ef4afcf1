-- Outlines that are moved by several moves, one after another.
use Rattle.std.specs.Prelude.{List, [], ◌∷◌, Option, Result, Ok}
use Rattle.t1_frac.specs.declared.fault.Code.{Code}
use Rattle.t1_frac.specs.Outcome.{◌>>=◌}
use Rattle.t1_run.specs.declared.outline.Point.{Point}
use Rattle.t1_run.specs.declared.outline.Segment.{Segment}
use Rattle.t1_run.specs.Composite.{moved_point, moved_segment, moved_outline}
use Rattle.t1_afm.specs.declared.bbox.BBox.{BBox}
use Rattle.t1_afm.specs.Box.{drawn_box}

-- word: an outline moved by these in turn
abbrev pub in_turn : List Point → List Segment → Result (List Segment) Code
in_turn [] outline = Ok outline
in_turn (by ∷ moves) outline = moved_outline by outline >>= in_turn moves

-- word: the same, and then by a last move
abbrev pub through : List Point → Point → List Segment → Result (List Segment) Code
through [] last outline = moved_outline last outline
through (by ∷ moves) last outline = moved_outline by outline >>= through moves last

-- word: a segment moved by these in turn, and then by a last move
abbrev pub segment_through : List Point → Point → Segment → Result Segment Code
segment_through [] last segment = moved_segment last segment
segment_through (by ∷ moves) last segment = moved_segment by segment >>= segment_through moves last

-- word: so is a point
abbrev pub point_through : List Point → Point → Point → Result Point Code
point_through [] last point = moved_point last point
point_through (by ∷ moves) last point = moved_point by point >>= point_through moves last

-- ---- of outlines that are given, or their faults

-- word: an outline that is given, moved by these in turn
abbrev pub given_in_turn : List Point → Result (List Segment) Code → Result (List Segment) Code
given_in_turn moves given = given >>= in_turn moves

-- word: the same, and then by a last move
abbrev pub given_through : List Point → Point → Result (List Segment) Code → Result (List Segment) Code
given_through moves last given = given >>= through moves last

-- word: an outline that is given, moved once
abbrev pub given_moved : Point → Result (List Segment) Code → Result (List Segment) Code
given_moved by given = given >>= moved_outline by

-- AFM 4.1, B: the box of an outline that draws
abbrev pub given_box : Result (List Segment) Code → Result (Option BBox) Code
given_box given = given >>= (λ outline. Ok (drawn_box outline))
