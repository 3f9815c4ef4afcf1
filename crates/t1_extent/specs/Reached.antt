-- How far outlines reach, and what a call says of them.
use Rattle.std.specs.Prelude.{◌≡◌, ℕ, ◌^◌, ◌≤◌, ◌⊎◌, ◌+ℤ◌, List, option_map, IfSome, Result, Ok, Err, true}
use Rattle.std.specs.Int.RustNames.{unsigned_abs}
use Rattle.t1_frac.specs.Outcome.{Refuses, reported_at}
use Rattle.t1_frac.specs.declared.fault.Code.{Code}
use Rattle.t1_frac.specs.declared.fault.Place.TheVariants.{Nowhere}
use Rattle.t1_frac.specs.declared.fault.Refusal.{Refusal}
use Rattle.t1_run.specs.declared.outline.Point.{Point}
use Rattle.t1_run.specs.declared.outline.Segment.{Segment}
use Rattle.t1_afm.specs.declared.bbox.BBox.{BBox}
use Rattle.t1_afm.specs.Box.{drawn_box}
use Rattle.t1_afm.specs.Points.{points}
use Rattle.t1_extent.specs.declared.reached.Drawn.{Drawn}
use Rattle.t1_extent.specs.declared.reached.Drawn.TheVariants.{Whole, Mixed}
use Rattle.t1_extent.specs.declared.reached.Reached.{Reached}
use Rattle.t1_extent.specs.Extremes.{corners, extremes, is_whole_outline, IsWhole}
use Rattle.t1_extent.specs.Exacts.{extremes_of, AreFine}
use Rattle.t1_extent.specs.Laws.{AreWithin}

-- word: how far the drawn points reach, exactly where all coordinates are whole, and else rounded
abbrev pub IsDrawnBy : Drawn → List Segment → Type 0
IsDrawnBy (Whole extent) outline =
    (is_whole_outline outline ≡ true) × (option_map extremes_of extent ≡ extremes (points outline)) × IfSome extent (AreFine (2 ^ 20))
IsDrawnBy (Mixed bbox) outline = bbox ≡ drawn_box outline

-- word: the drawn points' extremes are kept exactly
abbrev pub IsExact : Drawn → Type 0
IsExact (Whole extent) = Unit {0}
IsExact (Mixed bbox) = ⊥

-- word: exact extremes of whole coordinates have the denominator 1
abbrev pub grain_of : Drawn → ℕ
grain_of (Whole extent) = 1
grain_of (Mixed bbox) = 2 ^ 20

-- word: how far the drawn points reach, and the extremes of all points
pub record IsReach (reached : Reached) (outline : List Segment) : Type 0 where
  pub within : AreWithin outline
  pub drawn : IsDrawnBy reached.drawn outline
  pub corners : option_map extremes_of reached.corners ≡ extremes (corners outline)
  pub corners_fine : IfSome reached.corners (AreFine (grain_of reached.drawn))

-- word: the move is whole, or the outline's coordinates are
abbrev pub MovesReach : Point → Reached → Type 0
MovesReach by reached = IsWhole by ⊎ IsExact reached.drawn

-- word: the box's sides, moved, are small numbers
pub record IsNear (by : Point) (b : BBox) : Type 0 where
  pub left : unsigned_abs (b.left +ℤ by.x.num) ≤ 2 ^ 29
  pub bottom : unsigned_abs (b.bottom +ℤ by.y.num) ≤ 2 ^ 29
  pub right : unsigned_abs (b.right +ℤ by.x.num) ≤ 2 ^ 29
  pub top : unsigned_abs (b.top +ℤ by.y.num) ≤ 2 ^ 29

-- word: it is the reach of some outline
abbrev pub IsReachOfSome : Reached → Type 0
IsReachOfSome reached = (outline : List Segment) × IsReach reached outline

-- word: a call answers how far the outline reaches that a definition gives, or its fault, unless memory ran out
abbrev pub GivesReached : Result Reached Refusal → Result (List Segment) Code → Type 0
GivesReached (Ok reached) given = (outline : List Segment) × (given ≡ Ok outline) × IsReach reached outline
GivesReached (Err refused) given = Refuses refused (reported_at Nowhere given)

-- word: the same, of a call that takes no memory
abbrev pub ReportsAtOnce : Result Reached Code → Result (List Segment) Code → Type 0
ReportsAtOnce (Ok reached) given = (outline : List Segment) × (given ≡ Ok outline) × IsReach reached outline
ReportsAtOnce (Err code) given = given ≡ Err code
