-- What is kept of a run, and the ghost copy of it.
use Rattle.std.specs.Prelude.{◌≡◌, ◌||◌, ℕ, Bool, true, false, List, Option, Some, None, Result, Ok, Err, if◌then◌else◌}
use Rattle.std.specs.Borrow.{Bor}
use Rattle.t1_frac.specs.declared.fault.Code.{Code}
use Rattle.t1_code.specs.Encoding.{is_standard_name}
use Rattle.t1_run.specs.declared.outline.Segment.{Segment}
use Rattle.t1_run.specs.Run.{Drawing, NumberedRun}
use Rattle.t1_afm.specs.Box.{drawn_box}
use Rattle.t1_extent.specs.declared.kept_run.Shape.{Shape}
use Rattle.t1_extent.specs.declared.kept_run.Trace.{Trace}
use Rattle.t1_extent.specs.Extremes.{is_whole_outline}
use Rattle.t1_extent.specs.Figures.{IsWholeFigure}
use Rattle.t1_extent.specs.Reached.{IsReach}
use Rattle.t1_extent.specs.declared.kept_run.Shape.TheVariants as shapes
use Rattle.t1_extent.specs.declared.kept_run.Trace.TheVariants as moves
use Rattle.t1_extent.specs.Kept.{TracedRun, traces}

-- word: what is kept of the run of a glyph of this name: the trace of an outline that is whole, and of one that may be a part
abbrev pub kept_as : List ℕ → NumberedRun → TracedRun
kept_as name run =
    record { drawing = run.drawing; serial = run.serial; is_traced = is_whole_outline run.drawing.segments || is_standard_name name }

-- word: the segments of an outline whose coordinates aren't all whole, where its trace is kept
abbrev pub segments_kept : Bool → List Segment → Option (List Segment)
segments_kept is_traced outline = if is_whole_outline outline then None else (if is_traced then Some outline else None)

-- word: what memory holds of an outline: its figure where it is whole, else how far it reaches and its segments where its
-- trace is kept, and where it isn't, its box alone
abbrev pub IsShape : Shape → List Segment → Type 0
IsShape (shapes.Whole figure) outline = IsWholeFigure figure outline
IsShape (shapes.Mixed mixed) outline =
    (is_whole_outline outline ≡ false) × IsReach mixed.reached outline × (mixed.segments.items ≡ outline)
IsShape (shapes.Boxed bbox) outline = (is_whole_outline outline ≡ false) × (bbox ≡ drawn_box outline)

-- word: what moves of an outline need of it
abbrev pub IsTrace : Trace → List Segment → Type 0
IsTrace (moves.Whole figure) outline = IsWholeFigure figure outline
IsTrace (moves.Segments segments) outline = segments.now ≡ outline

-- word: what a run that is lent draws, or its fault
abbrev pub drawing_lent : Result (Bor TracedRun) Code → Result Drawing Code
drawing_lent (Ok run) = Ok run.now.drawing
drawing_lent (Err code) = Err code

-- word: the run that is lent of the glyph of this name keeps its trace, unless the glyph can't be a part
abbrev pub IsTraced : List ℕ → Option (Result (Bor TracedRun) Code) → Type 0
IsTraced name None = Unit {0}
IsTraced name (Some (Err code)) = Unit {0}
IsTraced name (Some (Ok run)) = traces name run.now ≡ true
