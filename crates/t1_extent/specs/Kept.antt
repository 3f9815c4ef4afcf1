-- What is kept of a glyph's run in place of its segments.
use Rattle.std.specs.Prelude.{◌||◌, not, ℕ, Bool, true, false, List}
use Rattle.t1_code.specs.Encoding.{is_standard_name}
use Rattle.t1_run.specs.Run.{Drawing}
use Rattle.t1_extent.specs.declared.kept_run.Shape.{Shape}
use Rattle.t1_extent.specs.declared.kept_run.Shape.TheVariants as shapes

-- profile: a run with its number among the runs, and whether moves of what it draws may be asked for: its trace is kept
pub record TracedRun : Type 0 where
  pub drawing : Drawing
  pub serial : ℕ
  pub is_traced : Bool

-- profile: the trace of the run is kept, unless its glyph can't be a part
abbrev pub traces : List ℕ → TracedRun → Bool
traces name run = not (is_standard_name name) || run.is_traced

-- profile: the outline's trace is kept
abbrev pub has_trace : Shape → Bool
has_trace (shapes.Whole figure) = true
has_trace (shapes.Mixed mixed) = true
has_trace (shapes.Boxed bbox) = false
