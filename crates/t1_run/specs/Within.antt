-- What laws say of outlines and the limits of coordinates.
use Rattle.std.specs.Prelude.{◌≡◌, ℕ, List, All, Option, Some, Result, Ok, IfOk}
use Rattle.t1_frac.specs.declared.fault.Code.{Code}
use Rattle.t1_run.specs.declared.outline.Segment.{Segment}
use Rattle.t1_run.specs.State.{origin}
use Rattle.t1_run.specs.Run.{FontBodies, Drawing, own}
use Rattle.t1_run.specs.Composite.{moved_outline, outline, outline_within, IsWithin}

-- profile: moved by zero, the segments are refused by no limit and stay as they are
abbrev pub Stays : List Segment → Type 0
Stays segments = moved_outline origin segments ≡ Ok segments

-- profile: what a run draws, and a glyph's outline, are themselves when moved by zero
pub record DrawnWithinLaw : Type 0 where
  pub own_segments : (m : FontBodies) (g : List ℕ) (d : Drawing) → own m g ≡ Some (Ok d) → Stays d.segments
  pub outlines : (m : FontBodies) (g : List ℕ) (segments : List Segment) → outline m g ≡ Ok segments → Stays segments

-- ---- points within the limits

-- profile: what each run draws is what a glyph of some font draws; fonts may differ from name to name
abbrev pub AreRuns : (List ℕ → Option (Result Drawing Code)) → Type 0
AreRuns run = (g : List ℕ) (d : Drawing) → run g ≡ Some (Ok d) → (m : FontBodies) × ((h : List ℕ) × (own m h ≡ Some (Ok d)))

-- profile: an outline without a fault has its points within the limits, however deep composites may nest
pub record OutlinesWithinLaw : Type 0 where
  -- of a font
  pub of_font : (m : FontBodies) (depth : ℕ) (g : List ℕ) → IfOk (outline_within (own m) depth g) (All IsWithin)
  -- by runs that were kept
  pub of_runs : (run : List ℕ → Option (Result Drawing Code)) → AreRuns run → (depth : ℕ) (g : List ℕ) → IfOk (outline_within run depth g) (All IsWithin)
