-- What edits make new of the glyphs that they make stale.
use Rattle.std.specs.Prelude.{◌≡◌, ◌≤◌, ◌⊎◌, ℕ, Bool, List, [], ◌∷◌, map, Option, Some, None, Result, Ok, Err}
use Rattle.std.specs.List.{AllByRecursion, list_any}
use Rattle.std.specs.Str.{bytes_eq}
use Rattle.t1_frac.specs.declared.fault.Code.{Code}
use Rattle.t1_parts.specs.SourceParts.{SourceParts}
use Rattle.t1_run.specs.Run.{Key}
use Rattle.t1_extent.specs.Kept.{TracedRun}
use Rattle.t1_afm.specs.declared.bbox.BBox.{BBox}
use Rattle.t1_font.specs.declared.glyph_metrics.GlyphMetrics.{GlyphMetrics}
use Rattle.t1_font.specs.Bodies.{bodies}
use Rattle.t1_font.specs.Runs.{NamedRun as KeptRun, run_kept}
use Rattle.t1_font.specs.RunCounts.{counted}
use Rattle.t1_cache.specs.declared.records.Rerun.{Rerun}
use Rattle.t1_cache.specs.Edited.{stale}
use Rattle.t1_cache.specs.Joins.{AreLeaves}
use Rattle.t1_cache.specs.Renewal.{kept_by}
use Rattle.t1_cache.specs.Recorded.{IsFromScratch}
use Rattle.t1_run.specs.Touched.{AreStale}
use Rattle.t1_rerun.specs.declared.changing.Renewal.{Renewal}

-- word: the names of the glyphs that were run again
abbrev pub rerun_names : List Rerun → List (List ℕ)
rerun_names rs = map (λ r. r.name.items) rs

-- word: a run's number is after this count
abbrev pub IsLater : ℕ → Rerun → Type 0
IsLater count r = counted count 1 ≤ r.run.serial

-- word: the box of the glyph of this name, among what was measured
abbrev pub HasBox : List GlyphMetrics → List ℕ → Option BBox → Type 0
HasBox [] g box = ⊥
HasBox (m ∷ ms) g box = ((m.name ≡ g) × (m.bbox ≡ box)) ⊎ HasBox ms g box

-- word: a run that is kept, where it has no fault
abbrev pub run_in : Option (Result TracedRun Code) → Option TracedRun
run_in None = None
run_in (Some (Err code)) = None
run_in (Some (Ok run)) = Some run

-- word: the run of the glyph is kept, and has no fault
abbrev pub HasRun : List KeptRun → GlyphMetrics → Type 0
HasRun runs m = (run : TracedRun) × (run_kept runs m.name ≡ Some (Ok run))

-- word: a rerun is a run that was kept, with the box that was measured
pub record IsMeasuredRerun (runs : List KeptRun) (metrics : List GlyphMetrics) (r : Rerun) : Type 0 where
  pub run : run_kept runs r.name.items ≡ Some (Ok r.run)
  pub box : HasBox metrics r.name.items r.bbox

-- word: what edits at these keys make new: the run and the box of each stale glyph, each from scratch; and which
-- glyphs leave and join the users of what the old runs and the new ones use
pub record IsRenewal (keys : List Key) (old new : SourceParts) (renewal : Renewal) : Type 0 where
  pub found : List ℕ → Bool
  pub reached : AreStale (bodies old.items) keys found
  pub scratch : AllByRecursion (IsFromScratch (bodies new.items)) (map kept_by renewal.reruns.items)
  pub names : (g : List ℕ) → list_any (bytes_eq g) (rerun_names renewal.reruns.items) ≡ list_any (bytes_eq g) (stale old keys new)
  pub leaves : AreLeaves (bodies old.items) found renewal.leaves.items
  pub joins : AreLeaves (bodies new.items) found renewal.joins.items
