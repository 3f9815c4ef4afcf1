-- The records of a source from scratch.
use Rattle.std.specs.Prelude.{◌≡◌, ℕ, false, length, is_some, List, map, Some, Result, Ok, Err}
use Rattle.std.specs.List.{AllByRecursion, list_any}
use Rattle.std.specs.Str.{bytes_eq}
use Rattle.t1_frac.specs.declared.fault.Fault.{Fault}
use Rattle.t1_parts.specs.SourceParts.{SourceParts}
use Rattle.t1_run.specs.Run.{FontBodies, Key, own}
use Rattle.t1_font.specs.declared.glyph_metrics.GlyphMetrics.{GlyphMetrics}
use Rattle.t1_font.specs.Assembly.{file_check}
use Rattle.t1_font.specs.KeptBodies.{SameBodies}
use Rattle.t1_font.specs.Glyphs.{glyph_names}
use Rattle.t1_font.specs.Runs.{NamedRun as KeptRun, run_kept, drawing_in}
use Rattle.t1_cache.specs.declared.records.Records.{Records}
use Rattle.t1_cache.specs.Bodies.{record_bodies}
use Rattle.t1_cache.specs.Laws.{AreDistinct}
use Rattle.t1_cache.specs.Recorded.{RecordedGlyph, kept_of}
use Rattle.t1_cache.specs.Users.{lists}
use Rattle.t1_rerun.specs.Renewals.{HasBox, HasRun}

-- word: the names of what was measured
abbrev pub measured_names : List GlyphMetrics → List (List ℕ)
measured_names ms = map (λ m. m.name) ms

-- word: the glyphs that were measured are those that have a body, each once; each has its run, and the runs draw
-- what the bodies do
pub record AreMeasured (m : FontBodies) (runs : List KeptRun) (metrics : List GlyphMetrics) : Type 0 where
  pub distinct : AreDistinct (measured_names metrics)
  pub bodies : (g : List ℕ) → is_some (m.glyphs g) ≡ list_any (bytes_eq g) (measured_names metrics)
  pub each : AllByRecursion (HasRun runs) metrics
  pub draw : (g : List ℕ) → drawing_in runs g ≡ own m g

-- word: a record has the run that was kept, and the box that was measured
pub record IsRecorded (runs : List KeptRun) (metrics : List GlyphMetrics) (k : RecordedGlyph) : Type 0 where
  pub run : run_kept runs k.name ≡ Some (Ok k.run)
  pub box : HasBox metrics k.name k.box

-- word: the records of a font whose glyphs were measured, without users
pub record AreUnused (m : FontBodies) (runs : List KeptRun) (metrics : List GlyphMetrics) (records : Records) : Type 0 where
  pub compiled : SameBodies (record_bodies records) m
  pub users : (k : Key) (u : List ℕ) → lists records k u ≡ false
  pub order : map (λ k. k.name) (map kept_of records.glyphs.entries) ≡ measured_names metrics
  pub each : AllByRecursion (IsRecorded runs metrics) (map kept_of records.glyphs.entries)

-- word: one run for each of these names; none, where there is a fault
abbrev pub runs_where : Result (Unit {0}) Fault → List (List ℕ) → ℕ
runs_where (Ok checked) names = length names
runs_where (Err fault) names = 0

-- word: each glyph of a source is run once; none, where a body or the file has a fault
abbrev pub opening_runs : SourceParts → ℕ
opening_runs s = runs_where (file_check s) (glyph_names s.items)
