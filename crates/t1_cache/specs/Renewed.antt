-- Records of glyphs, their users aside, found by name and renewed in their places.
use Rattle.std.specs.Prelude.{ℕ, List, [], ◌∷◌, map, Option, Some, None, Result, Ok, if◌then◌else◌}
use Rattle.std.specs.List.{find}
use Rattle.std.specs.Map.{lookup}
use Rattle.std.specs.Option.{option_map}
use Rattle.std.specs.Str.{bytes_eq}
use Rattle.std.specs.declared.alloc.Global.{Global}
use Rattle.std.specs.declared.vec.Vec.{Vec}
use Rattle.t1_frac.specs.declared.fault.Code.{Code}
use Rattle.t1_run.specs.Run.{Drawing}
use Rattle.t1_extent.specs.Kept.{TracedRun}
use Rattle.t1_afm.specs.declared.bbox.BBox.{BBox}
use Rattle.t1_cache.specs.declared.records.GlyphRecord.{GlyphRecord}
use Rattle.t1_cache.specs.declared.records.NewRun.{NewRun}
use Rattle.t1_cache.specs.declared.records.Records.{Records}
use Rattle.t1_cache.specs.declared.records.Rerun.{Rerun}
use Rattle.t1_cache.specs.Recorded.{RecordedGlyph}

-- word: the record of a glyph, its body and users aside
abbrev pub kept : List ℕ → TracedRun → Option BBox → RecordedGlyph
kept name run box = record { name = name; run = run; box = box }

-- word: the names of the glyphs that have a record
abbrev pub names_of : List (Vec ℕ Global × GlyphRecord) → List (List ℕ)
names_of entries = map (λ e. e.0.items) entries

-- word: the record of the glyph of this name
abbrev pub record_of : List (Vec ℕ Global × GlyphRecord) → List ℕ → Option GlyphRecord
record_of entries g = lookup (λ key. bytes_eq g key.items) entries

-- word: what the run of a glyph's record draws
abbrev pub recorded_run : Records → List ℕ → Option (Result Drawing Code)
recorded_run records g = option_map (λ r. Ok r.run.drawing) (record_of records.glyphs.entries g)

-- word: the record of this name has another run and box, in its place
abbrev pub with_run : List ℕ → TracedRun → Option BBox → List RecordedGlyph → List RecordedGlyph
with_run name run box [] = []
with_run name run box (k ∷ kept) = if bytes_eq name k.name then record { name = k.name; run = run; box = box } ∷ kept else k ∷ with_run name run box kept

-- word: the first rerun of the glyph of this name
abbrev pub rerun_of : List Rerun → List ℕ → Option Rerun
rerun_of reruns g = find (λ r. bytes_eq g r.name.items) reruns

-- word: a record with the run and box of a rerun, where there is one
abbrev pub with_rerun : Option Rerun → RecordedGlyph → RecordedGlyph
with_rerun None k = k
with_rerun (Some r) k = record { name = k.name; run = r.run; box = r.bbox }

-- word: the records of the glyphs that were run again have their new runs and boxes; the others stay
abbrev pub with_reruns : List Rerun → List RecordedGlyph → List RecordedGlyph
with_reruns reruns kept = map (λ k. with_rerun (rerun_of reruns k.name) k) kept

-- word: new runs by name, as reruns
abbrev pub rerun_by_name : Vec ℕ Global × NewRun → Rerun
rerun_by_name e = record { name = e.0; run = e.1.run; bbox = e.1.bbox }

-- word: the same, of all of them
abbrev pub reruns_by_name : List (Vec ℕ Global × NewRun) → List Rerun
reruns_by_name entries = map rerun_by_name entries
