-- What is kept of a source's glyphs.
use Rattle.std.specs.Prelude.{◌≡◌, ℕ, Bool, true, List, map, Option, Ok}
use Rattle.std.specs.List.{list_all}
use Rattle.t1_parts.specs.SourceParts.{SourceParts}
use Rattle.t1_run.specs.Run.{Drawing, own}
use Rattle.t1_afm.specs.declared.bbox.BBox.{BBox}
use Rattle.t1_afm.specs.Box.{drawn_box}
use Rattle.t1_extent.specs.Kept.{traces}
use Rattle.t1_font.specs.Bodies.{bodies}
use Rattle.t1_font.specs.Glyphs.{Glyph as Reported, glyph_names}
use Rattle.t1_font.specs.SourceChecks.{source_glyphs}
use Rattle.t1_cache.specs.declared.records.Records.{Records}
use Rattle.t1_cache.specs.Renewed.{recorded_run}
use Rattle.t1_cache.specs.Recorded.{RecordedGlyph, kept_of}

-- word: a record, its serial aside
pub record Shown : Type 0 where
  pub name : List ℕ
  pub drawing : Drawing
  pub keeps_trace : Bool
  pub box : Option BBox

-- word: what is kept, its serial aside
abbrev pub without_serial : RecordedGlyph → Shown
without_serial k = record { name = k.name; drawing = k.run.drawing; keeps_trace = traces k.name k.run; box = k.box }

-- word: the same, of a glyph from scratch, whose trace is kept unless it can't be a part
abbrev pub shown_from : Reported → Shown
shown_from g = record { name = g.name; drawing = g.drawing; keeps_trace = true; box = drawn_box g.outline }

-- word: the source has no fault, and the records are those of its glyphs from scratch, in source order
pub record KeepsAll (s : SourceParts) (records : List RecordedGlyph) : Type 0 where
  pub glyphs : List Reported
  pub faultless : source_glyphs s ≡ Ok glyphs
  pub from_scratch : map without_serial records ≡ map shown_from glyphs

-- word: the run of each record keeps its trace, unless its glyph can't be a part
abbrev pub keep_traces : Records → Bool
keep_traces records = list_all (λ (k : RecordedGlyph). traces k.name k.run) (map kept_of records.glyphs.entries)

-- word: the records bear the names of the glyphs, in source order
abbrev pub KeptNamesLaw : Type 0
KeptNamesLaw = (s : SourceParts) (records : List RecordedGlyph) → KeepsAll s records → map (λ k. k.name) records ≡ glyph_names s.items

-- word: the records of a source have the own runs of its font
abbrev pub RecordedLaw : Type 0
RecordedLaw =
    (s : SourceParts) (records : Records) → KeepsAll s (map kept_of records.glyphs.entries) → (g : List ℕ) → recorded_run records g ≡ own (bodies s.items) g
