-- What is recorded of a glyph.
use Rattle.std.specs.Prelude.{ℕ, List, Option, ◌≡◌, ◌⊎◌, true, [], ◌∷◌, Some, Ok}
use Rattle.std.specs.declared.alloc.Global.{Global}
use Rattle.std.specs.declared.vec.Vec.{Vec}
use Rattle.t1_extent.specs.Kept.{TracedRun, traces}
use Rattle.t1_afm.specs.declared.bbox.BBox.{BBox}
use Rattle.t1_afm.specs.Box.{drawn_box}
use Rattle.t1_cache.specs.declared.records.GlyphRecord.{GlyphRecord}
use Rattle.t1_run.specs.declared.outline.Segment.{Segment}
use Rattle.t1_run.specs.Run.{FontBodies, own}
use Rattle.t1_run.specs.Composite.{outline}

-- profile: a glyph's own run, and the box of its outline where it draws
pub record RecordedGlyph : Type 0 where
  pub name : List ℕ
  pub run : TracedRun
  pub box : Option BBox

-- profile: the same, of an entry of the table
abbrev pub kept_of : Vec ℕ Global × GlyphRecord → RecordedGlyph
kept_of e = record { name = e.0.items; run = e.1.run; box = e.1.bbox }

-- profile: a record of a glyph from scratch: what its own run draws, with the trace of it unless the glyph can't be a part, and
-- the box of its outline
pub record IsFromScratch (m : FontBodies) (k : RecordedGlyph) : Type 0 where
  pub segments : List Segment
  pub run : own m k.name ≡ Some (Ok k.run.drawing)
  pub trace : traces k.name k.run ≡ true
  pub draws : outline m k.name ≡ Ok segments
  pub box : k.box ≡ drawn_box segments

-- profile: a record is one of these
abbrev pub IsOneOf : List RecordedGlyph → RecordedGlyph → Type 0
IsOneOf [] k = ⊥
IsOneOf (x ∷ xs) k = (x ≡ k) ⊎ IsOneOf xs k
