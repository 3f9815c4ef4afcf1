-- The records of a session's glyphs, as contracts see them.
use Rattle.std.specs.Prelude.{◌≡◌, List, Ok, map}
use Rattle.std.specs.List.{AllByRecursion}
use Rattle.t1_parts.specs.SourceParts.{SourceParts}
use Rattle.t1_font.specs.Bodies.{bodies}
use Rattle.t1_font.specs.Glyphs.{glyph_names}
use Rattle.t1_font.specs.SourceChecks.{source_check}
use Rattle.t1_cache.specs.Recorded.{IsFromScratch, RecordedGlyph}

-- profile: the source has no fault, and there is a record of each of its glyphs, in the order of their entries, from scratch
pub record AreFromScratch (s : SourceParts) (records : List RecordedGlyph) : Type 0 where
  pub faultless : source_check s ≡ Ok tt
  pub names : map (λ k. k.name) records ≡ glyph_names s.items
  pub from_scratch : AllByRecursion (IsFromScratch (bodies s.items)) records
