-- The records that contracts see are those of the source from scratch.
use Rattle.std.proofs.Common.{map}
use Rattle.t1_parts.specs.SourceParts.{SourceParts}
use Rattle.t1_font.specs.Bodies.{bodies}
use Rattle.t1_font.specs.Glyphs.{glyph_names}
use Rattle.t1_cache.specs.declared.records.Records.{Records}
use Rattle.t1_cache.specs.Recorded.{kept_of}
use Rattle.t1_cache.proofs.Renewing.{glyphs-of, names_kept, scratch-all}
use Rattle.t1_rerun.specs.Right.{IsRight}
use Rattle.t1_held.proofs.HeldLaws.{right_checked}
use Rattle.t1_session.specs.Records.{AreFromScratch}

pub records_right : (s : SourceParts) (records : Records) → IsRight s records → AreFromScratch s (map kept_of records.glyphs.entries)
records_right s records right = record {
  faultless = right_checked s records right;
  names = names_kept s (map kept_of records.glyphs.entries) right.kept;
  from_scratch =
      scratch-all (bodies s.items) (glyph_names s.items) right.kept.glyphs (map kept_of records.glyphs.entries)
      (glyphs-of s right.kept.glyphs right.kept.faultless) right.kept.from_scratch;
}
