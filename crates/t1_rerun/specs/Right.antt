-- What is kept of a source, and what edits make new of it.
use Rattle.std.specs.Prelude.{◌≡◌, ◌++◌, ◌&&◌, ◌||◌, ℕ, Bool, not, Ok, List, filter, map}
use Rattle.std.specs.List.{list_any}
use Rattle.std.specs.Str.{bytes_eq}
use Rattle.t1_parts.specs.SourceParts.{SourceParts}
use Rattle.t1_run.specs.Run.{FontBodies}
use Rattle.t1_font.specs.Assembly.{file_check}
use Rattle.t1_font.specs.Bodies.{bodies}
use Rattle.t1_font.specs.KeptBodies.{SameBodies}
use Rattle.t1_font.specs.Glyphs.{glyph_names}
use Rattle.t1_font.specs.declared.owned_key.OwnedKey.{OwnedKey}
use Rattle.t1_cache.specs.declared.records.Records.{Records}
use Rattle.t1_cache.specs.Bodies.{record_bodies}
use Rattle.t1_cache.specs.Edited.{IsEditedAt}
use Rattle.t1_cache.specs.Kept.{KeepsAll}
use Rattle.t1_cache.specs.Laws.{AreDistinct}
use Rattle.t1_cache.specs.Recorded.{kept_of}
use Rattle.t1_cache.specs.Tables.{AreTables}
use Rattle.t1_font.specs.OwnedKeys.{key_of}

-- word: the records are those of the source from scratch: the bodies of its Subrs and glyphs, its glyphs' runs and
-- boxes, and the users of each Subr and glyph
pub record IsRight (s : SourceParts) (records : Records) : Type 0 where
  pub compiled : SameBodies (record_bodies records) (bodies s.items)
  pub kept : KeepsAll s (map kept_of records.glyphs.entries)
  pub users : AreTables (bodies s.items) records

-- word: a source has a glyph of this name
abbrev pub has_glyph : SourceParts → List ℕ → Bool
has_glyph s g = list_any (bytes_eq g) (glyph_names s.items)

-- word: the glyphs of an edited source: those of the source before that are still there and weren't gone at any
-- time, in their order, then the others
abbrev pub IsInOrder : (List ℕ → Bool) → SourceParts → SourceParts → Type 0
IsInOrder gone old new =
    glyph_names new.items
    ≡ filter (λ g. has_glyph new g && not (gone g)) (glyph_names old.items) ++ filter (λ g. gone g || not (has_glyph old g)) (glyph_names new.items)

-- word: a source whose records are right was edited, and the edited one has its file: the bodies and the glyphs'
-- names of the edited one
pub record IsEdit (edits : List OwnedKey) (old new : SourceParts) (records : Records) (m : FontBodies) (glyphs : List (List ℕ)) : Type 0 where
  pub right : IsRight old records
  pub edited : IsEditedAt (map key_of edits) old new
  pub file : file_check new ≡ Ok tt
  pub bodies : SameBodies m (bodies new.items)
  pub names : glyphs ≡ glyph_names new.items
  pub distinct : AreDistinct (glyph_names new.items)
