-- The records of a source, renewed after an edit.
use Rattle.std.specs.Prelude.{◌≡◌, ℕ, ℤ, pos, negsuc, true, false, nat_le, if◌then◌else◌, List, Option, Some, None, Ok}
use Rattle.t1_parts.specs.SourceParts.{SourceParts}
use Rattle.t1_source.specs.declared.edit.Edit.{Edit}
use Rattle.t1_source.specs.declared.edit.Edit.TheVariants.{ReplaceGlyph, AddGlyph, RemoveGlyph, ReplaceSubr, AddSubr, RemoveSubr}
use Rattle.t1_pairs.specs.declared.pairs.Pair.{Pair}
use Rattle.t1_source.specs.Editing.{edited}
use Rattle.t1_source.specs.WellFormed.{IsWellFormed}
use Rattle.t1_run.specs.Run.{Key, Subr, Glyph}
use Rattle.t1_cache.specs.declared.records.Records.{Records}
use Rattle.t1_cache.specs.Edited.{is_stale}
use Rattle.t1_cache.specs.Recorded.{IsOneOf, RecordedGlyph}
use Rattle.t1_rerun.specs.RunNumbers.{IsRunAfter}
use Rattle.t1_rerun.specs.Right.{IsRight}

-- word: the records are right for a source of which an edit made this one
pub record IsEdited (records : Records) (edit : Edit) (new : SourceParts) : Type 0 where
  pub old : SourceParts
  pub pairs : List Pair
  pub made_pairs : List Pair
  pub right : IsRight old records
  pub well : IsWellFormed old
  pub well_made : IsWellFormed new
  pub made : edited old pairs edit ≡ Ok (new, made_pairs)

-- word: the key of a Subr whose number has 16 bits
abbrev pub number_key : ℤ → Option Key
number_key (pos n) = if nat_le n 65535 then Some (Subr n) else None
number_key (negsuc n) = None

-- word: the key of the entry that an edit names
abbrev pub entry_key : Edit → Option Key
entry_key (ReplaceGlyph g body) = Some (Glyph g)
entry_key (AddGlyph g body) = Some (Glyph g)
entry_key (RemoveGlyph g) = Some (Glyph g)
entry_key (ReplaceSubr n body) = number_key n
entry_key (AddSubr n body) = number_key n
entry_key (RemoveSubr n) = number_key n
entry_key _ = None

-- word: a glyph that edits at these keys make stale has a run after this count, and each other glyph what was kept of it
pub record IsRunWhereStale (count : ℕ) (keys : List Key) (old : SourceParts) (kept : List RecordedGlyph) (k : RecordedGlyph) : Type 0 where
  pub stale : is_stale old keys k.name ≡ true → IsRunAfter count k
  pub fresh : is_stale old keys k.name ≡ false → IsOneOf kept k
