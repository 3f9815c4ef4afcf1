-- The records of an edited font.
use Rattle.std.specs.Prelude.{◌≡◌, ℕ, true, false, not, List, [], ◌∷◌, ◌++◌, filter, map, Option, Ok}
use Rattle.std.specs.List.{AllByRecursion, list_any}
use Rattle.std.specs.Str.{bytes_eq}
use Rattle.t1_parts.specs.SourceParts.{SourceParts}
use Rattle.t1_run.specs.Run.{Key}
use Rattle.t1_extent.specs.Kept.{TracedRun}
use Rattle.t1_source.specs.declared.edit.Edit.{Edit}
use Rattle.t1_source.specs.declared.edit.Edit.TheVariants.{AddGlyph, RemoveGlyph}
use Rattle.t1_pairs.specs.declared.pairs.Pair.{Pair}
use Rattle.t1_source.specs.Editing.{edited}
use Rattle.t1_source.specs.WellFormed.{IsWellFormed}
use Rattle.t1_afm.specs.declared.bbox.BBox.{BBox}
use Rattle.t1_font.specs.Bodies.{bodies}
use Rattle.t1_font.specs.Glyphs.{Glyph as Reported, glyph_names}
use Rattle.t1_font.specs.SourceChecks.{source_glyphs}
use Rattle.t1_cache.specs.Edited.{IsEditedAt, is_stale}
use Rattle.t1_cache.specs.EditKeys.{named}
use Rattle.t1_cache.specs.Kept.{KeepsAll}
use Rattle.t1_cache.specs.declared.records.Rerun.{Rerun}
use Rattle.t1_cache.specs.Renewed.{with_reruns}
use Rattle.t1_cache.specs.Recorded.{RecordedGlyph, IsFromScratch, IsOneOf}
use Rattle.t1_cache.specs.Users.{is_name_among}

-- word: a record of a stale glyph is from scratch, and another is one that was kept
pub record IsRenewed (keys : List Key) (old new : SourceParts) (kept : List RecordedGlyph) (k : RecordedGlyph) : Type 0 where
  pub stale : is_stale old keys k.name ≡ true → IsFromScratch (bodies new.items) k
  pub fresh : is_stale old keys k.name ≡ false → IsOneOf kept k

-- word: records in the order of the new names, each renewed where it is stale and kept else, are those of the edited
-- source, where it has no fault
abbrev pub RenewalLaw : Type 0
RenewalLaw =
    (keys : List Key) (old new : SourceParts) → IsEditedAt keys old new → (reported : List Reported) → source_glyphs new ≡ Ok reported
    → (kept records : List RecordedGlyph) → KeepsAll old kept → map (λ k. k.name) records ≡ glyph_names new.items
    → AllByRecursion (IsRenewed keys old new kept) records → KeepsAll new records

-- word: what a rerun puts into the record of its glyph
abbrev pub kept_by : Rerun → RecordedGlyph
kept_by r = record { name = r.name.items; run = r.run; box = r.bbox }

-- word: records in the order of the new names, those kept where they are fresh, of which the stale glyphs were run
-- again, are those of the edited source, where it has no fault
abbrev pub RerunsLaw : Type 0
RerunsLaw =
    (keys : List Key) (old new : SourceParts) → IsEditedAt keys old new → (reported : List Reported) → source_glyphs new ≡ Ok reported
    → (kept before : List RecordedGlyph) (reruns : List Rerun) → KeepsAll old kept → map (λ k. k.name) before ≡ glyph_names new.items
    → AllByRecursion (λ k. is_stale old keys k.name ≡ false → IsOneOf kept k) before
    → AllByRecursion (λ r. IsFromScratch (bodies new.items) (kept_by r)) reruns
    → ((g : List ℕ) → list_any (bytes_eq g) (glyph_names new.items) ≡ true → is_name_among (λ r. r.name.items) reruns g ≡ is_stale old keys g)
    → KeepsAll new (with_reruns reruns before)

-- word: the records after an edit, before any glyph is run again: a new glyph has some run and box, and is the last one
abbrev pub records_after : Edit → TracedRun → Option BBox → List RecordedGlyph → List RecordedGlyph
records_after (AddGlyph g body) run box kept = kept ++ record { name = g; run = run; box = box } ∷ []
records_after (RemoveGlyph g) run box kept = filter (λ k. not (bytes_eq g k.name)) kept
records_after _ run box kept = kept

-- word: records stand in the order of the edited source, and each that is fresh is one of those kept
pub record AreInPlace (keys : List Key) (old new : SourceParts) (kept before : List RecordedGlyph) : Type 0 where
  pub order : map (λ k. k.name) before ≡ glyph_names new.items
  pub fresh : AllByRecursion (λ k. is_stale old keys k.name ≡ false → IsOneOf kept k) before

-- word: the records after one edit are in place
abbrev pub KeptAfterLaw : Type 0
KeptAfterLaw =
    (s : SourceParts) (k : List Pair) (edit : Edit) (made : SourceParts) (ps : List Pair) → IsWellFormed s → edited s k edit ≡ Ok (made, ps)
    → (kept : List RecordedGlyph) → KeepsAll s kept → (run : TracedRun) (box : Option BBox) → AreInPlace (named edit) s made kept (records_after edit run box kept)

-- word: after one edit more they are in place at the keys of all edits
abbrev pub KeptTurnLaw : Type 0
KeptTurnLaw =
    (keys : List Key) (old s : SourceParts) (k : List Pair) (edit : Edit) (made : SourceParts) (ps : List Pair) → IsWellFormed s → edited s k edit ≡ Ok (made, ps)
    → (kept before : List RecordedGlyph) → AreInPlace keys old s kept before → (run : TracedRun) (box : Option BBox)
    → AreInPlace (keys ++ named edit) old made kept (records_after edit run box before)
