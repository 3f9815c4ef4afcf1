-- Records of a source that is edited at some entries.
use Rattle.std.specs.Prelude.{◌≡◌, ◌||◌, nat_eq, not, ℕ, List, [], ◌∷◌, filter, Option, Some, None, Ok, if◌then◌else◌}
use Rattle.std.specs.Borrow.{Bor}
use Rattle.std.specs.List.{AllByRecursion}
use Rattle.std.specs.Map.{lookup}
use Rattle.std.specs.Option.{option_copied}
use Rattle.std.specs.Str.{bytes_eq}
use Rattle.t1_code.specs.declared.command.Command.{Command}
use Rattle.t1_parts.specs.SourceParts.{SourceParts}
use Rattle.t1_run.specs.Overlay.{after_change}
use Rattle.t1_run.specs.Run.{FontBodies, Key, font}
use Rattle.t1_run.specs.RunKeys.{key_eq}
use Rattle.t1_font.specs.Assembly.{file_check}
use Rattle.t1_font.specs.Glyphs.{glyph_names}
use Rattle.t1_cache.specs.declared.records.Records.{Records}
use Rattle.t1_cache.specs.Bodies.{glyph_body, subr_body}
use Rattle.t1_cache.specs.Edited.{IsEditedAt}
use Rattle.t1_cache.specs.Laws.{AreDistinct}
use Rattle.t1_font.specs.OwnedKeys.{key_of}
use Rattle.t1_rerun.specs.declared.changing.EditedBodies.{EditedBodies}
use Rattle.t1_rerun.specs.declared.changing.Renewal.{Renewal}
use Rattle.t1_rerun.specs.declared.entry_change.EntryChange.{EntryChange}
use Rattle.t1_rerun.specs.declared.settling.Ready.{Ready}
use Rattle.t1_rerun.specs.Renewals.{IsLater}
use Rattle.t1_rerun.specs.Right.{has_glyph, IsInOrder, IsRight}
use Rattle.t1_rerun.specs.Settled.{changed_keys, last_glyphs, was_moved, AreDistinctKeys, HasBody, IsJudged, IsReady}

-- ---- the bodies of records under changes

-- word: what changes set, or take out, at a key: what the first of them does that names it
abbrev pub body_changed : List EntryChange → Key → Option (Option (List Command))
body_changed [] k = None
body_changed (c ∷ changes) k = if key_eq k (key_of c.named) then Some c.body else body_changed changes k

-- word: what is set, or taken out, at a Subr
abbrev pub subr_set : List (ℕ × Bor (Option (List Command))) → ℕ → Option (Option (List Command))
subr_set entries n = option_copied (lookup (nat_eq n) entries)

-- word: what is set, or taken out, at a glyph
abbrev pub glyph_set : List (Bor (List ℕ) × Bor (Option (List Command))) → List ℕ → Option (Option (List Command))
glyph_set entries g = option_copied (lookup (λ name. bytes_eq g name.now) entries)

-- word: the font that edited bodies are
abbrev pub edited_font : EditedBodies → FontBodies
edited_font e =
    font (λ n. after_change (subr_set e.subrs.entries n) (subr_body e.records.now.subrs.entries n))
    (λ g. after_change (glyph_set e.glyphs.entries g) (glyph_body e.records.now.glyphs.entries g))

-- ---- edits

-- word: a source whose records are right was edited at the entries of changes, each of them named once, and the
-- edited one has its file; these are its glyphs in their order
pub record AreChangesOf (changes : List EntryChange) (old new : SourceParts) (records : Records) (ordered : List (List ℕ)) : Type 0 where
  pub right : IsRight old records
  pub edited : IsEditedAt (changed_keys changes) old new
  pub keys : AreDistinctKeys (changed_keys changes)
  pub bodies : AllByRecursion (HasBody new) changes
  pub file : file_check new ≡ Ok tt
  pub distinct : AreDistinct (glyph_names new.items)
  pub order : IsInOrder (was_moved changes) old new
  pub last : filter (λ g. was_moved changes g || not (has_glyph old g)) (glyph_names new.items) ≡ last_glyphs old changes
  pub names : ordered ≡ glyph_names new.items

-- word: there are such sources
abbrev pub MayBePrepared : List EntryChange → Records → List (List ℕ) → Type 0
MayBePrepared changes records ordered = (old : SourceParts) × ((new : SourceParts) × AreChangesOf changes old new records ordered)

-- word: the edited source has no fault, each stale glyph was run after this count, and all that the change of the
-- records takes is there
pub record IsReadyFor (count : ℕ) (changes : List EntryChange) (old new : SourceParts) (records : Records) (ready : Ready) : Type 0 where
  pub renewal : Renewal
  pub prepared : IsReady changes renewal records ready
  pub judged : IsJudged changes old new records renewal
  pub later : AllByRecursion (IsLater count) renewal.reruns.items

-- word: there are such changes and such sources
pub record ArePreparedChanges (records : Records) (ready : Ready) : Type 0 where
  pub count : ℕ
  pub changes : List EntryChange
  pub old : SourceParts
  pub new : SourceParts
  pub prepared : IsReadyFor count changes old new records ready
