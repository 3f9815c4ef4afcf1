-- The records of a source, brought to those of the source after edits.
use Rattle.std.specs.Prelude.{◌≡◌, ◌≤◌, ◌++◌, ◌&&◌, ◌||◌, not, ℕ, Bool, true, false, List, [], ◌∷◌, filter, length, map, Option, Some, None, Ok, if◌then◌else◌}
use Rattle.std.specs.List.{list_any, AllByRecursion}
use Rattle.indexmap.specs.IndexMap.{spare}
use Rattle.t1_parts.specs.SourceParts.{SourceParts}
use Rattle.t1_run.specs.Run.{Key}
use Rattle.t1_run.specs.RunKeys.{body_at, key_eq}
use Rattle.t1_run.specs.Touched.{is_key_of}
use Rattle.t1_code.specs.declared.command.Command.{Command}
use Rattle.t1_font.specs.Bodies.{bodies}
use Rattle.t1_font.specs.KeptBodies.{SameBodies}
use Rattle.t1_font.specs.Glyphs.{glyph_names}
use Rattle.t1_font.specs.SourceChecks.{source_check}
use Rattle.t1_font.specs.declared.owned_key.OwnedKey.{OwnedKey}
use Rattle.t1_font.specs.declared.owned_key.OwnedKey.TheVariants as named
use Rattle.t1_cache.specs.declared.records.Records.{Records}
use Rattle.t1_cache.specs.declared.records.Rerun.{Rerun}
use Rattle.t1_cache.specs.Bodies.{record_bodies}
use Rattle.t1_cache.specs.Edited.{is_stale, IsEditedAt}
use Rattle.t1_cache.specs.Laws.{AreDistinct}
use Rattle.t1_cache.specs.Renewal.{kept_by}
use Rattle.t1_cache.specs.Recorded.{IsOneOf, RecordedGlyph, kept_of}
use Rattle.t1_cache.specs.Renewed.{reruns_by_name}
use Rattle.t1_cache.specs.Room.{MayJoin}
use Rattle.t1_cache.specs.Users.{lists, users_at, pairs_of_key}
use Rattle.t1_font.specs.OwnedKeys.{key_of}
use Rattle.t1_rerun.specs.declared.changing.Renewal.{Renewal}
use Rattle.t1_rerun.specs.declared.entry_change.EntryChange.{EntryChange}
use Rattle.t1_rerun.specs.declared.settling.Ready.{Ready}
use Rattle.t1_rerun.specs.Renewals.{IsRenewal}
use Rattle.t1_rerun.specs.Right.{has_glyph, IsInOrder, IsRight}
use Rattle.t1_rerun.specs.Steps.{new_run, some_inserts, AreStepsOf, AreTakenOut}

-- word: the keys of the entries that edits name
abbrev pub changed_keys : List EntryChange → List Key
changed_keys changes = map (λ c. key_of c.named) changes

-- word: each key stands there once
abbrev pub AreDistinctKeys : List Key → Type 0
AreDistinctKeys [] = Unit {0}
AreDistinctKeys (k ∷ ks) = (list_any (key_eq k) ks ≡ false) × AreDistinctKeys ks

-- word: the edited source has this body, or none, at the entry that edits name
abbrev pub HasBody : SourceParts → EntryChange → Type 0
HasBody new c = body_at (bodies new.items) (key_of c.named) ≡ c.body

-- word: the glyph was removed and added again
abbrev pub was_moved : List EntryChange → List ℕ → Bool
was_moved changes g = list_any (λ c. c.moved && is_key_of g (key_of c.named)) changes

-- word: the glyph of a change, where it has a body and was moved, or wasn't there
abbrev pub last_glyph : SourceParts → Bool → Option (List Command) → OwnedKey → List (List ℕ)
last_glyph old moved None named = []
last_glyph old moved (Some body) (named.Subr n) = []
last_glyph old moved (Some body) (named.Glyph g) = if moved || not (has_glyph old g) then g ∷ [] else []

-- word: the glyphs that stand after the others, in the order of the changes
abbrev pub last_glyphs : SourceParts → List EntryChange → List (List ℕ)
last_glyphs old [] = []
last_glyphs old (c ∷ changes) = last_glyph old c.moved c.body c.named ++ last_glyphs old changes

-- word: a source whose records are right was edited, the edited one was judged to have no fault, and this is what is
-- new of it; each entry that was edited is named once, with what it became
pub record IsJudged (changes : List EntryChange) (old new : SourceParts) (records : Records) (renewal : Renewal) : Type 0 where
  pub right : IsRight old records
  pub edited : IsEditedAt (changed_keys changes) old new
  pub keys : AreDistinctKeys (changed_keys changes)
  pub bodies : AllByRecursion (HasBody new) changes
  pub faultless : source_check new ≡ Ok tt
  pub distinct : AreDistinct (glyph_names new.items)
  pub order : IsInOrder (was_moved changes) old new
  pub last : filter (λ g. was_moved changes g || not (has_glyph old g)) (glyph_names new.items) ≡ last_glyphs old changes
  pub renewed : IsRenewal (changed_keys changes) old new renewal

-- word: there are such sources
abbrev pub MayBeJudged : List EntryChange → Records → Renewal → Type 0
MayBeJudged changes records renewal = (old : SourceParts) × ((new : SourceParts) × IsJudged changes old new records renewal)

-- word: a stale glyph has the run and box of a rerun, and each other glyph what was kept of it
pub record IsRenewedBy (keys : List Key) (old : SourceParts) (reruns : List Rerun) (kept : List RecordedGlyph) (k : RecordedGlyph) : Type 0 where
  pub stale : is_stale old keys k.name ≡ true → IsOneOf (map kept_by reruns) k
  pub fresh : is_stale old keys k.name ≡ false → IsOneOf kept k

-- word: the same bodies, runs, boxes and users; there may be more room among the users
pub record AreAsBefore (old new : Records) : Type 0 where
  pub bodies : SameBodies (record_bodies new) (record_bodies old)
  pub kept : map kept_of new.glyphs.entries ≡ map kept_of old.glyphs.entries
  pub users : (k : Key) (u : List ℕ) → lists new k u ≡ lists old k u

-- ---- the two steps

-- word: all that the changes take is there: a step for each change, the new runs that no step has, the names of
-- glyphs whose records are taken out, and the room in the records
pub record IsReady (changes : List EntryChange) (renewal : Renewal) (records : Records) (ready : Ready) : Type 0 where
  pub steps : AreStepsOf (new_run renewal.reruns.items) (pairs_of_key renewal.joins.items) records changes ready.steps.items
  pub runs : (g : List ℕ) → new_run (reruns_by_name ready.runs.entries) g ≡ (if some_inserts ready.steps.items g then None else new_run renewal.reruns.items g)
  pub taken : AreTakenOut ready.taken.keys ready.steps.items
  pub leaves : ready.leaves.items ≡ renewal.leaves.items
  pub joins : ready.joins.items ≡ renewal.joins.items
  pub subrs : length ready.steps.items ≤ spare records.subrs
  pub glyphs : length ready.steps.items ≤ spare records.glyphs
  pub users : (k : Key) → MayJoin (pairs_of_key renewal.joins.items k) (users_at records k)

-- word: there are a judged edit and its changes
pub record MayBeSettled (records : Records) (ready : Ready) : Type 0 where
  pub changes : List EntryChange
  pub renewal : Renewal
  pub prepared : IsReady changes renewal records ready
  pub judged : MayBeJudged changes records renewal
