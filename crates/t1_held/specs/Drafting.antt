-- What the edits of a batch make of its source, in the words of the calls that make and judge them.
use Rattle.std.specs.Prelude.{◌≡◌, ◌++◌, ◌∷◌, [], ◌&&◌, ◌||◌, ℕ, Bool, false, not, List, filter, reverse, if◌then◌else◌, Option, Some, None, Result, Ok, Err}
use Rattle.std.specs.List.{list_any, AllByRecursion}
use Rattle.std.specs.Option.{option_or}
use Rattle.std.specs.Str.{bytes_eq}
use Rattle.t1_code.specs.declared.command.Command.{Command}
use Rattle.t1_parts.specs.declared.item.Item.{Item}
use Rattle.t1_parts.specs.declared.item.Item.TheVariants as items
use Rattle.t1_parts.specs.SourceParts.{SourceParts}
use Rattle.t1_source.specs.declared.edit.Cause.{Cause}
use Rattle.t1_source.specs.declared.edit.Edit.{Edit}
use Rattle.t1_source.specs.declared.editing.Change.{Change}
use Rattle.t1_source.specs.Changes.{made_after, put_by, taken_by, IsFor}
use Rattle.t1_source.specs.Editing.{edited}
use Rattle.t1_source.specs.WellFormed.{IsWellFormed}
use Rattle.t1_run.specs.Run.{Key, Subr, Glyph}
use Rattle.t1_run.specs.RunKeys.{body_at, key_eq}
use Rattle.t1_run.specs.Touched.{is_key_of}
use Rattle.t1_font.specs.Bodies.{bodies, bodies_check, body_check}
use Rattle.t1_font.specs.Glyphs.{glyph_names}
use Rattle.t1_cache.specs.EditKeys.{named}
use Rattle.t1_cache.specs.Edited.{IsEditedAt}
use Rattle.t1_rerun.specs.declared.entry_change.EntryChange.{EntryChange}
use Rattle.t1_rerun.specs.Right.{has_glyph, IsInOrder}
use Rattle.t1_rerun.specs.Settled.{changed_keys, last_glyphs, was_moved, AreDistinctKeys, HasBody}
use Rattle.t1_source.specs.declared.edit.Cause.TheVariants as causes
use Rattle.t1_charstrings.specs.Beside.{put_beside, taken_beside, IsCountedAfter, IsKeptBeside}
use Rattle.t1_held.specs.Batch.{EntryEdit, body_of, count_begin, has_fault, Draft, DraftedBatch, keys}

-- word, batches: some edit added the glyph
abbrev pub was_added : List EntryEdit → List ℕ → Bool
was_added entries g = list_any (λ e. e.added && is_key_of g e.key) entries

-- word, batches: the keys of the entries that edits added, the last one first
abbrev pub added_last_first : List EntryEdit → List Key
added_last_first entries = reverse (keys (filter (λ e. e.added) entries))

-- word, batches: the names of glyphs, each once, by keys of which the first one stands last
abbrev pub names_back : List Key → List (List ℕ)
names_back [] = []
names_back (Glyph g ∷ ks) = filter (λ x. not (bytes_eq g x)) (names_back ks) ++ g ∷ []
names_back (Subr n ∷ ks) = names_back ks

-- word, batches: the body of an entry after the last edit that names it, where one does
abbrev pub last_body : List EntryEdit → Key → Option (Option (List Command))
last_body [] k = None
last_body (e ∷ es) k = option_or (last_body es k) (if key_eq k e.key then Some (body_of e.after) else None)

-- word, batches: whether an item is an entry of one of these keys
abbrev pub is_entry_among : List Key → Item → Bool
is_entry_among ks (items.Subr n words closing) = list_any (key_eq (Subr n)) ks
is_entry_among ks (items.Glyph g words closing) = list_any (key_eq (Glyph g)) ks
is_entry_among ks _ = false

-- word, batches: an item's body has no fault, unless the item is an entry of one of these keys
abbrev pub IsSoundBut : List Key → Item → Type 0
IsSoundBut ks item = is_entry_among ks item ≡ false → body_check item ≡ Ok tt

-- word, batches: edits that name these entries, one after another, made one source of the other
pub record IsEditedBy (entries : List EntryEdit) (old new : SourceParts) : Type 0 where
  pub edited : IsEditedAt (keys entries) old new
  pub order : IsInOrder (was_added entries) old new
  pub last :
      filter (λ g. was_added entries g || not (has_glyph old g)) (glyph_names new.items)
      ≡ filter (has_glyph new) (names_back (added_last_first entries))
  pub bodies : (k : Key) (body : Option (List Command)) → last_body entries k ≡ Some body → body_at (bodies new.items) k ≡ body
  pub sound : bodies_check old.items ≡ Ok tt → has_fault entries ≡ false → bodies_check new.items ≡ Ok tt
  pub others : bodies_check old.items ≡ Ok tt → AllByRecursion (IsSoundBut (keys entries)) new.items
  pub well : IsWellFormed new

-- word, batches: a batch on this source
pub record IsDraftOf (s : SourceParts) (batch : DraftedBatch) : Type 0 where
  pub edited : IsEditedBy batch.entries s batch.draft.source
  pub beside : IsKeptBeside s count_begin batch.draft.source batch.beside

-- word, batches: the count after an edit, by what its change takes out and puts in
pub record IsCountedBy (old new : DraftedBatch) : Type 0 where
  pub change : Change
  pub fits : IsFor change old.draft.source
  pub made : made_after change old.draft.source ≡ new.draft.source
  pub counted : IsCountedAfter old.beside (taken_beside old.draft.source.items (taken_by change)) (put_beside (put_by change)) new.beside

-- word, batches: an edit was made in a batch, and the key of its entry was noted; or it broke a rule, which changes nothing, as want
-- of memory does
abbrev pub Drafts : {T : Type 0} → Draft → Edit → Result T Cause → Draft → Type 0
Drafts old edit (Ok done) new =
    (edited old.source old.pairs edit ≡ Ok (new.source, new.pairs)) × (new.keys ≡ old.keys ++ named edit)
Drafts old edit (Err (causes.Rule rule)) new = (edited old.source old.pairs edit ≡ Err rule) × (new ≡ old)
Drafts old edit (Err (causes.Fault fault)) new = ⊥
Drafts old edit (Err causes.Memory) new = new ≡ old

-- word, batches: what edits at these keys changed: each entry once, with the body that it has after them, and the
-- edited source, whose bodies have no fault
pub record AreBatchChanges (old new : SourceParts) (ks : List Key) (changes : List EntryChange) : Type 0 where
  pub same : (k : Key) → list_any (key_eq k) (changed_keys changes) ≡ list_any (key_eq k) ks
  pub edited : IsEditedAt (changed_keys changes) old new
  pub keys : AreDistinctKeys (changed_keys changes)
  pub bodies : AllByRecursion (HasBody new) changes
  pub compiled : bodies_check new.items ≡ Ok tt
  pub order : IsInOrder (was_moved changes) old new
  pub last : filter (λ g. was_moved changes g || not (has_glyph old g)) (glyph_names new.items) ≡ last_glyphs old changes
