-- The length of the private text after a change, and what its counts come to.
use Rattle.std.proofs.Common.{◌≡◌, ◌<◌, ◌+◌, ◌-◌, ◌^◌, ℕ, true, refl, sym, subst, Option, None, Some, Ok, arith}
use Rattle.std.specs.Prelude.{length, min, IfSome}
use Rattle.std.specs.List.{list_all}
use Rattle.t1_parts.specs.SourceParts.{SourceParts}
use Rattle.t1_source.specs.declared.editing.Change.{Change}
use Rattle.t1_source.specs.declared.editing.Change.TheVariants as changes
use Rattle.t1_source.specs.Changes.{is_entry_changed, is_of_pairs, IsFor, made_after, put_by, taken_by}
use Rattle.t1_source.specs.WellFormed.{is_counted}
use Rattle.t1_font.specs.Assembly.{counts_check, file_check}
use Rattle.t1_font.specs.Lengths.{IsPrivateLen}
use Rattle.t1_font.proofs.Counted.{counted-source}
use Rattle.t1_charstrings.specs.declared.edited.EditedEntries.{EditedEntries}
use Rattle.t1_charstrings.specs.declared.entries.Charstrings.{Charstrings}
use Rattle.t1_charstrings.specs.declared.raising.Needed.{Needed}
use Rattle.t1_charstrings.specs.Batch.{AreEdits}
use Rattle.t1_charstrings.specs.Prepared.{IsPreparedFor}
use Rattle.t1_charstrings.specs.Raising.{raised_check}
use Rattle.t1_charstrings.specs.Ready.{edited_len, IsNeeded}
use Rattle.t1_charstrings.proofs.Batches.{fresh_by}
use Rattle.t1_charstrings.proofs.Entered.{left_counted, left_known, len_small, put_counted, put_known}
use Rattle.t1_charstrings.proofs.Inserting.{insert_counts, insert_known}
use Rattle.t1_charstrings.proofs.MadeItems.{lead_changed}

-- the item that is taken out stands in the source
pub taken_within : (change : Change) (s : SourceParts) → IsFor change s → IfSome (taken_by change) (λ at. at < length s.items)
taken_within (changes.PutItem at item) s fits = fits.serves.fits.0
taken_within (changes.InsertItem at item) s fits = tt
taken_within (changes.RemoveItem at) s fits = fits.serves.fits.0
taken_within (changes.PutClear lines) s fits = tt
taken_within (changes.PutPair at pair) s fits = tt
taken_within (changes.InsertPair at pair) s fits = tt
taken_within (changes.RemovePair at) s fits = tt

-- a change of the pairs leaves the source
pub source_stays : (change : Change) (s : SourceParts) → is_of_pairs change ≡ true → made_after change s ≡ s
source_stays (changes.PutItem at item) s is = absurd (cc)
source_stays (changes.InsertItem at item) s is = absurd (cc)
source_stays (changes.RemoveItem at) s is = absurd (cc)
source_stays (changes.PutClear lines) s is = absurd (cc)
source_stays (changes.PutPair at pair) s is = refl
source_stays (changes.InsertPair at pair) s is = refl
source_stays (changes.RemovePair at) s is = refl

-- the tail stays
pub tail_after : (change : Change) (s : SourceParts) → (made_after change s).tail ≡ s.tail
tail_after (changes.PutItem at item) s = refl
tail_after (changes.InsertItem at item) s = refl
tail_after (changes.RemoveItem at) s = refl
tail_after (changes.PutClear lines) s = refl
tail_after (changes.PutPair at pair) s = refl
tail_after (changes.InsertPair at pair) s = refl
tail_after (changes.RemovePair at) s = refl

module _ (s : SourceParts) (c : Charstrings) (n : ℕ) (entries : EditedEntries) where
  same : (len : ℕ) → IsPrivateLen s n → file_check s ≡ Ok tt → len ≡ min ((n - 0) + 0) (2 ^ 64 - 1) → len ≡ n
  same len known file is = omega (arith, is, len_small s n file known)

  -- the length of the private text after it
  pub changed_known : (change : Change) → IsPreparedFor change s n → is_entry_changed change s ≡ true → AreEdits s (made_after change s) c entries
      → (needed : Option Needed) → IsNeeded (taken_by change) (put_by change) s needed
      → (len : ℕ) → len ≡ edited_len n entries.fresh c s (taken_by change) (put_by change) needed
      → IsPrivateLen (made_after change s) len
  changed_known (changes.PutItem at item) for entry edits needed none len is =
      let edit = edits.edit in
      let fits = for.fits in
      put_known s c at item fits.well fits.serves.fits.0 edit.kept fits.serves.fits.2 edits.keys entries.fresh edit
      (fresh_by edits (lead_changed (changes.PutItem at item) s c fits edit entry)) entry n len for.known for.file
      (subst (λ o. len ≡ edited_len n entries.fresh c s (Some at) (Some item) o) none is)
  changed_known (changes.InsertItem at item) for entry edits (Some needed) are len is =
      let edit = edits.edit in
      let fits = for.fits in
      insert_known s c at item fits.well fits.serves.fits edit.kept needed.subrs needed.glyphs are.0 are.1 edits.keys entries.fresh edit
      (fresh_by edits (lead_changed (changes.InsertItem at item) s c fits edit entry)) entry n len for.known for.file is
  changed_known (changes.InsertItem at item) for entry edits None are len is = absurd are
  changed_known (changes.RemoveItem at) for entry edits needed none len is =
      let fits = for.fits in
      left_known s c at fits.well fits.serves.fits.0 edits.edit.kept entry edits.edit.well entries.fresh n len for.known for.file
      (subst (λ o. len ≡ edited_len n entries.fresh c s (Some at) None o) none is)
  changed_known (changes.PutClear lines) for entry edits needed none len is =
      subst (IsPrivateLen s) (sym (same len for.known for.file (subst (λ o. len ≡ edited_len n entries.fresh c s None None o) none is))) for.known
  changed_known (changes.PutPair at pair) for entry edits needed none len is =
      subst (IsPrivateLen s) (sym (same len for.known for.file (subst (λ o. len ≡ edited_len n entries.fresh c s None None o) none is))) for.known
  changed_known (changes.InsertPair at pair) for entry edits needed none len is =
      subst (IsPrivateLen s) (sym (same len for.known for.file (subst (λ o. len ≡ edited_len n entries.fresh c s None None o) none is))) for.known
  changed_known (changes.RemovePair at) for entry edits needed none len is =
      subst (IsPrivateLen s) (sym (same len for.known for.file (subst (λ o. len ≡ edited_len n entries.fresh c s None None o) none is))) for.known

  -- where nothing more is needed, no count is too long
  pub changed_counted : (change : Change) → IsPreparedFor change s n → is_entry_changed change s ≡ true → AreEdits s (made_after change s) c entries
      → IsNeeded (taken_by change) (put_by change) s None → list_all is_counted (made_after change s).items ≡ true
  changed_counted (changes.PutItem at item) for entry edits none =
      let fits = for.fits in
      put_counted s c at item fits.well fits.serves.fits.0 edits.edit.kept fits.serves.fits.2 entry edits.edit.sound for.file
  changed_counted (changes.InsertItem at item) for entry edits are = absurd are
  changed_counted (changes.RemoveItem at) for entry edits none = left_counted s c at for.fits.well for.fits.serves.fits.0 edits.edit.kept entry for.file
  changed_counted (changes.PutClear lines) for entry edits none = counted-source s for.file
  changed_counted (changes.PutPair at pair) for entry edits none = counted-source s for.file
  changed_counted (changes.InsertPair at pair) for entry edits none = counted-source s for.file
  changed_counted (changes.RemovePair at) for entry edits none = counted-source s for.file

  -- where more is needed, the counts are those that are raised
  pub changed_counts : (change : Change) → IsPreparedFor change s n → is_entry_changed change s ≡ true → AreEdits s (made_after change s) c entries
      → (needed : Needed) → IsNeeded (taken_by change) (put_by change) s (Some needed)
      → counts_check (made_after change s).items ≡ raised_check needed.subrs needed.glyphs s.items
  changed_counts (changes.PutItem at item) for entry edits needed none = absurd (cc)
  changed_counts (changes.InsertItem at item) for entry edits needed are =
      let fits = for.fits in
      insert_counts s c at item fits.well fits.serves.fits edits.edit.kept needed.subrs needed.glyphs are.0 are.1 entry edits.edit.sound
  changed_counts (changes.RemoveItem at) for entry edits needed none = absurd (cc)
  changed_counts (changes.PutClear lines) for entry edits needed none = absurd (cc)
  changed_counts (changes.PutPair at pair) for entry edits needed none = absurd (cc)
  changed_counts (changes.InsertPair at pair) for entry edits needed none = absurd (cc)
  changed_counts (changes.RemovePair at) for entry edits needed none = absurd (cc)
