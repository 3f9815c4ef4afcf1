-- The bodies of records under changes, and what is judged by them.
use Rattle.std.proofs.Common.{◌≡◌, ◌<◌, ◌+◌, ◌++◌, ℕ, suc, Bool, true, false, List, [], ◌∷◌, add-one, drop, drop-cons, get_or, length, map, take, refl, sym, ◌∙◌, ap, subst, Option, Some, None, Ok, inl, inr, cond}
use Rattle.std.specs.Prelude.{Result, Err}
use Rattle.std.specs.Borrow.{Bor}
use Rattle.std.proofs.lemmas.List.{map-append, take_more}
use Rattle.std.specs.Option.{option_copied, option_or, option_to_list}
use Rattle.std.specs.List.{AllByRecursion}
use Rattle.t1_code.specs.declared.command.Command.{Command}
use Rattle.t1_frac.specs.declared.fault.Fault.{Fault}
use Rattle.t1_frac.specs.Outcome.{◌>>=◌}
use Rattle.t1_parts.specs.SourceParts.{SourceParts}
use Rattle.t1_source.specs.declared.edit.Edit.{Edit}
use Rattle.t1_run.specs.Footprint.{Includes}
use Rattle.t1_run.specs.Overlay.{after_change}
use Rattle.t1_run.specs.Run.{FontBodies, Key, Subr, Glyph}
use Rattle.t1_run.specs.RunKeys.{body_at, key_eq}
use Rattle.t1_font.specs.Bodies.{bodies}
use Rattle.t1_font.specs.KeptBodies.{SameBodies}
use Rattle.t1_font.specs.Assembly.{file_check}
use Rattle.t1_font.specs.Glyphs.{Glyph as Reported, glyphs, glyph_names}
use Rattle.t1_font.specs.SourceChecks.{source_check, source_glyphs}
use Rattle.t1_font.specs.declared.owned_key.OwnedKey.{OwnedKey}
use Rattle.t1_cache.specs.declared.records.Records.{Records}
use Rattle.t1_cache.specs.Bodies.{record_bodies}
use Rattle.t1_cache.specs.Edited.{IsEditedAt}
use Rattle.t1_font.specs.OwnedKeys.{key_of}
use Rattle.t1_font.proofs.Keys.{key-itself, key-same}
use Rattle.t1_cache.proofs.Distinct.{names_distinct}
use Rattle.t1_cache.specs.Laws.{AreDistinct}
use Rattle.t1_rerun.specs.declared.changing.Renewal.{Renewal}
use Rattle.t1_rerun.specs.declared.entry_change.EntryChange.{EntryChange}
use Rattle.t1_rerun.specs.declared.settling.Ready.{Ready}
use Rattle.t1_rerun.specs.Changing.{body_changed, AreChangesOf, IsReadyFor, MayBePrepared}
use Rattle.t1_rerun.specs.EntryChanges.{IsChanged, IsMadeByEdit}
use Rattle.t1_rerun.specs.Renewals.{IsLater, IsRenewal}
use Rattle.t1_rerun.specs.Renewing.{IsEdited}
use Rattle.t1_rerun.specs.Right.{IsEdit, IsRight, IsInOrder}
use Rattle.t1_rerun.specs.Settled.{changed_keys, AreAsBefore, AreDistinctKeys, HasBody, IsJudged, IsReady, was_moved}
use Rattle.t1_rerun.proofs.Preparing.{judged-again}
use Rattle.t1_rerun.proofs.Reordering.{bodies-fine, has-its-body}
use Rattle.t1_rerun.proofs.Single.{one-last}

-- ---- what changes do at a key

-- what a borrow lends, put after what there was
pub copied-last : {X : Type 0} (r : Option (Bor X)) (b : Bool) (x : Bor X) → option_copied (option_or r (cond b (Some x) None)) ≡ option_or (option_copied r) (cond b (Some x.now) None)
copied-last (Some y) b x = refl
copied-last None true x = refl
copied-last None false x = refl

-- the changes that are left begin with this one
pub change-first : (xs : List EntryChange) (i : ℕ) (x : EntryChange) → i < length xs → x ≡ get_or xs i x → drop i xs ≡ x ∷ drop (i + 1) xs
change-first xs i x h e = rw (add-one, drop-cons xs i x) (ap (λ y. y ∷ drop (suc i) xs) (sym e))

-- the first of the changes, or else one after it
pub changed-first : (c : EntryChange) (changes : List EntryChange) (k : Key) → body_changed (c ∷ changes) k ≡ option_or (body_changed (c ∷ []) k) (body_changed changes k)
changed-first c changes k = by (key_eq k (key_of c.named)) where
  by : (b : Bool) → cond b (Some c.body) (body_changed changes k) ≡ option_or (cond b (Some c.body) None) (body_changed changes k)
  by true = refl
  by false = refl

-- the keys of one more change
pub keys-more : (xs : List EntryChange) (i : ℕ) (x : EntryChange) → i < length xs → x ≡ get_or xs i x
    → changed_keys (take (i + 1) xs) ≡ changed_keys (take i xs) ++ key_of x.named ∷ []
keys-more xs i x far is =
    ap changed_keys (take_more xs i x far) ∙ map-append (λ c. key_of c.named) (take i xs) (get_or xs i x ∷ [])
    ∙ ap (λ c. changed_keys (take i xs) ++ key_of c.named ∷ []) (sym is)

-- the edited source has what is set
set-is : (new : SourceParts) (changes : List EntryChange) (k : Key) (body : Option (List Command)) → AllByRecursion (HasBody new) changes
    → body_changed changes k ≡ Some body → body_at (bodies new.items) k ≡ body
set-is new [] k body all e = absurd (cc)
set-is new (c ∷ changes) k body all e = by (key_eq k (key_of c.named)) refl e (set-is new changes k body all.1) where
  by : (b : Bool) → key_eq k (key_of c.named) ≡ b → cond b (Some c.body) (body_changed changes k) ≡ Some body
      → (body_changed changes k ≡ Some body → body_at (bodies new.items) k ≡ body) → body_at (bodies new.items) k ≡ body
  by true on e others =
      let is : c.body ≡ body = cc in
      ap (body_at (bodies new.items)) (key-same k (key_of c.named) on) ∙ all.0 ∙ is
  by false off e others = others e

-- a key where nothing is set isn't named
unset-unnamed : (changes : List EntryChange) (k : Key) → body_changed changes k ≡ None → Includes (changed_keys changes) k → ⊥
unset-unnamed [] k e i = i
unset-unnamed (c ∷ changes) k e i = by (key_eq k (key_of c.named)) refl e i (unset-unnamed changes k) where
  by : (b : Bool) → key_eq k (key_of c.named) ≡ b → cond b (Some c.body) (body_changed changes k) ≡ None → Includes (key_of c.named ∷ changed_keys changes) k
      → (body_changed changes k ≡ None → Includes (changed_keys changes) k → ⊥) → ⊥
  by true on e i others = absurd (cc)
  by false off e (inl is) others = let never : true ≡ false = sym (key-itself k) ∙ ap (key_eq k) (sym is) ∙ off in absurd (cc)
  by false off e (inr i) others = others e i

-- ---- changes of entries

same-at : (m n : FontBodies) → ((k : Key) → body_at m k ≡ body_at n k) → SameBodies m n
same-at m n same (Subr k) = same (Subr k)
same-at m n same (Glyph g) = same (Glyph g)

at-same : (m n : FontBodies) (k : Key) → SameBodies m n → body_at m k ≡ body_at n k
at-same m n (Subr k) same = same (Subr k)
at-same m n (Glyph g) same = same (Glyph g)

module _ (changes : List EntryChange) (old new : SourceParts) (records : Records) (ordered : List (List ℕ)) (j : AreChangesOf changes old new records ordered) where
  kept-there : (k : Key) → (Includes (changed_keys changes) k → ⊥) → body_at (bodies old.items) k ≡ body_at (bodies new.items) k
  kept-there (Subr n) out = j.edited.bodies.same (Subr n) out
  kept-there (Glyph g) out = j.edited.bodies.same (Glyph g) out

  -- the records' bodies under the changes are those of the edited source
  edited-there : (k : Key) → after_change (body_changed changes k) (body_at (record_bodies records) k) ≡ body_at (bodies new.items) k
  edited-there k = by (body_changed changes k) refl where
    by : (r : Option (Option (List Command))) → body_changed changes k ≡ r → after_change r (body_at (record_bodies records) k) ≡ body_at (bodies new.items) k
    by (Some body) e = sym (set-is new changes k body j.bodies e)
    by None e = at-same (record_bodies records) (bodies old.items) k j.right.compiled ∙ kept-there k (unset-unnamed changes k e)

  module _ (edits : List OwnedKey) (keys : map key_of edits ≡ changed_keys changes) (m : FontBodies)
      (are : (k : Key) → body_at m k ≡ after_change (body_changed changes k) (body_at (record_bodies records) k)) where
    pub is-edit : IsEdit edits old new records m ordered
    is-edit = record {
      right = j.right;
      edited = subst (λ keys. IsEditedAt keys old new) (sym keys) j.edited;
      file = j.file;
      bodies = same-at m (bodies new.items) (λ k. are k ∙ edited-there k);
      names = j.names;
      distinct = j.distinct;
    }

  is-judged : source_check new ≡ Ok tt → (renewal : Renewal) → IsRenewal (changed_keys changes) old new renewal → IsJudged changes old new records renewal
  is-judged faultless renewal renewed = record {
    right = j.right;
    edited = j.edited;
    keys = j.keys;
    bodies = j.bodies;
    faultless = faultless;
    distinct = j.distinct;
    order = j.order;
    last = j.last;
    renewed = renewed;
  }

  -- and what was prepared for them is so of records that are as before
  pub is-ready : source_check new ≡ Ok tt → (renewal : Renewal) → IsRenewal (changed_keys changes) old new renewal
      → (count : ℕ) → AllByRecursion (IsLater count) renewal.reruns.items → (mid : Records) → AreAsBefore records mid
      → (ready : Ready) → IsReady changes renewal mid ready → IsReadyFor count changes old new mid ready
  is-ready faultless renewal renewed count later mid same ready prepared = record {
    renewal = renewal;
    prepared = prepared;
    judged = judged-again changes old new records mid renewal same (is-judged faultless renewal renewed);
    later = later;
  }

-- the same changes, lent
pub as-lent : (lent changes : List EntryChange) (old new : SourceParts) (records : Records) (ordered : List (List ℕ)) → lent ≡ changes
    → AreChangesOf changes old new records ordered → AreChangesOf lent old new records ordered
as-lent lent changes old new records ordered is j = subst (λ l. AreChangesOf l old new records ordered) (sym is) j

-- ---- a change of one entry, or of none

-- a source whose records are right was edited at the entry of a change, and the edited one has its file; these
-- are its glyphs in their order
pub record IsChangeOf (change : Option EntryChange) (old new : SourceParts) (records : Records) (ordered : List (List ℕ)) : Type 0 where
  pub right : IsRight old records
  pub edited : IsEditedAt (changed_keys (option_to_list change)) old new
  pub bodies : AllByRecursion (HasBody new) (option_to_list change)
  pub unmoved : (g : List ℕ) → was_moved (option_to_list change) g ≡ false
  pub file : file_check new ≡ Ok tt
  pub distinct : AreDistinct (glyph_names new.items)
  pub order : IsInOrder (was_moved (option_to_list change)) old new
  pub names : ordered ≡ glyph_names new.items

pub alone : (change : Option EntryChange) → AreDistinctKeys (changed_keys (option_to_list change))
alone None = tt
alone (Some change) = (refl, tt)

are-changes : (change : Option EntryChange) (old new : SourceParts) (records : Records) (ordered : List (List ℕ)) → IsChangeOf change old new records ordered
    → AreChangesOf (option_to_list change) old new records ordered
are-changes change old new records ordered j = record {
  right = j.right;
  edited = j.edited;
  keys = alone change;
  bodies = j.bodies;
  file = j.file;
  distinct = j.distinct;
  order = j.order;
  last = one-last change old new _ j.right.kept (has-its-body new j.file) j.edited j.bodies j.distinct j.unmoved;
  names = j.names;
}

pub as-list : (changes : List EntryChange) (change : Option EntryChange) (old new : SourceParts) (records : Records) (ordered : List (List ℕ)) → changes ≡ option_to_list change
    → IsChangeOf change old new records ordered → AreChangesOf changes old new records ordered
as-list changes change old new records ordered is j =
    subst (λ l. AreChangesOf l old new records ordered) (sym is) (are-changes change old new records ordered j)

-- ---- the entry that an edit changes

reported-file : (s : SourceParts) (reported : List Reported) → source_glyphs s ≡ Ok reported → file_check s ≡ Ok tt
reported-file s reported e = by (file_check s) e where
  by : (r : Result (Unit {0}) Fault) → (r >>= λ checked. glyphs (bodies s.items) (glyph_names s.items)) ≡ Ok reported → r ≡ Ok tt
  by (Ok checked) e = refl
  by (Err fault) e = absurd (cc)

-- where an edit was made of a source whose records are right, its change may be prepared
pub entry-changed : (records : Records) (edit : Edit) (new : SourceParts) → IsEdited records edit new → file_check new ≡ Ok tt → (change : Option EntryChange)
    → ((old new : SourceParts) → IsMadeByEdit edit old new → IsChanged edit old new change) → (changes : List EntryChange) → changes ≡ option_to_list change
    → MayBePrepared changes records (glyph_names new.items)
entry-changed records edit new e file change after_change changes alone =
    let compiled = bodies-fine e.old (reported-file e.old e.right.kept.glyphs e.right.kept.faultless) in
    let is = after_change e.old new (record { pairs = e.pairs; made_pairs = e.made_pairs; compiled = compiled; well = e.well; well_made = e.well_made; made = e.made }) in (
      e.old,
      (
        new,
        as-list changes change e.old new records (glyph_names new.items) alone (record {
          right = e.right;
          edited = is.edited;
          bodies = is.bodies;
          unmoved = is.unmoved;
          file = file;
          distinct = names_distinct new e.well_made;
          order = is.order;
          names = refl;
        }),
      ),
    )
