-- What edits make of the charstrings that are held.
use Rattle.std.proofs.Common.{◌≡◌, ◌<◌, ◌+◌, ℕ, Bool, true, false, cond, ◌&&◌, ◌||◌, List, [], ◌∷◌, map, drop, filter, get_or, length, Option, None, Result, Ok, Err, refl, ap, sym, ◌∙◌, subst}
use Rattle.std.specs.Prelude.{is_none, IfOk, MatchResult}
use Rattle.std.specs.List.{AllByRecursion, list_any}
use Rattle.std.specs.Option.{option_map, option_or}
use Rattle.t1_parts.specs.LenIV.{lead}
use Rattle.t1_parts.specs.SourceParts.{SourceParts}
use Rattle.t1_run.specs.Run.{Key}
use Rattle.t1_run.specs.RunKeys.{body_at, key_eq}
use Rattle.t1_font.specs.Bodies.{bodies, bodies_check}
use Rattle.t1_font.proofs.Compiling.{or-assoc, or-none}
use Rattle.t1_font.specs.declared.owned_key.OwnedKey.{OwnedKey}
use Rattle.t1_charstrings.specs.declared.entries.Charstrings.{Charstrings}
use Rattle.t1_charstrings.specs.declared.edited.EditedEntries.{EditedEntries}
use Rattle.t1_charstrings.specs.Batch.{is_gone, AreEdits, AreFresh, AreGone, AreOnce}
use Rattle.t1_charstrings.specs.Entries.{KeptCharstring, encrypted}
use Rattle.t1_charstrings.specs.Kept.{charstring_at}
use Rattle.t1_font.specs.OwnedKeys.{key_of}
use Rattle.t1_font.proofs.Keys.{key-same}
use Rattle.t1_rerun.specs.declared.entry_change.EntryChange.{EntryChange}
use Rattle.t1_rerun.specs.Settled.{changed_keys, AreDistinctKeys, HasBody}
use Rattle.t1_source.specs.WellFormed.{IsWellFormed}
use Rattle.t1_source.specs.EditedSource.{made_of}
use Rattle.t1_font.specs.Assembly.{file_check}
use Rattle.t1_font.specs.Glyphs.{glyph_names}
use Rattle.t1_charstrings.specs.Kept.{AreEncrypted}
use Rattle.t1_cache.specs.Edited.{stale, IsEditedAt}
use Rattle.t1_cache.specs.Recorded.{RecordedGlyph as KeptGlyph}
use Rattle.t1_cache.proofs.Distinct.{names_distinct}
use Rattle.t1_rerun.specs.Changing.{AreChangesOf}
use Rattle.t1_rerun.specs.Opened.{runs_where}
use Rattle.t1_rerun.specs.Renewing.{IsRunWhereStale}
use Rattle.t1_rerun.proofs.ChangedBodies.{change-first}
use Rattle.t1_held.specs.Drafting.{AreBatchChanges}
use Rattle.t1_held.specs.Members.{HaveSameKeys}
use Rattle.t1_held.proofs.Members.{same_stale, same_stale_glyphs}
use Rattle.t1_held.specs.declared.held.Held.{Held}
use Rattle.t1_held.specs.Entries.{fresh_in, fresh_one, gone_keys}
use Rattle.t1_held.specs.declared.preparing.Edits.{Edits}
use Rattle.t1_held.specs.Edits.{AreChanges, AreRight}
use Rattle.t1_held.specs.Ready.{commit_runs}
use Rattle.t1_held.specs.Held.{IsHeld}

-- ---- the charstrings of changes, one after another

pub fresh-more : (front : ℕ) (changes : List EntryChange) (i : ℕ) (c : EntryChange) (old new : Charstrings) → i < length changes → c ≡ get_or changes i c
    → ((k : Key) → option_or (fresh_in front (drop i changes) k) (charstring_at old k) ≡ fresh_in front changes k)
    → ((k : Key) → charstring_at new k ≡ option_or (fresh_one front c k) (charstring_at old k))
    → (k : Key) → option_or (fresh_in front (drop (i + 1) changes) k) (charstring_at new k) ≡ fresh_in front changes k
fresh-more front changes i c old new inside is before put k =
    let rest = drop (i + 1) changes in
    ap (option_or (fresh_in front rest k)) (put k)
    ∙ sym (or-assoc (fresh_in front rest k) (fresh_one front c k) (charstring_at old k))
    ∙ sym (ap (λ l. option_or (fresh_in front l k) (charstring_at old k)) (change-first changes i c inside is))
    ∙ before k

-- ---- they are those of the edited source

module _ (front : ℕ) (made : SourceParts) (k : Key) where
  abbrev wanted-at : Bool → Option KeptCharstring
  wanted-at there = cond there (option_map (encrypted front k) (body_at (bodies made.items) k)) None

  fresh-none : (changes : List EntryChange) → list_any (key_eq k) (changed_keys changes) ≡ false → fresh_in front changes k ≡ None
  fresh-none [] e = refl
  fresh-none (c ∷ changes) e = by (key_eq k (key_of c.named)) e (fresh-none changes) where
    by : (b : Bool) → (b || list_any (key_eq k) (changed_keys changes)) ≡ false
        → (list_any (key_eq k) (changed_keys changes) ≡ false → fresh_in front changes k ≡ None)
        → option_or (fresh_in front changes k) (cond b (option_map (encrypted front k) c.body) None) ≡ None
    by true e rest = absurd (cc)
    by false e rest = sym (or-none (fresh_in front changes k)) ∙ rest e

  fresh-at : (changes : List EntryChange) → AreDistinctKeys (changed_keys changes) → AllByRecursion (HasBody made) changes
      → fresh_in front changes k ≡ wanted-at (list_any (key_eq k) (changed_keys changes))
  fresh-at [] distinct has = refl
  fresh-at (c ∷ changes) distinct has = by (key_eq k (key_of c.named)) refl (fresh-at changes distinct.1 has.1) where
    by : (b : Bool) → key_eq k (key_of c.named) ≡ b → fresh_in front changes k ≡ wanted-at (list_any (key_eq k) (changed_keys changes))
        → option_or (fresh_in front changes k) (cond b (option_map (encrypted front k) c.body) None) ≡ wanted-at ((b || list_any (key_eq k) (changed_keys changes)))
    by true on rest =
        let is : k ≡ key_of c.named = key-same k (key_of c.named) on in
        let none : fresh_in front changes k ≡ None = fresh-none changes (ap (λ j. list_any (key_eq j) (changed_keys changes)) is ∙ distinct.0) in
        let body : body_at (bodies made.items) k ≡ c.body = ap (body_at (bodies made.items)) is ∙ has.0 in
        ap (λ r. option_or r (option_map (encrypted front k) c.body)) none ∙ sym (ap (option_map (encrypted front k)) body)
    by false off rest = sym (or-none (fresh_in front changes k)) ∙ rest

fresh-are : (front : ℕ) (made : SourceParts) (changes : List EntryChange) (fresh : Charstrings) → AreDistinctKeys (changed_keys changes)
    → AllByRecursion (HasBody made) changes → ((k : Key) → charstring_at fresh k ≡ fresh_in front changes k) → AreFresh front (changed_keys changes) made fresh
fresh-are front made changes fresh distinct has are k =
    are k ∙ fresh-at front made k changes distinct has

-- ---- the entries that are gone

gone-among : (k : Key) (gone : List OwnedKey) → is_gone gone k ≡ list_any (key_eq k) (map key_of gone)
gone-among k [] = refl
gone-among k (g ∷ gone) = rw (gone-among k gone) refl

-- a change in front of others adds its key to those that are gone, where it has no body
gone-first : (c : EntryChange) (changes : List EntryChange) (k : Key) (b : Bool) → is_none c.body ≡ b
    → list_any (key_eq k) (gone_keys (c ∷ changes)) ≡ cond b (key_eq k (key_of c.named) || list_any (key_eq k) (gone_keys changes)) (list_any (key_eq k) (gone_keys changes))
gone-first c changes k true is = rw is refl
gone-first c changes k false is = rw is refl

module _ (made : SourceParts) (k : Key) where
  none-gone : (changes : List EntryChange) → list_any (key_eq k) (changed_keys changes) ≡ false → list_any (key_eq k) (gone_keys changes) ≡ false
  none-gone [] e = refl
  none-gone (c ∷ changes) e = gone-first c changes k (is_none c.body) refl ∙ by (is_none c.body) (key_eq k (key_of c.named)) e (none-gone changes) where
    by : (n b : Bool) → (b || list_any (key_eq k) (changed_keys changes)) ≡ false
        → (list_any (key_eq k) (changed_keys changes) ≡ false → list_any (key_eq k) (gone_keys changes) ≡ false)
        → cond n (b || list_any (key_eq k) (gone_keys changes)) (list_any (key_eq k) (gone_keys changes)) ≡ false
    by n true e rest = absurd (cc)
    by true false e rest = rest e
    by false false e rest = rest e

  gone-at : (changes : List EntryChange) → AreDistinctKeys (changed_keys changes) → AllByRecursion (HasBody made) changes
      → list_any (key_eq k) (gone_keys changes) ≡ (list_any (key_eq k) (changed_keys changes) && is_none (body_at (bodies made.items) k))
  gone-at [] distinct has = refl
  gone-at (c ∷ changes) distinct has =
      gone-first c changes k (is_none c.body) refl ∙ by (is_none c.body) (key_eq k (key_of c.named)) refl refl (gone-at changes distinct.1 has.1) where
        by : (n b : Bool) → is_none c.body ≡ n → key_eq k (key_of c.named) ≡ b
            → list_any (key_eq k) (gone_keys changes) ≡ (list_any (key_eq k) (changed_keys changes) && is_none (body_at (bodies made.items) k))
            → cond n (b || list_any (key_eq k) (gone_keys changes)) (list_any (key_eq k) (gone_keys changes))
            ≡ ((b || list_any (key_eq k) (changed_keys changes)) && is_none (body_at (bodies made.items) k))
        by n true gone on rest =
            let is : k ≡ key_of c.named = key-same k (key_of c.named) on in
            let body : body_at (bodies made.items) k ≡ c.body = ap (body_at (bodies made.items)) is ∙ has.0 in
            here n ∙ sym (ap is_none body ∙ gone)
          where
            here : (n : Bool) → cond n true (list_any (key_eq k) (gone_keys changes)) ≡ n
            here true = refl
            here false = none-gone changes (ap (λ j. list_any (key_eq j) (changed_keys changes)) (key-same k (key_of c.named) on) ∙ distinct.0)
        by true false gone off rest = rest
        by false false gone off rest = rest

gone-are : (made : SourceParts) (changes : List EntryChange) (gone : List OwnedKey) → AreDistinctKeys (changed_keys changes)
    → AllByRecursion (HasBody made) changes → map key_of gone ≡ gone_keys changes → AreGone (changed_keys changes) made gone
gone-are made changes gone distinct has are k =
    gone-among k gone ∙ ap (list_any (key_eq k)) are ∙ gone-at made k changes distinct has

-- each stands there once
gone-once : (made : SourceParts) (changes : List EntryChange) → AreDistinctKeys (changed_keys changes) → AreOnce (gone_keys changes)
gone-once made [] d = tt
gone-once made (c ∷ changes) d = by (is_none c.body) (gone-once made changes d.1) where
  by : (b : Bool) → AreOnce (gone_keys changes)
      → AreOnce (changed_keys (cond b (c ∷ filter (λ x. is_none x.body) changes) (filter (λ x. is_none x.body) changes)))
  by true rest = (none-gone made (key_of c.named) changes d.0, rest)
  by false rest = rest

-- ---- edits

pub edits_are : (s made : SourceParts) (changes : List EntryChange) (c : Charstrings) (entries : EditedEntries) → AreEncrypted s c → IsWellFormed made
    → bodies_check made.items ≡ Ok tt → IsEditedAt (changed_keys changes) s made → AreDistinctKeys (changed_keys changes) → AllByRecursion (HasBody made) changes
    → ((k : Key) → charstring_at entries.fresh k ≡ fresh_in (lead s) changes k) → map key_of entries.gone.items ≡ gone_keys changes → AreEdits s made c entries
edits_are s made changes c entries kept well sound edited distinct has fresh gone = record {
  keys = changed_keys changes;
  edit = record { kept = kept; well = well; sound = sound; same = edited.bodies };
  fresh = fresh-are (lead s) made changes entries.fresh distinct has fresh;
  gone = gone-are made changes entries.gone.items distinct has gone;
  once = subst AreOnce (sym gone) (gone-once made changes distinct);
}

pub run-where-stale : (count : ℕ) (ks ls : List Key) (s : SourceParts) (kept l : List KeptGlyph) → HaveSameKeys ks ls
    → AllByRecursion (IsRunWhereStale count ks s kept) l → AllByRecursion (IsRunWhereStale count ls s kept) l
run-where-stale count ks ls s kept [] same all = tt
run-where-stale count ks ls s kept (k ∷ l) same all = (one, run-where-stale count ks ls s kept l same all.1) where
  one : IsRunWhereStale count ls s kept k
  one = record {
    stale = λ is. all.0.stale (same_stale ks ls same s k.name ∙ is);
    fresh = λ is. all.0.fresh (same_stale ks ls same s k.name ∙ is);
  }

-- what a batch changes
pub batch_changes_are : (s made : SourceParts) (ks : List Key) (changes : List EntryChange) (h : Held) → IsHeld s h → IsWellFormed made
    → AreBatchChanges s made ks changes → AreChanges s made ks h changes
batch_changes_are s made ks changes h held well are = record {
  same = are.same;
  edited = are.edited;
  keys = are.keys;
  bodies = are.bodies;
  compiled = are.compiled;
  prepared = λ file. record {
    right = held.right;
    edited = are.edited;
    keys = are.keys;
    bodies = are.bodies;
    file = file;
    distinct = names_distinct made well;
    order = are.order;
    last = are.last;
    names = refl;
  };
}

-- as many runs as stale glyphs
pub runs_are : (s made : SourceParts) (ks : List Key) (h : Held) (changes : List EntryChange) → AreChanges s made ks h changes → file_check made ≡ Ok tt
    → length (stale s (changed_keys changes) made) ≡ commit_runs ks s made
runs_are s made ks h changes are file =
    ap length (same_stale_glyphs (changed_keys changes) ks are.same s made) ∙ sym (ap (λ r. runs_where r (stale s ks made)) file)

-- what is said of the value of a result
pub mapped : {X E : Type 0} (P Q : X → Type 0) (R : E → Type 0) (r : Result X E) → ((x : X) → P x → Q x) → MatchResult r P R → MatchResult r Q R
mapped P Q R (Ok x) more h = more x h
mapped P Q R (Err e) more h = h

-- the same, of the value alone
pub mapped_ok : {X E : Type 0} (P Q : X → Type 0) (r : Result X E) → ((x : X) → P x → Q x) → IfOk r P → IfOk r Q
mapped_ok P Q (Ok x) more h = more x h
mapped_ok P Q (Err e) more h = tt

-- what edits change, by the order in which the glyphs of the source stand that they make
pub changes_of : (ks : List Key) (made : SourceParts) (h : Held) (e : Edits) → AreRight ks made h e → file_check (made_of e.made) ≡ Ok tt
    → AreChangesOf e.changes.items e.source.now made h.records (glyph_names (made_of e.made).items)
changes_of ks made h e right file =
    subst (λ (m : SourceParts). AreChangesOf e.changes.items e.source.now made h.records (glyph_names m.items)) (sym right.made)
    (right.changes.prepared (subst (λ m. file_check m ≡ Ok tt) right.made file))
