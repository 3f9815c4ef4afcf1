-- The edits of a batch, one after another.
use Rattle.std.proofs.Common.{◌≡◌, ℕ, pos, negsuc, Bool, true, false, cond, List, [], ◌∷◌, ◌++◌, filter, map, reverse, refl, sym, ◌∙◌, ap, subst, inl, inr, Option, Some, None, Result, Ok, Err}
use Rattle.std.specs.Prelude.{◌||◌, ◌&&◌}
use Rattle.std.specs.List.{list_any, AllByRecursion}
use Rattle.std.specs.Option.{option_map, option_or, option_to_list}
use Rattle.std.specs.Result.{result_ok}
use Rattle.std.proofs.lemmas.Bool.{or_parts}
use Rattle.std.proofs.lemmas.List.{map-append, reverse-append}
use Rattle.std.proofs.lemmas.List.Elements.{filter-append}
use Rattle.std.proofs.lemmas.List.Folds.{list_any-append}
use Rattle.t1_frac.specs.declared.fault.Code.{Code}
use Rattle.t1_frac.specs.declared.fault.Fault.{Fault}
use Rattle.t1_frac.specs.declared.fault.Place.{Place}
use Rattle.t1_frac.specs.declared.fault.Place.TheVariants as places
use Rattle.t1_frac.specs.Outcome.{reported_at, ◌>>=◌}
use Rattle.t1_code.specs.declared.command.Command.{Command}
use Rattle.t1_code.specs.Words.{commands}
use Rattle.t1_parts.specs.SourceParts.{SourceParts}
use Rattle.t1_source.specs.declared.edit.Edit.{Edit}
use Rattle.t1_source.specs.declared.edit.Edit.TheVariants.{ReplaceGlyph, AddGlyph, RemoveGlyph, ReplaceSubr, AddSubr, RemoveSubr, Encode, Unencode, LenIv, Kern, Unkern}
use Rattle.t1_source.specs.declared.editing.Change.{Change}
use Rattle.t1_pairs.specs.declared.pairs.Pair.{Pair}
use Rattle.t1_source.specs.Changes.{changed}
use Rattle.t1_source.specs.Editing.{body_words, edited}
use Rattle.t1_source.specs.WellFormed.{IsWellFormed}
use Rattle.t1_run.specs.Run.{Key, Subr, Glyph}
use Rattle.t1_run.specs.Footprint.{Includes, SameAt}
use Rattle.t1_run.specs.RunKeys.{body_at, key_eq}
use Rattle.t1_run.specs.Touched.{is_key_of, SameBut}
use Rattle.t1_font.specs.Bodies.{bodies}
use Rattle.t1_font.specs.Glyphs.{glyph_names}
use Rattle.t1_font.proofs.Keys.{at-same, included, key-same}
use Rattle.t1_cache.specs.Edited.{body_after, IsEditedAt}
use Rattle.t1_cache.specs.EditKeys.{named}
use Rattle.t1_cache.proofs.Distinct.{names_distinct}
use Rattle.t1_cache.proofs.EditedBodies.{body_edited}
use Rattle.t1_cache.proofs.EditedNames.{names_edited}
use Rattle.t1_cache.proofs.Edits.{edits_named}
use Rattle.t1_cache.proofs.Turns.{turns}
use Rattle.t1_rerun.specs.Renewing.{entry_key}
use Rattle.t1_rerun.specs.EntryChanges.{edit_change, number_within, put_key, put_number, KeyChange}
use Rattle.t1_rerun.proofs.EditChecks.{edits_checked}
use Rattle.t1_rerun.proofs.Entries.{key-named}
use Rattle.t1_held.specs.declared.batch.entries.EditedEntry.{EditedEntry}
use Rattle.t1_held.specs.declared.batch.entries.AfterEdit.{AfterEdit}
use Rattle.t1_held.specs.Batch.{adds, after_commands, after_edit, body_of, edited_entries, entry_edit, has_fault, is_fault, keys, Draft, EntryEdit}
use Rattle.t1_held.specs.Drafting.{added_last_first, last_body, names_back, was_added, IsEditedBy, IsSoundBut}
use Rattle.t1_held.proofs.Sounding.{all-sound, edit-sound}
use Rattle.t1_held.proofs.Ordering.{begins, edit-order, edit-turn, none-in-turn, order-as, turn-as, InTurn}

-- a source without edits
pub no-edits : (s : SourceParts) → IsWellFormed s → IsEditedBy [] s s
no-edits s well = record {
  edited = record { bodies = record { same = same }; order = refl };
  order = begins (glyph_names s.items);
  last = none-in-turn (glyph_names s.items);
  bodies = λ k body none. absurd (cc);
  sound = λ fine none. fine;
  others = λ fine. all-sound [] s.items fine;
  well = well;
} where
  same : (k : Key) → (Includes [] k → ⊥) → SameAt (bodies s.items) (bodies s.items) k
  same (Subr n) other = refl
  same (Glyph g) other = refl

-- the copy of a source
pub first-draft : (s copy : SourceParts) (entries : List EditedEntry) → copy ≡ s → entries ≡ [] → IsWellFormed s → IsEditedBy (map entry_edit entries) s copy
first-draft s copy entries same none well =
    subst (λ es. IsEditedBy (map entry_edit es) s copy) (sym none) (subst (IsEditedBy [] s) (sym same) (no-edits s well))

-- ---- the entries

abbrev noted_of : Bool → AfterEdit → Key → EntryEdit
noted_of added after key = record { key = key; added = added; after = after }

noted-keys : (added : Bool) (after : AfterEdit) (ks : List Key) → keys (map (noted_of added after) ks) ≡ ks
noted-keys added after [] = refl
noted-keys added after (k ∷ ks) = ap (λ l. k ∷ l) (noted-keys added after ks)

-- the entries of an edit are those that it names
pub entry-keys : (edit : Edit) → keys (edited_entries edit) ≡ named edit
entry-keys edit = noted-keys (adds edit) (after_edit edit) (named edit)

more-keys : (entries : List EntryEdit) (edit : Edit) → keys entries ++ named edit ≡ keys (entries ++ edited_entries edit)
more-keys entries edit = ap (λ l. keys entries ++ l) (sym (entry-keys edit)) ∙ sym (map-append (λ e. e.key) entries (edited_entries edit))

listed : (f : Key → EntryEdit) (o : Option Key) → option_to_list (option_map f o) ≡ map f (option_to_list o)
listed f None = refl
listed f (Some k) = refl

noted : (o : Option EditedEntry) → map entry_edit (option_to_list o) ≡ option_to_list (option_map entry_edit o)
noted None = refl
noted (Some e) = refl

-- the entry that is noted of an edit that is made
pub entry-noted : (s : SourceParts) (k : List Pair) (edit : Edit) (made : SourceParts) (ps : List Pair) (entry : Option EditedEntry) → edited s k edit ≡ Ok (made, ps)
    → option_map entry_edit entry ≡ option_map (noted_of (adds edit) (after_edit edit)) (entry_key edit) → map entry_edit (option_to_list entry) ≡ edited_entries edit
entry-noted s k edit made ps entry e is =
    noted entry ∙ ap option_to_list is ∙ listed (noted_of (adds edit) (after_edit edit)) (entry_key edit) ∙ ap (map (noted_of (adds edit) (after_edit edit))) (key-named s k edit made ps e)

-- with the others
pub entries-noted : (s : SourceParts) (k : List Pair) (edit : Edit) (made : SourceParts) (ps : List Pair) (entry : Option EditedEntry) (old new : List EditedEntry)
    → edited s k edit ≡ Ok (made, ps) → option_map entry_edit entry ≡ option_map (noted_of (adds edit) (after_edit edit)) (entry_key edit) → new ≡ old ++ option_to_list entry
    → map entry_edit new ≡ map entry_edit old ++ edited_entries edit
entries-noted s k edit made ps entry old new e is more =
    ap (map entry_edit) more ∙ map-append entry_edit old (option_to_list entry)
    ∙ ap (λ l. map entry_edit old ++ l) (entry-noted s k edit made ps entry e is)

-- ---- what is known of the entries after one edit more

added-keys : (es fs : List EntryEdit) → added_last_first (es ++ fs) ≡ added_last_first fs ++ added_last_first es
added-keys es fs =
    ap (λ l. reverse (keys l)) (filter-append (λ e. e.added) es fs)
    ∙ ap reverse (map-append (λ e. e.key) (filter (λ e. e.added) es) (filter (λ e. e.added) fs))
    ∙ reverse-append (keys (filter (λ e. e.added) es)) (keys (filter (λ e. e.added) fs))

more-added : (entries : List EntryEdit) (edit : Edit) → added_last_first (entries ++ edited_entries edit) ≡ added_last_first (edited_entries edit) ++ added_last_first entries
more-added entries edit = added-keys entries (edited_entries edit)

-- the last of all is the last of the later ones, or else that of the earlier ones
or-turned : {X : Type 0} (a b c : Option X) → option_or (option_or a b) c ≡ option_or a (option_or b c)
or-turned (Some x) b c = refl
or-turned None b c = refl

pub last-append : (es fs : List EntryEdit) (k : Key) → last_body (es ++ fs) k ≡ option_or (last_body fs k) (last_body es k)
last-append [] fs k = sym (or-none (last_body fs k)) where
  or-none : (r : Option (Option (List Command))) → option_or r None ≡ r
  or-none None = refl
  or-none (Some x) = refl
last-append (e ∷ es) fs k =
    ap (λ r. option_or r (cond (key_eq k e.key) (Some (body_of e.after)) None)) (last-append es fs k)
    ∙ or-turned (last_body fs k) (last_body es k) (cond (key_eq k e.key) (Some (body_of e.after)) None)

body-of-commands : (r : Result (List Command) Code) → body_of (after_commands r) ≡ result_ok r
body-of-commands (Ok body) = refl
body-of-commands (Err code) = refl

-- what the entry is after the edit is its body then
body-of-edit : (edit : Edit) → body_of (after_edit edit) ≡ body_after edit
body-of-edit (ReplaceGlyph g body) = body-of-commands (commands (body_words body))
body-of-edit (AddGlyph g body) = body-of-commands (commands (body_words body))
body-of-edit (RemoveGlyph g) = refl
body-of-edit (ReplaceSubr n body) = body-of-commands (commands (body_words body))
body-of-edit (AddSubr n body) = body-of-commands (commands (body_words body))
body-of-edit (RemoveSubr n) = refl
body-of-edit (Encode code g) = refl
body-of-edit (Unencode code) = refl
body-of-edit (LenIv n) = refl
body-of-edit (Kern left right v) = refl
body-of-edit (Unkern left right) = refl

-- entries that one edit names are all the same after it
last-of : (added : Bool) (after : AfterEdit) (ks : List Key) (k : Key)
    → last_body (map (noted_of added after) ks) k ≡ cond (list_any (key_eq k) ks) (Some (body_of after)) None
last-of added after [] k = refl
last-of added after (j ∷ ks) k =
    ap (λ r. option_or r (cond (key_eq k j) (Some (body_of after)) None)) (last-of added after ks k)
    ∙ by (list_any (key_eq k) ks) (key_eq k j)
  where
    by : (b c : Bool) → option_or (cond b (Some (body_of after)) None) (cond c (Some (body_of after)) None) ≡ cond (c || b) (Some (body_of after)) None
    by true true = refl
    by true false = refl
    by false true = refl
    by false false = refl

among-keys : (ks : List Key) (k : Key) → list_any (key_eq k) ks ≡ true → Includes ks k
among-keys [] k h = absurd (cc)
among-keys (j ∷ ks) k h = by (key_eq k j) refl h (among-keys ks k) where
  by : (b : Bool) → key_eq k j ≡ b → (b || list_any (key_eq k) ks) ≡ true → (list_any (key_eq k) ks ≡ true → Includes ks k) → Includes (j ∷ ks) k
  by true on h later = inl (sym (key-same k j on))
  by false off h later = inr (later h)

-- a key that an edit names has its body after it, and another one has the body that it had
body-after : (edit : Edit) (old new : SourceParts) (same : SameBut (named edit) (bodies old.items) (bodies new.items))
    → ((key : Key) → Includes (named edit) key → body_at (bodies new.items) key ≡ body_after edit) → (k : Key) (was : Option (Option (List Command)))
    → ((body : Option (List Command)) → was ≡ Some body → body_at (bodies old.items) k ≡ body) → (body : Option (List Command))
    → option_or (last_body (edited_entries edit) k) was ≡ Some body → body_at (bodies new.items) k ≡ body
body-after edit old new same its k was before body last =
    by (list_any (key_eq k) (named edit)) refl (ap (λ r. option_or r was) (sym (last-of (adds edit) (after_edit edit) (named edit) k)) ∙ last)
  where
    by : (b : Bool) → list_any (key_eq k) (named edit) ≡ b → option_or (cond b (Some (body_of (after_edit edit))) None) was ≡ Some body → body_at (bodies new.items) k ≡ body
    by true among last =
        let is : body_of (after_edit edit) ≡ body = cc in
        its k (among-keys (named edit) k among) ∙ sym (body-of-edit edit) ∙ is
    by false off last =
        sym (at-same (bodies old.items) (bodies new.items) k
        (same.same k (λ i. let never : true ≡ false = sym (included (named edit) k i) ∙ off in absurd (cc))))
        ∙ before body last

-- words without a fault
abbrev Checked : Type 0
Checked = Result (Unit {0}) Fault

abbrev unit : Result (Option KeyChange) Fault → Checked
unit r = r >>= λ change. Ok tt

fine-key : (key : Key) (place : Place) (words : List (List ℕ)) → (is_fault (after_commands (commands words)) || false) ≡ false
    → unit (put_key key place words) ≡ Ok tt
fine-key key place words = by (commands words) where
  by : (r : Result (List Command) Code) → (is_fault (after_commands r) || false) ≡ false
      → unit (reported_at place r >>= λ body. Ok (Some (record { key = key; body = Some body; moved = false }))) ≡ Ok tt
  by (Ok body) fine = refl
  by (Err code) fine = absurd (cc)

fine-number : (number : Option ℕ) (words : List (List ℕ)) → (is_fault (after_commands (commands words)) || false) ≡ false
    → unit (put_number number words) ≡ Ok tt
fine-number None words fine = refl
fine-number (Some n) words fine = fine-key (Subr n) (places.Subr n) words fine

pub fine-change : (edit : Edit) → has_fault (edited_entries edit) ≡ false → unit (edit_change edit) ≡ Ok tt
fine-change (ReplaceGlyph g body) fine = fine-key (Glyph g) (places.Glyph g) (body_words body) fine
fine-change (AddGlyph g body) fine = fine-key (Glyph g) (places.Glyph g) (body_words body) fine
fine-change (RemoveGlyph g) fine = refl
fine-change (ReplaceSubr (pos n) body) fine = fine-number (number_within (pos n)) (body_words body) fine
fine-change (ReplaceSubr (negsuc n) body) fine = refl
fine-change (AddSubr (pos n) body) fine = fine-number (number_within (pos n)) (body_words body) fine
fine-change (AddSubr (negsuc n) body) fine = refl
fine-change (RemoveSubr n) fine = refl
fine-change (Encode code g) fine = refl
fine-change (Unencode code) fine = refl
fine-change (LenIv n) fine = refl
fine-change (Kern left right v) fine = refl
fine-change (Unkern left right) fine = refl

-- ---- one edit more

pub edit-drafted : (entries : List EntryEdit) (s old : SourceParts) (k : List Pair) (edit : Edit) (new : SourceParts) (ps : List Pair)
    → edited old k edit ≡ Ok (new, ps) → IsWellFormed new → IsEditedBy entries s old → IsEditedBy (entries ++ edited_entries edit) s new
edit-drafted entries s old k edit new ps e well was = record {
  edited = subst (λ ks. IsEditedAt ks s new) (more-keys entries edit) (turns (keys entries) (named edit) s old new was.edited (edits_named old k edit new ps e));
  order =
      order-as (λ g. was_added entries g || was_added (edited_entries edit) g) (was_added (entries ++ edited_entries edit)) (glyph_names s.items) (glyph_names new.items)
      (λ g. sym (list_any-append (λ x. x.added && is_key_of g x.key) entries (edited_entries edit)))
      (edit-order edit (was_added entries) (glyph_names s.items) (glyph_names old.items) (glyph_names new.items)
      (names_edited old k edit new ps was.well e) (names_distinct new well) was.order);
  last =
      subst (λ ls. InTurn (was_added (entries ++ edited_entries edit)) (glyph_names s.items) (glyph_names new.items) (names_back ls)) (sym (more-added entries edit))
      (turn-as (λ g. was_added entries g || was_added (edited_entries edit) g) (was_added (entries ++ edited_entries edit)) (glyph_names s.items) (glyph_names new.items)
      (names_back (added_last_first (edited_entries edit) ++ added_last_first entries))
      (λ g. sym (list_any-append (λ x. x.added && is_key_of g x.key) entries (edited_entries edit)))
      (edit-turn edit (was_added entries) (glyph_names s.items) (glyph_names old.items) (glyph_names new.items) (added_last_first entries)
      (names_edited old k edit new ps was.well e) (names_distinct new well) was.last));
  bodies = λ key body last.
      body-after edit old new (edits_named old k edit new ps e).bodies (body_edited old k edit new ps was.well e) key (last_body entries key) (was.bodies key) body
      (sym (last-append entries (edited_entries edit) key) ∙ last);
  sound = λ fine none.
      let parts = or_parts (has_fault entries) (has_fault (edited_entries edit)) (sym (list_any-append (λ x. is_fault x.after) entries (edited_entries edit)) ∙ none) in
      edits_checked old k edit new ps (was.sound fine parts.0) e ∙ fine-change edit parts.1;
  others = λ fine.
      subst (λ ks. AllByRecursion (IsSoundBut ks) new.items) (more-keys entries edit)
      (edit-sound (keys entries) old k edit new ps e (was.others fine));
  well = well;
}

-- ---- the call

module _ (old : Draft) (edit : Edit) (change : Change) (source new : SourceParts) (pairs ps : List Pair) (entry : Option EditedEntry) (es mid made : List EditedEntry)
    (view : record { source = source; pairs = pairs; keys = keys (map entry_edit es) } ≡ old)
    (reported : edited source pairs edit ≡ Ok (changed change source pairs))
    (source-is : new ≡ (changed change source pairs).0) (pairs-are : ps ≡ (changed change source pairs).1)
    (named-is : option_map entry_edit entry ≡ option_map (noted_of (adds edit) (after_edit edit)) (entry_key edit))
    (room : mid ≡ es) (more : made ≡ mid ++ option_to_list entry) where
  is-made : edited source pairs edit ≡ Ok (new, ps)
  is-made = reported ∙ ap Ok (sym (λ j. (source-is j, pairs-are j)))

  are-noted : map entry_edit made ≡ map entry_edit es ++ edited_entries edit
  are-noted = entries-noted source pairs edit new ps entry es made is-made named-is (more ∙ ap (λ l. l ++ option_to_list entry) room)

  pub drafts : (edited old.source old.pairs edit ≡ Ok (new, ps)) × (keys (map entry_edit made) ≡ old.keys ++ named edit)
  drafts = (
    ap (λ (d : Draft). edited d.source d.pairs edit) (sym view) ∙ is-made,
    ap keys are-noted ∙ sym (more-keys (map entry_edit es) edit) ∙ ap (λ (d : Draft). d.keys ++ named edit) view,
  )

  pub draft-of : IsWellFormed (changed change source pairs).0 → (s : SourceParts) → IsEditedBy (map entry_edit es) s source → IsEditedBy (map entry_edit made) s new
  draft-of well s was =
      subst (λ l. IsEditedBy l s new) (sym are-noted)
      (edit-drafted (map entry_edit es) s source pairs edit new ps is-made (subst IsWellFormed (sym source-is) well) was)
