-- What became of the entries that edits name is what the edits changed.
use Rattle.std.proofs.Common.{◌≡◌, ℕ, Bool, true, false, cond, not, List, [], ◌∷◌, ◌++◌, map, filter, reverse, Option, None, Some, Result, Ok, Err, is_some, refl, sym, ◌∙◌, ap, subst}
use Rattle.std.specs.Prelude.{◌||◌, ◌&&◌}
use Rattle.std.specs.List.{list_any, AllByRecursion}
use Rattle.std.specs.Option.{option_or}
use Rattle.std.specs.Result.{result_ok}
use Rattle.std.specs.Str.{bytes_eq}
use Rattle.std.proofs.Math.Bool.{and-false, or-false, or-true}
use Rattle.std.proofs.lemmas.List.{map-append, reverse-append}
use Rattle.std.proofs.lemmas.List.Folds.{list_any-append}
use Rattle.t1_frac.specs.declared.fault.Code.{Code}
use Rattle.t1_frac.specs.declared.fault.Fault.{Fault}
use Rattle.t1_frac.specs.declared.fault.Place.{Place}
use Rattle.t1_frac.specs.declared.fault.Place.TheVariants as places
use Rattle.t1_frac.specs.declared.fault.Refusal.{Refusal}
use Rattle.t1_frac.specs.declared.fault.Refusal.TheVariants as refusals
use Rattle.t1_frac.specs.Outcome.{reported_at, ◌>>=◌, Refuses}
use Rattle.t1_code.specs.declared.command.Command.{Command}
use Rattle.t1_code.specs.Words.{commands}
use Rattle.t1_parts.specs.declared.item.Item.{Item}
use Rattle.t1_parts.specs.declared.item.Item.TheVariants as items
use Rattle.t1_parts.specs.SourceParts.{SourceParts}
use Rattle.t1_run.specs.Run.{Key, Glyph}
use Rattle.t1_run.specs.RunKeys.{body_at, key_eq}
use Rattle.t1_run.specs.Touched.{is_key_of}
use Rattle.t1_run.proofs.Within.{each-append}
use Rattle.t1_font.specs.Assembly.{file_check}
use Rattle.t1_font.specs.Bodies.{bodies, bodies_check, glyph_among, words_check}
use Rattle.t1_font.specs.Glyphs.{glyph_names}
use Rattle.t1_font.specs.OwnedKeys.{key_of}
use Rattle.t1_font.specs.declared.owned_key.OwnedKey.{OwnedKey}
use Rattle.t1_font.specs.declared.owned_key.OwnedKey.TheVariants as named
use Rattle.t1_font.proofs.Keys.{glyph-key}
use Rattle.t1_font.proofs.LengthLaws.{body_fault_reported}
use Rattle.t1_cache.proofs.Filtering.{among-passing, filter-as, passed}
use Rattle.t1_cache.proofs.Lists.{all-weaken}
use Rattle.t1_rerun.specs.declared.entry_change.EntryChange.{EntryChange}
use Rattle.t1_rerun.specs.Right.{has_glyph, IsInOrder}
use Rattle.t1_rerun.specs.Settled.{changed_keys, last_glyph, last_glyphs, was_moved, AreDistinctKeys, HasBody}
use Rattle.t1_held.specs.declared.batch.entries.EditedEntry.{EditedEntry}
use Rattle.t1_held.specs.Batch.{entry_edit, has_fault, is_fault, keys, EntryEdit}
use Rattle.t1_held.specs.Drafting.{added_last_first, last_body, names_back, was_added, AreBatchChanges, IsEditedBy}
use Rattle.t1_held.specs.Noting.{added_keys, after_taken, all_bodies, all_taken, kept_bodies_check, nothing_kept, other_keys, Kept}
use Rattle.t1_held.proofs.Faulty.{first-kept}
use Rattle.t1_held.proofs.Members.{same_edited}
use Rattle.t1_held.proofs.Noting.{added-any, added-back, added-or-other, all-reverse, bodies-last, change-reverse, changes-distinct, distinct-both, each-taken, has-reverse, has_body, has_change, has_key, last-append, last-named, left-at, moved-any, moved-reverse, named-back, names-last, none-last, taken-any, taken-distinct, IsTaken}
use Rattle.t1_held.proofs.Ordering.{order-as}

-- ---- bodies and names

abbrev Checked : Type 0
Checked = Result (Unit {0}) Fault

abbrev checks : Place → Result (List Command) Code → Checked
checks place r = reported_at place r >>= λ body. Ok tt

rest-fine : (r s : Checked) → (r >>= λ checked. s) ≡ Ok tt → s ≡ Ok tt
rest-fine (Ok u) s fine = fine
rest-fine (Err fault) s fine = absurd (cc)

-- in items whose bodies have no fault, a glyph has a body where its name stands there
present : (is : List Item) → bodies_check is ≡ Ok tt → (g : List ℕ) → is_some (glyph_among is g) ≡ list_any (bytes_eq g) (glyph_names is)
unfolding words_check
present [] fine g = refl
present (items.Plain l ∷ is) fine g = present is fine g
present (items.Section b n a ∷ is) fine g = present is fine g
present (items.Subr n words c ∷ is) fine g = present is (rest-fine (words_check (places.Subr n) words) (bodies_check is) fine) g
present (items.Glyph h words c ∷ is) fine g =
    by (commands words) fine (bytes_eq g h) (present is (rest-fine (words_check (places.Glyph h) words) (bodies_check is) fine) g)
  where
    by : (r : Result (List Command) Code) → (checks (places.Glyph h) r >>= λ checked. bodies_check is) ≡ Ok tt → (b : Bool)
        → is_some (glyph_among is g) ≡ list_any (bytes_eq g) (glyph_names is)
        → is_some (option_or (cond b (result_ok r) None) (glyph_among is g)) ≡ (b || list_any (bytes_eq g) (glyph_names is))
    by (Ok body) fine true rest = refl
    by (Ok body) fine false rest = rest
    by (Err code) fine b rest = absurd (cc)

-- the first fault of the bodies is that of the source
pub first-fault : (s : SourceParts) (is : List Item) (refusal : Refusal) → is ≡ s.items → Refuses refusal (bodies_check is) → Refuses refusal (file_check s)
first-fault s is refusals.Memory same h = tt
first-fault s is (refusals.Fault fault) same h = body_fault_reported s fault (sym (ap bodies_check same) ∙ h)

pub faults-noted : (es : List EditedEntry) → has_fault (map entry_edit es) ≡ list_any (λ e. is_fault e.after) es
faults-noted [] = refl
faults-noted (e ∷ es) = ap (λ b. is_fault e.after || b) (faults-noted es)

-- ---- what is kept of the entries

-- the last body of each
last-kept : (es : List EditedEntry) (k : Key) → all_bodies es nothing_kept k ≡ last_body (map entry_edit es) k
last-kept es k = bodies-last es nothing_kept k ∙ or-nothing (last_body (map entry_edit es) k) where
  or-nothing : (r : Option (Option (List Command))) → option_or r None ≡ r
  or-nothing None = refl
  or-nothing (Some x) = refl

named-kept : (es : List EditedEntry) (k : Key) → is_some (all_bodies es nothing_kept k) ≡ list_any (key_eq k) (keys (map entry_edit es))
named-kept es k = ap is_some (last-kept es k) ∙ last-named (map entry_edit es) k

-- the first fault of these is that of all bodies
pub first-of-edits : (es : List EditedEntry) (old new : SourceParts) → IsEditedBy (map entry_edit es) old new → bodies_check old.items ≡ Ok tt
    → (m : Kept) → ((k : Key) → m k ≡ all_bodies es nothing_kept k) → kept_bodies_check m new.items ≡ bodies_check new.items
first-of-edits es old new edited fine m kept =
    first-kept m (keys (map entry_edit es)) (λ k. ap is_some (kept k) ∙ named-kept es k) new.items (edited.others fine)

-- what became of the entries that edits name: those that one added stand last, each where it was added last
abbrev changes_by : List EditedEntry → List EntryChange
changes_by es =
    reverse (all_taken (all_bodies es nothing_kept) true (reverse (added_keys es))
    ++ all_taken (after_taken (reverse (added_keys es)) (all_bodies es nothing_kept)) false (other_keys es))

-- by what was noted
pub changes-noted : (es : List EditedEntry) (m : Kept) (added others : List OwnedKey) (changes : List EntryChange) → ((k : Key) → m k ≡ all_bodies es nothing_kept k)
    → added ≡ added_keys es → others ≡ other_keys es
    → changes ≡ reverse (all_taken m true (reverse added) ++ all_taken (after_taken (reverse added) m) false others) → changes ≡ changes_by es
changes-noted es m added others changes kept added-are others-are changes-are =
    changes-are
    ∙ (λ j. reverse (all_taken (λ k. kept k j) true (reverse (added-are j)) ++ all_taken (after_taken (reverse (added-are j)) (λ k. kept k j)) false (others-are j)))

module _ (es : List EditedEntry) (old new : SourceParts) (e : IsEditedBy (map entry_edit es) old new) (fine : bodies_check new.items ≡ Ok tt) where
  abbrev entries : List EntryEdit
  entries = map entry_edit es

  abbrev kept : Kept
  kept = all_bodies es nothing_kept

  abbrev added : List OwnedKey
  added = reverse (added_keys es)

  abbrev left : Kept
  left = after_taken added kept

  abbrev moved : List EntryChange
  moved = all_taken kept true added

  abbrev others : List EntryChange
  others = all_taken left false (other_keys es)

  kept-is : (k : Key) → kept k ≡ last_body entries k
  kept-is k = last-kept es k

  kept-named : (k : Key) → is_some (kept k) ≡ list_any (key_eq k) (keys entries)
  kept-named k = named-kept es k

  among-added : (k : Key) → has_key k added ≡ list_any (key_eq k) (added_last_first entries)
  among-added k = ap (list_any (key_eq k)) (added-back es)

  -- an entry that an edit added is kept
  added-kept : (k : Key) → has_key k added ≡ true → is_some (kept k) ≡ true
  added-kept k there =
      kept-named k ∙ added-or-other es k ∙ ap (λ b. b || has_key k (other_keys es)) (sym (has-reverse k (added_keys es)) ∙ there)

  left-is : (k : Key) → left k ≡ cond (has_key k added) None (kept k)
  left-is k = left-at added kept k

  -- ---- which entries

  same : (k : Key) → has_change k (reverse (moved ++ others)) ≡ list_any (key_eq k) (keys entries)
  same k =
      change-reverse k (moved ++ others)
      ∙ ap (list_any (key_eq k)) (map-append (λ c. key_of c.named) moved others)
      ∙ list_any-append (key_eq k) (changed_keys moved) (changed_keys others)
      ∙ ap (λ b. b || has_change k others) (taken-any k true added kept)
      ∙ ap (λ b. (is_some (kept k) && has_key k added) || b)
      (taken-any k false (other_keys es) left ∙ ap (λ r. is_some r && has_key k (other_keys es)) (left-is k))
      ∙ by (kept k) (has_key k added) (has_key k (other_keys es)) (kept-named k ∙ added-or-other es k ∙ ap (λ b. b || has_key k (other_keys es)) (sym (has-reverse k (added_keys es))))
      ∙ kept-named k
    where
      by : (r : Option (Option (List Command))) (a o : Bool) → is_some r ≡ (a || o) → ((is_some r && a) || (is_some (cond a None r) && o)) ≡ is_some r
      by None true o h = refl
      by None false o h = refl
      by (Some x) true o h = refl
      by (Some x) false o h = sym h

  apart : (k : Key) → has_change k others ≡ true → has_change k moved ≡ false
  apart k there =
      taken-any k true added kept
      ∙ ap (λ b. is_some (kept k) && b) (out (has_key k added) refl)
      ∙ and-false (is_some (kept k))
    where
      out : (b : Bool) → has_key k added ≡ b → has_key k added ≡ false
      out false off = off
      out true on =
          let never : false ≡ true =
          sym (taken-any k false (other_keys es) left ∙ ap (λ r. is_some r && has_key k (other_keys es)) (left-is k ∙ ap (λ b. cond b None (kept k)) on)) ∙ there in
          absurd (cc)

  distinct : AreDistinctKeys (changed_keys (reverse (moved ++ others)))
  distinct =
      changes-distinct (moved ++ others)
      (subst AreDistinctKeys (sym (map-append (λ c. key_of c.named) moved others))
      (distinct-both (changed_keys moved) (changed_keys others) (taken-distinct true added kept) (taken-distinct false (other_keys es) left) apart))

  -- ---- their bodies

  was-left : (k : Key) (body : Option (List Command)) → left k ≡ Some body → (has_key k added ≡ false) × (kept k ≡ Some body)
  was-left k body is = by (has_key k added) refl (sym (left-is k) ∙ is) where
    by : (b : Bool) → has_key k added ≡ b → cond b None (kept k) ≡ Some body → (has_key k added ≡ false) × (kept k ≡ Some body)
    by true on h = absurd (cc)
    by false off h = (off, h)

  its-body : (c : EntryChange) → kept (key_of c.named) ≡ Some c.body → HasBody new c
  its-body c is = e.bodies (key_of c.named) c.body (sym (kept-is (key_of c.named)) ∙ is)

  their-bodies : AllByRecursion (HasBody new) (reverse (moved ++ others))
  their-bodies =
      all-reverse (HasBody new) (moved ++ others)
      (each-append (HasBody new) moved others
      (all-weaken (IsTaken kept true) (HasBody new) (λ c h. its-body c h.body) moved (each-taken true added kept))
      (all-weaken (IsTaken left false) (HasBody new) (λ c h. its-body c (was-left (key_of c.named) c.body h.body).1) others (each-taken false (other_keys es) left)))

  -- ---- the glyphs that were added

  added-is : (g : List ℕ) → was_added entries g ≡ has_key (Glyph g) added
  added-is g =
      ap (λ (p : Key → Bool). list_any (λ x. x.added && p x.key) entries) (λ j. λ k. glyph-key g k j) ∙ added-any es (Glyph g) ∙ sym (has-reverse (Glyph g) (added_keys es))

  moved-is : (g : List ℕ) → was_moved (reverse (moved ++ others)) g ≡ was_added entries g
  moved-is g =
      moved-reverse (λ c. c.moved && is_key_of g (key_of c.named)) (moved ++ others)
      ∙ list_any-append (λ c. c.moved && is_key_of g (key_of c.named)) moved others
      ∙ ap (λ b. b || list_any (λ c. c.moved && is_key_of g (key_of c.named)) others)
      (moved-any g true moved (all-weaken (IsTaken kept true) (λ c. c.moved ≡ true) (λ c h. h.moves) moved (each-taken true added kept)))
      ∙ ap (λ b. list_any (is_key_of g) (changed_keys moved) || b)
      (moved-any g false others (all-weaken (IsTaken left false) (λ c. c.moved ≡ false) (λ c h. h.moves) others (each-taken false (other_keys es) left)))
      ∙ or-false (list_any (is_key_of g) (changed_keys moved))
      ∙ ap (λ (p : Key → Bool). list_any p (changed_keys moved)) (λ j. λ k. glyph-key g k j)
      ∙ taken-any (Glyph g) true added kept
      ∙ all-kept (has_key (Glyph g) added) refl
      ∙ sym (added-is g)
    where
      all-kept : (b : Bool) → has_key (Glyph g) added ≡ b → (is_some (kept (Glyph g)) && has_key (Glyph g) added) ≡ has_key (Glyph g) added
      all-kept true on = ap (λ b. b && has_key (Glyph g) added) (added-kept (Glyph g) on)
      all-kept false off = ap (λ b. is_some (kept (Glyph g)) && b) off ∙ and-false (is_some (kept (Glyph g))) ∙ sym off

  in-order : IsInOrder (was_moved (reverse (moved ++ others))) old new
  in-order =
      order-as (was_added entries) (was_moved (reverse (moved ++ others))) (glyph_names old.items) (glyph_names new.items) (λ g. sym (moved-is g)) e.order

  -- ---- the glyphs that stand last

  abbrev is-last : List ℕ → Bool
  is-last g = was_added entries g || not (has_glyph old g)

  -- a glyph with a body stands there
  has-name : (g : List ℕ) → is_some (body_at (bodies new.items) (Glyph g)) ≡ has_glyph new g
  has-name g = present new.items fine g

  -- a glyph that stands there and that no edit added was there before
  was-there : (g : List ℕ) → has_glyph new g ≡ true → has_key (Glyph g) added ≡ false → (b : Bool) → has_glyph old g ≡ b → has_glyph old g ≡ true
  was-there g there none true on = on
  was-there g there none false off =
      let named : list_any (key_eq (Glyph g)) (added_last_first entries) ≡ true =
      named-back g (added_last_first entries)
      (passed (has_glyph new) g (names_back (added_last_first entries))
      (sym (ap (list_any (bytes_eq g)) e.last)
      ∙ among-passing is-last g (glyph_names new.items) there (ap (λ b. was_added entries g || not b) off ∙ or-true (was_added entries g))))
      in
      let never : true ≡ false = sym named ∙ sym (among-added (Glyph g)) ∙ none in
      absurd (cc)

  other-last : (c : EntryChange) → IsTaken left false c → last_glyph old c.moved c.body c.named ≡ []
  other-last c h = by c.named c.body (was-left (key_of c.named) c.body h.body).0 (its-body c (was-left (key_of c.named) c.body h.body).1) ∙ refl where
    by : (d : OwnedKey) (body : Option (List Command)) → has_key (key_of d) added ≡ false → body_at (bodies new.items) (key_of d) ≡ body → last_glyph old c.moved body d ≡ []
    by d None none is = refl
    by (named.Subr n) (Some body) none is = refl
    by (named.Glyph g) (Some body) none is =
        ap (λ b. cond (b || not (has_glyph old g)) (g ∷ []) []) h.moves
        ∙ ap (λ b. cond (not b) (g ∷ []) [])
        (was-there g (sym (has-name g) ∙ ap is_some is) none (has_glyph old g) refl)

  last-are : filter (λ g. was_moved (reverse (moved ++ others)) g || not (has_glyph old g)) (glyph_names new.items) ≡ last_glyphs old (reverse (moved ++ others))
  last-are =
      filter-as (λ g. was_moved (reverse (moved ++ others)) g || not (has_glyph old g)) is-last (glyph_names new.items)
      (λ g there. ap (λ b. b || not (has_glyph old g)) (moved-is g))
      ∙ e.last
      ∙ filter-as (has_glyph new) (λ g. has_body (kept (Glyph g))) (names_back (added_last_first entries))
      (λ g there. sym (with-body g (added-kept (Glyph g) (among-added (Glyph g) ∙ named-back g (added_last_first entries) there))))
      ∙ sym (ap (λ l. filter (λ g. has_body (kept (Glyph g))) (names_back l)) (added-back es))
      ∙ sym (names-last old added kept)
      ∙ sym (ap (last_glyphs old) (reverse-append moved others)
      ∙ last-append old (reverse others) (reverse moved)
      ∙ ap (λ l. l ++ last_glyphs old (reverse moved))
      (none-last old (reverse others)
      (all-reverse (λ c. last_glyph old c.moved c.body c.named ≡ []) others
      (all-weaken (IsTaken left false) (λ c. last_glyph old c.moved c.body c.named ≡ []) other-last others (each-taken false (other_keys es) left)))))
    where
      with-body : (g : List ℕ) → is_some (kept (Glyph g)) ≡ true → has_body (kept (Glyph g)) ≡ has_glyph new g
      with-body g some = by (kept (Glyph g)) refl some where
        by : (r : Option (Option (List Command))) → kept (Glyph g) ≡ r → is_some r ≡ true → has_body r ≡ has_glyph new g
        by None is h = absurd (cc)
        by (Some None) is h = ap is_some (sym (e.bodies (Glyph g) None (sym (kept-is (Glyph g)) ∙ is))) ∙ has-name g
        by (Some (Some body)) is h = ap is_some (sym (e.bodies (Glyph g) (Some body) (sym (kept-is (Glyph g)) ∙ is))) ∙ has-name g

  pub batch-changes : AreBatchChanges old new (keys entries) (changes_by es)
  batch-changes = record {
    same = same;
    edited = same_edited (keys entries) (changed_keys (reverse (moved ++ others))) (λ k. sym (same k)) old new e.edited;
    keys = distinct;
    bodies = their-bodies;
    compiled = fine;
    order = in-order;
    last = last-are;
  }
