-- The bodies of a source that an edit makes of one of which records are held.
use Rattle.std.proofs.Common.{◌≡◌, Bool, true, false, List, [], ◌∷◌, cond, refl, sym, ◌∙◌, ap, subst, Option, Some, None, Result, Ok, Err, inl, inr}
use Rattle.std.specs.Option.{option_to_list}
use Rattle.std.specs.List.{AllByRecursion}
use Rattle.t1_frac.specs.declared.fault.Fault.{Fault}
use Rattle.t1_frac.specs.declared.fault.Refusal.{Refusal}
use Rattle.t1_frac.specs.declared.fault.Refusal.TheVariants as refusals
use Rattle.t1_frac.specs.Outcome.{Refuses, ◌>>=◌}
use Rattle.t1_code.specs.declared.command.Command.{Command}
use Rattle.t1_parts.specs.SourceParts.{SourceParts}
use Rattle.t1_source.specs.declared.edit.Edit.{Edit}
use Rattle.t1_run.specs.Footprint.{Includes}
use Rattle.t1_run.specs.Overlay.{after_change}
use Rattle.t1_run.specs.Run.{FontBodies, Key, Subr, Glyph}
use Rattle.t1_run.specs.RunKeys.{body_at, key_eq}
use Rattle.t1_font.specs.Bodies.{bodies}
use Rattle.t1_font.specs.KeptBodies.{SameBodies}
use Rattle.t1_font.proofs.Keys.{key-itself, key-same}
use Rattle.t1_cache.specs.declared.records.Records.{Records}
use Rattle.t1_cache.specs.Bodies.{record_bodies}
use Rattle.t1_cache.specs.Edited.{IsEditedAt}
use Rattle.t1_font.specs.OwnedKeys.{key_of}
use Rattle.t1_rerun.specs.declared.entry_change.EntryChange.{EntryChange}
use Rattle.t1_rerun.specs.Changing.{body_changed}
use Rattle.t1_rerun.specs.EntryChanges.{edit_change, IsChanged, IsMadeByEdit, KeyChange}
use Rattle.t1_rerun.specs.Right.{IsRight}
use Rattle.t1_rerun.specs.Settled.{changed_keys, HasBody}
use Rattle.t1_rerun.proofs.EditChecks.{edits_checked}
use Rattle.t1_font.specs.SourceChecks.{source_check}
use Rattle.t1_refusal.specs.Telling.{fault_of}
use Rattle.t1_refusal.specs.Bodies.{HasFaultyBody}

-- where the words of an edit have a fault, a body has one
pub faulty_body : (edit : Edit) (old new : SourceParts) → IsMadeByEdit edit old new → (refusal : Refusal) (fault : Fault) → refusal ≡ refusals.Fault fault
    → Refuses refusal (edit_change edit) → HasFaultyBody new.items
faulty_body edit old new is refusal fault e h =
    let words : edit_change edit ≡ Err fault = subst (λ r. Refuses r (edit_change edit)) e h in (
      fault,
      edits_checked old is.pairs edit new is.made_pairs is.compiled is.made ∙ ap (λ (r : Result (Option KeyChange) Fault). r >>= λ _. Ok (tt {0})) words,
    )

-- ---- the held bodies under the change of an edit

set-is : (new : SourceParts) (changes : List EntryChange) (k : Key) (body : Option (List Command)) → AllByRecursion (HasBody new) changes
    → body_changed changes k ≡ Some body → body_at (bodies new.items) k ≡ body
set-is new [] k body all e = absurd (cc)
set-is new (c ∷ changes) k body all e = by (key_eq k (key_of c.named)) refl e (set-is new changes k body all.1) where
  by : (b : Bool) → key_eq k (key_of c.named) ≡ b → cond b (Some c.body) (body_changed changes k) ≡ Some body
      → (body_changed changes k ≡ Some body → body_at (bodies new.items) k ≡ body) → body_at (bodies new.items) k ≡ body
  by true on e others =
      let is : c.body ≡ body = cc in
      ap (body_at (bodies new.items)) (key-same k (key_of c.named) on) ∙ all.0 ∙ is
  by false off e others = others e

unset-unnamed : (changes : List EntryChange) (k : Key) → body_changed changes k ≡ None → Includes (changed_keys changes) k → ⊥
unset-unnamed [] k e i = i
unset-unnamed (c ∷ changes) k e i = by (key_eq k (key_of c.named)) refl e i (unset-unnamed changes k) where
  by : (b : Bool) → key_eq k (key_of c.named) ≡ b → cond b (Some c.body) (body_changed changes k) ≡ None → Includes (key_of c.named ∷ changed_keys changes) k
      → (body_changed changes k ≡ None → Includes (changed_keys changes) k → ⊥) → ⊥
  by true on e i others = absurd (cc)
  by false off e (inl is) others = let never : true ≡ false = sym (key-itself k) ∙ ap (key_eq k) (sym is) ∙ off in absurd (cc)
  by false off e (inr i) others = others e i

at-same : (m n : FontBodies) (k : Key) → SameBodies m n → body_at m k ≡ body_at n k
at-same m n (Subr k) same = same (Subr k)
at-same m n (Glyph g) same = same (Glyph g)

module _ (changes : List EntryChange) (old new : SourceParts) (records : Records) (right : IsRight old records) (edited : IsEditedAt (changed_keys changes) old new)
    (set : AllByRecursion (HasBody new) changes) where
  kept-there : (k : Key) → (Includes (changed_keys changes) k → ⊥) → body_at (bodies old.items) k ≡ body_at (bodies new.items) k
  kept-there (Subr n) out = edited.bodies.same (Subr n) out
  kept-there (Glyph g) out = edited.bodies.same (Glyph g) out

  edited-there : (k : Key) → after_change (body_changed changes k) (body_at (record_bodies records) k) ≡ body_at (bodies new.items) k
  edited-there k = by (body_changed changes k) refl where
    by : (r : Option (Option (List Command))) → body_changed changes k ≡ r → after_change r (body_at (record_bodies records) k) ≡ body_at (bodies new.items) k
    by (Some body) e = sym (set-is new changes k body set e)
    by None e = at-same (record_bodies records) (bodies old.items) k right.compiled ∙ kept-there k (unset-unnamed changes k e)

  edited-same : (m : FontBodies) → ((k : Key) → body_at m k ≡ after_change (body_changed changes k) (body_at (record_bodies records) k)) → SameBodies m (bodies new.items)
  edited-same m are (Subr n) = are (Subr n) ∙ edited-there (Subr n)
  edited-same m are (Glyph g) = are (Glyph g) ∙ edited-there (Glyph g)

pub same_bodies : (edit : Edit) (old new : SourceParts) (records : Records) → IsRight old records → (change : Option EntryChange) → IsChanged edit old new change
    → (changes : List EntryChange) → changes ≡ option_to_list change
    → (m : FontBodies) → ((k : Key) → body_at m k ≡ after_change (body_changed changes k) (body_at (record_bodies records) k)) → SameBodies m (bodies new.items)
same_bodies edit old new records right change is changes e m are =
    edited-same changes old new records right (subst (λ l. IsEditedAt (changed_keys l) old new) (sym e) is.edited) (subst (AllByRecursion (HasBody new)) (sym e) is.bodies) m are

-- ---- the first fault

pub no_fault : (s : SourceParts) → source_check s ≡ Ok (tt {0}) → ◌≡◌ {A = Option Fault} None (fault_of (source_check s))
no_fault s e = sym (ap fault_of e)

pub first_fault : (s : SourceParts) (refusal : Refusal) (fault : Fault) → refusal ≡ refusals.Fault fault → Refuses refusal (source_check s)
    → ◌≡◌ {A = Option Fault} (Some fault) (fault_of (source_check s))
first_fault s refusal fault e h =
    let refused : source_check s ≡ Err fault = subst (λ r. Refuses r (source_check s)) e h in
    sym (ap fault_of refused)
