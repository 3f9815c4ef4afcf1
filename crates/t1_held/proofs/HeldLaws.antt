-- What is held of a source, and of an edited one.
use Rattle.std.proofs.Common.{◌≡◌, ℕ, true, List, Option, None, Some, Result, Ok, Err, refl, ap, sym, ◌∙◌, subst, arith}
use Rattle.std.specs.Prelude.{IfSome}
use Rattle.std.specs.List.{list_all, list_any, AllByRecursion}
use Rattle.std.specs.Option.{option_to_list}
use Rattle.t1_frac.specs.declared.fault.Fault.{Fault}
use Rattle.t1_frac.specs.declared.fault.Refusal.{Refusal}
use Rattle.t1_frac.specs.declared.fault.Refusal.TheVariants as refusals
use Rattle.t1_frac.specs.Outcome.{Refuses, ◌>>=◌}
use Rattle.t1_frac.proofs.OutcomeLaws.{bind_ok}
use Rattle.t1_parts.specs.SourceParts.{SourceParts}
use Rattle.t1_parts.specs.LenIV.{lead}
use Rattle.t1_font.specs.Bodies.{bodies}
use Rattle.t1_parts.specs.Printing.{text}
use Rattle.t1_parts.specs.Reading.{reads}
use Rattle.t1_source.specs.declared.edit.Edit.{Edit}
use Rattle.t1_source.specs.declared.editing.Change.{Change}
use Rattle.t1_pairs.specs.declared.pairs.Pair.{Pair}
use Rattle.t1_source.specs.Changes.{changed, IsFor}
use Rattle.t1_source.specs.EditedSource.{made_of, EditedParts}
use Rattle.t1_source.specs.WellFormed.{is_counted, IsWellFormed}
use Rattle.t1_source.proofs.EditedSourceLaws.{source_alone}
use Rattle.t1_source.proofs.WellFormedEditedLaws.{edited_well_formed}
use Rattle.t1_source.proofs.WellFormedSourceLaws.{source_well_formed}
use Rattle.t1_run.specs.Run.{Key, Subr, Glyph}
use Rattle.t1_run.specs.RunKeys.{key_eq}
use Rattle.t1_font.specs.Assembly.{file_check}
use Rattle.t1_font.specs.Glyphs.{glyph_names}
use Rattle.t1_font.specs.Runs.{Counts}
use Rattle.t1_font.specs.RunCounts.{counted}
use Rattle.t1_font.specs.SourceChecks.{source_check}
use Rattle.t1_charstrings.specs.declared.entries.Charstrings.{Charstrings}
use Rattle.t1_charstrings.specs.Changed.{AreSameCharstrings}
use Rattle.t1_charstrings.specs.Entries.{glyph_charstring, subr_charstring}
use Rattle.t1_charstrings.specs.Kept.{AreEncrypted, Encrypt}
use Rattle.t1_font.specs.Lengths.{IsPrivateLen}
use Rattle.t1_cache.specs.declared.records.Records.{Records}
use Rattle.t1_charstrings.specs.Beside.{IsKeptBeside}
use Rattle.t1_charstrings.specs.Prepared.{IsMadeBy, IsMadeOf, IsPreparedFor}
use Rattle.t1_cache.specs.Edited.{IsEditedAt}
use Rattle.t1_cache.specs.EditKeys.{named}
use Rattle.t1_cache.proofs.Distinct.{names_distinct}
use Rattle.t1_rerun.specs.declared.entry_change.EntryChange.{EntryChange}
use Rattle.t1_rerun.specs.EntryChanges.{IsChanged, IsMadeByEdit}
use Rattle.t1_rerun.specs.Opened.{runs_where}
use Rattle.t1_rerun.specs.Right.{IsRight}
use Rattle.t1_rerun.specs.Settled.{changed_keys, AreAsBefore, AreDistinctKeys, HasBody}
use Rattle.t1_rerun.proofs.ChangedBodies.{as-list, IsChangeOf, alone}
use Rattle.t1_rerun.proofs.Judged.{still-right}
use Rattle.t1_held.specs.declared.held.Held.{Held}
use Rattle.t1_held.specs.Held.{IsHeld}
use Rattle.t1_held.specs.declared.preparing.Edits.{Edits}
use Rattle.t1_held.specs.Batch.{EntryEdit, keys}
use Rattle.t1_held.specs.Drafting.{IsEditedBy}
use Rattle.t1_held.specs.Edits.{AreChanges, AreRight, IsKnownBeside, IsPreparedEdit}
use Rattle.t1_font.specs.Glyphs.{Glyph as Reported}
use Rattle.t1_font.specs.MeasuredGlyphs.{MeasuredFont, measured}
use Rattle.t1_font.specs.SourceChecks.{measured_source}
use Rattle.t1_font.proofs.Counted.{counted-source}
use Rattle.t1_font.proofs.GlyphsOfSource.{check-by-glyphs}

-- ---- a source without a fault

measured-file : (s : SourceParts) (font : MeasuredFont) → measured_source s ≡ Ok font → (u : Unit {0}) × (file_check s ≡ Ok u)
unfolding measured_source
measured-file s font e = let step = bind_ok (file_check s) (λ checked. measured s.items) font e in (step.0, step.1)

pub file_checked : (s : SourceParts) → source_check s ≡ Ok tt → file_check s ≡ Ok tt
file_checked s e =
    let font = bind_ok (measured_source s) (λ metrics. Ok (tt {0})) tt e in
    (measured-file s font.0 font.1).1

pub right_checked : (s : SourceParts) (records : Records) → IsRight s records → source_check s ≡ Ok tt
right_checked s records right = check-by-glyphs s ∙ ap (λ (r : Result (List Reported) Fault). r >>= λ glyphs. Ok (tt {0})) right.kept.faultless

pub counts_checked : (s : SourceParts) → source_check s ≡ Ok tt → list_all is_counted s.items ≡ true
counts_checked s e = counted-source s (file_checked s e)

-- ---- what is held stays

pub still_encrypted : (old new : Charstrings) → AreSameCharstrings old new → (s : SourceParts) → AreEncrypted s old → AreEncrypted s new
still_encrypted old new same s held = record { sound = held.sound; each = each } where
  each : Encrypt (lead s) (bodies s.items) new
  each (Subr n) = ap (λ es. subr_charstring es n) same.0 ∙ held.each (Subr n)
  each (Glyph g) = ap (λ es. glyph_charstring es g) same.1 ∙ held.each (Glyph g)

pub still_held : (old new : Held) → AreAsBefore old.records new.records → AreSameCharstrings old.charstrings new.charstrings → new.private_len ≡ old.private_len
    → (s : SourceParts) → IsHeld s old → IsHeld s new
still_held old new records charstrings len s held = record {
  right = still-right old.records new.records records s held.right;
  encrypted = still_encrypted old.charstrings new.charstrings charstrings s held.encrypted;
  len = subst (IsPrivateLen s) (sym len) held.len;
}

-- ---- an edit that was prepared

module _ (s : SourceParts) (k : List Pair) (edit : Edit) (change : Change) (h : Held) (e : IsPreparedEdit s k edit change h) where
  abbrev made : SourceParts
  made = (changed change s k).0

  pub well_made : IsWellFormed made
  well_made = edited_well_formed s k edit made (changed change s k).1 e.well e.made

  pub edit_made : IsMadeByEdit edit s made
  edit_made = record {
    pairs = k;
    made_pairs = (changed change s k).1;
    compiled = e.held.encrypted.sound;
    well = e.well;
    well_made = well_made;
    made = e.made;
  }

  change_of : (entry : Option EntryChange) → IsChanged edit s made entry → file_check made ≡ Ok tt → IsChangeOf entry s made h.records (glyph_names made.items)
  change_of entry is file = record {
    right = e.held.right;
    edited = is.edited;
    bodies = is.bodies;
    unmoved = is.unmoved;
    file = file;
    distinct = names_distinct made well_made;
    order = is.order;
    names = refl;
  }

  -- what it changes
  pub change_alone : (entry : Option EntryChange) → IsChanged edit s made entry → (changes : List EntryChange) → changes ≡ option_to_list entry
      → AreChanges s made (named edit) h changes
  change_alone entry c changes is = record {
    same = λ key. ap (list_any (key_eq key)) (ap changed_keys is ∙ c.keys);
    edited = subst (λ l. IsEditedAt (changed_keys l) s made) (sym is) c.edited;
    keys = subst (λ l. AreDistinctKeys (changed_keys l)) (sym is) (alone entry);
    bodies = subst (AllByRecursion (HasBody made)) (sym is) c.bodies;
    compiled = c.compiled;
    prepared = λ file. as-list changes entry s made h.records (glyph_names made.items) is (change_of entry c file);
  }

-- no glyph was run, where the file has a fault or memory ran out
pub counts_none : {T : Type 0} (names : List (List ℕ)) (check : Result (Unit {0}) Fault) (old : ℕ) (r : Result T Refusal) (e : Refusal) → r ≡ Err e → Refuses e check
    → Counts (runs_where check names) old old r
counts_none names check old r refusals.Memory is h = rw is (0, omega arith, refl)
counts_none names (Err first) old r (refusals.Fault fault) is h = rw is refl
counts_none names (Ok checked) old r (refusals.Fault fault) is h = absurd (cc)

-- ---- what is held of a source from scratch

-- all glyphs were run, and then memory ran out
pub counts_all : {T : Type 0} (runs old new : ℕ) (r : Result T Refusal) (e : Refusal) → r ≡ Err e → new ≡ counted old runs → Counts runs old new r
counts_all runs old new r refusals.Memory is h = rw is (runs, omega arith, h)
counts_all runs old new r (refusals.Fault fault) is h = rw is h

pub checked_well : (s : SourceParts) → source_check s ≡ Ok tt → (list_all is_counted s.items ≡ true → reads (text s) ≡ Ok s) → IsWellFormed s
checked_well s checked again = source_well_formed (text s) s (again (counts_checked s checked))

pub held_well : (s : SourceParts) (h : Held) → IsHeld s h → (list_all is_counted s.items ≡ true → reads (text s) ≡ Ok s) → IsWellFormed s
held_well s h held again = checked_well s (right_checked s h.records held.right) again

-- ---- edits that are right

pub edit_right : (s : SourceParts) (k : List Pair) (edit : Edit) (change : Change) (h : Held) → IsPreparedEdit s k edit change h → (e : Edits) → e.source.now ≡ s
    → e.made ≡ record { source = s; change = Some change } → AreChanges s (changed change s k).0 (named edit) h e.changes.items
    → AreRight (named edit) (changed change s k).0 h e
edit_right s k edit change h prepared e source made changes = record {
  held = subst (λ t. IsHeld t h) (sym source) prepared.held;
  well = well_made s k edit change h prepared;
  made = ap made_of made ∙ source_alone change s k;
  source = subst (λ (m : EditedParts). IfSome m.change (λ change. (m.source ≡ e.source.now) × IsFor change e.source.now)) (sym made)
      (sym source, subst (IsFor change) (sym source) (record { pairs = k; serves = prepared.serves; well = prepared.well }));
  changes = subst (λ t. AreChanges t (changed change s k).0 (named edit) h e.changes.items) (sym source) changes;
  beside = subst (λ (m : EditedParts). IsKnownBeside m.change e.source.now h.private_len m.source e.beside) (sym made) tt;
}

pub batch_right : (s made : SourceParts) (entries : List EntryEdit) (h : Held) → IsHeld s h → IsEditedBy entries s made → (e : Edits) → e.source.now ≡ s
    → e.made ≡ record { source = made; change = None } → AreChanges s made (keys entries) h e.changes.items → IsWellFormed s
    → IsKeptBeside s h.private_len made e.beside → AreRight (keys entries) made h e
batch_right s made entries h held edited e source is changes well kept = record {
  held = subst (λ t. IsHeld t h) (sym source) held;
  well = edited.well;
  made = ap made_of is;
  source = subst (λ (m : EditedParts). IfSome m.change (λ change. (m.source ≡ e.source.now) × IsFor change e.source.now)) (sym is) tt;
  changes = subst (λ t. AreChanges t made (keys entries) h e.changes.items) (sym source) changes;
  beside =
      subst (λ (m : EditedParts). IsKnownBeside m.change e.source.now h.private_len m.source e.beside) (sym is)
      (subst IsWellFormed (sym source) well, subst (λ t. IsKeptBeside t h.private_len made e.beside) (sym source) kept);
}

-- of the source that is edited so much is known
for_held : (o : Option Change) (t s : SourceParts) (len : ℕ) (beside : Option ℕ) → file_check s ≡ Ok tt → IsPrivateLen s len → IfSome o (λ change. (t ≡ s) × IsFor change s)
    → IsKnownBeside o s len t beside → IsMadeBy o s len beside t
for_held None t s len beside file known right counted = record { well = counted.0; file = file; known = known; kept = counted.1 }
for_held (Some change) t s len beside file known right counted = (right.0, record { fits = right.1; file = file; known = known })

pub made_of_held : (ks : List Key) (made : SourceParts) (h : Held) (e : Edits) → AreRight ks made h e → IsMadeOf e.source.now h.private_len e.beside e.made
made_of_held ks new h e right =
    for_held e.made.change e.made.source e.source.now h.private_len e.beside (file_checked e.source.now (right_checked e.source.now h.records right.held.right)) right.held.len
    right.source right.beside
