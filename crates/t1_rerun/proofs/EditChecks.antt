-- What an edit changes of the bodies of a source, and their first fault after it.
use Rattle.std.proofs.Common.{◌≡◌, ℕ, Bool, true, ℤ, pos, negsuc, nat_le, Option, Some, None, Result, Ok, Err, List, [], ◌∷◌, ◌++◌, take, drop, refl, sym, ◌∙◌, ap, subst, arith, inl, inr}
use Rattle.std.specs.Prelude.{◌||◌, ◌&&◌, false, MatchResult}
use Rattle.std.specs.List.{AllByRecursion, position_or_len, insert, remove, slice_set}
use Rattle.std.specs.Option.{option_map, option_to_list}
use Rattle.std.specs.Result.{result_ok}
use Rattle.std.proofs.lemmas.Bool.{cases_Bool}
use Rattle.std.proofs.lemmas.Bool.Decides.{nat_tests}
use Rattle.std.proofs.lemmas.List.{take-append-drop}
use Rattle.t1_frac.specs.declared.fault.Code.{Code}
use Rattle.t1_frac.specs.declared.fault.Fault.{Fault}
use Rattle.t1_frac.specs.declared.fault.Place.{Place}
use Rattle.t1_frac.specs.declared.fault.Place.TheVariants as places
use Rattle.t1_frac.specs.declared.fault.Refusal.{Refusal}
use Rattle.t1_frac.specs.declared.fault.Refusal.TheVariants as refusals
use Rattle.t1_frac.specs.Outcome.{reported_at, ◌>>=◌, Gives, Refuses}
use Rattle.t1_code.specs.declared.command.Command.{Command}
use Rattle.t1_code.specs.Words.{commands}
use Rattle.t1_parts.specs.declared.item.Item.{Item}
use Rattle.t1_parts.specs.declared.item.Item.TheVariants as items
use Rattle.t1_parts.specs.SourceParts.{SourceParts}
use Rattle.t1_parts.specs.Counts.{raised, subrs_needed, glyphs_needed}
use Rattle.t1_parts.specs.Entries.{is_subr, is_glyph}
use Rattle.t1_source.specs.declared.edit.Edit.{Edit}
use Rattle.t1_source.specs.declared.edit.Edit.TheVariants.{ReplaceGlyph, AddGlyph, RemoveGlyph, ReplaceSubr, AddSubr, RemoveSubr, Encode, Unencode, LenIv, Kern, Unkern}
use Rattle.t1_source.specs.declared.edit.Rule.{Rule}
use Rattle.t1_source.specs.declared.edit.Rule.TheVariants.{E4}
use Rattle.t1_pairs.specs.declared.pairs.Pair.{Pair}
use Rattle.t1_source.specs.Editing.{number_up_to, body_words, replaced_glyph, added_glyph, removed_glyph, replaced_subr, added_subr, removed_subr, encoded, unencoded, lead_edited, kerned, unkerned, edited}
use Rattle.t1_source.specs.Leads.{line_with_lead, lead_line, says_lead, is_section_line, line_at}
use Rattle.t1_source.proofs.WellFormedEditedLaws.{source_given, source_same}
use Rattle.t1_source.proofs.ItemPlaceLaws.{position_first, set_there, removed_there}
use Rattle.t1_run.specs.Footprint.{Includes}
use Rattle.t1_run.specs.Run.{Key, Subr, Glyph}
use Rattle.t1_run.specs.Touched.{is_key_of}
use Rattle.t1_font.specs.Assembly.{file_check}
use Rattle.t1_font.specs.Bodies.{bodies_check, body_check, words_check}
use Rattle.t1_font.proofs.LengthLaws.{body_fault_reported}
use Rattle.t1_font.proofs.Checking.{raised-checks, check-both}
use Rattle.t1_cache.specs.Edited.{body_after, IsEditedAt}
use Rattle.t1_cache.specs.EditKeys.{named}
use Rattle.t1_font.specs.OwnedKeys.{key_of}
use Rattle.t1_cache.proofs.Accepted.{glyph_at, last_glyph, last_subr, new_glyph, new_subr, subr_at, added_glyph-made, added_subr-made, encoded-made, lead-made, removed_glyph-made, removed_subr-made, replaced_glyph-made, replaced_subr-made, unencoded-made, IsLeadMade, IsOut, IsPut, LeadIn, LeadPut}
use Rattle.t1_cache.proofs.EditedBodies.{body_edited}
use Rattle.t1_cache.proofs.Edits.{edits_named}
use Rattle.t1_rerun.specs.declared.entry_change.EntryChange.{EntryChange}
use Rattle.t1_rerun.specs.EntryChanges.{edit_change, key_change, number_within, put_key, put_number, removed_number, KeyChange, IsChanged, IsMadeByEdit}
use Rattle.t1_rerun.specs.Renewing.{entry_key, number_key}
use Rattle.t1_rerun.specs.Settled.{changed_keys, was_moved, HasBody}
use Rattle.t1_rerun.proofs.Entries.{edited-order, key-named}
use Rattle.t1_rerun.proofs.Single.{one-order}

abbrev Checked : Type 0
Checked = Result (Unit {0}) Fault

-- ---- the bodies of items

both-ok : (r s : Checked) → (r >>= λ _. s) ≡ Ok tt → (r ≡ Ok tt) × (s ≡ Ok tt)
both-ok (Ok u) s h = (refl, h)
both-ok (Err e) s h = absurd (cc)

alone : (r : Checked) → (r >>= λ _. Ok tt) ≡ r
alone (Ok u) = refl
alone (Err e) = refl

module _ (a xs b : List Item) (fine : bodies_check (a ++ (xs ++ b)) ≡ Ok tt) where
  front : bodies_check a ≡ Ok tt
  front = (both-ok (bodies_check a) (bodies_check (xs ++ b)) (sym (check-both a (xs ++ b)) ∙ fine)).0

  back : bodies_check b ≡ Ok tt
  back =
      (both-ok (bodies_check xs) (bodies_check b) (sym (check-both xs b)
      ∙ (both-ok (bodies_check a) (bodies_check (xs ++ b)) (sym (check-both a (xs ++ b)) ∙ fine)).1)).1

  -- with an entry in the place of others, the entry's fault is the first
  with-entry : (y : Item) → bodies_check (a ++ (y ∷ b)) ≡ body_check y
  with-entry y =
      check-both a (y ∷ b) ∙ ap (λ r. r >>= λ _. bodies_check (y ∷ b)) front
      ∙ ap (λ r. body_check y >>= λ _. r) back ∙ alone (body_check y)

  -- without others there is none
  without : bodies_check (a ++ b) ≡ Ok tt
  without = check-both a b ∙ ap (λ r. r >>= λ _. bodies_check b) front ∙ back

module _ (s made : SourceParts) (fine : bodies_check s.items ≡ Ok tt) where
  put-checks : (test : Item → Bool) (y : ℕ → Item) → (put : IsPut test y s made) → bodies_check made.items ≡ body_check (y put.at)
  put-checks test y put =
      let f = position_first test s.items put.at put.there in
      let a = f.found.before in
      let x = f.found.here in
      let b = f.found.after in
      let items = slice_set s.items put.at (y put.at) in
      ap bodies_check put.are ∙ raised-checks (subrs_needed items) (glyphs_needed items) items
      ∙ ap bodies_check (ap (λ t. slice_set t put.at (y put.at)) f.found.whole ∙ set_there a x b put.at (y put.at) f.place)
      ∙ with-entry a (x ∷ []) b (ap bodies_check (sym f.found.whole) ∙ fine) (y put.at)

  out-checks : (test : Item → Bool) → IsOut test s made → bodies_check made.items ≡ Ok tt
  out-checks test out =
      let f = position_first test s.items out.at out.there in
      let a = f.found.before in
      let x = f.found.here in
      let b = f.found.after in
      let items = remove s.items out.at in
      ap bodies_check out.are ∙ raised-checks (subrs_needed items) (glyphs_needed items) items
      ∙ ap bodies_check (ap (λ t. remove t out.at) f.found.whole ∙ removed_there a x b out.at f.place)
      ∙ without a (x ∷ []) b (ap bodies_check (sym f.found.whole) ∙ fine)

  in-checks : (at : ℕ) (y : Item) → made.items ≡ raised (insert s.items at y) → bodies_check made.items ≡ body_check y
  in-checks at y is =
      let items = insert s.items at y in
      ap bodies_check is ∙ raised-checks (subrs_needed items) (glyphs_needed items) items
      ∙ with-entry (take at s.items) [] (drop at s.items) (ap bodies_check (take-append-drop at s.items) ∙ fine) y

  same-checks : s.items ≡ made.items → bodies_check made.items ≡ Ok tt
  same-checks e = ap bodies_check (sym e) ∙ fine

-- ---- what is put at a key

abbrev unit_of : Result (Option KeyChange) Fault → Checked
unit_of r = r >>= λ _. Ok tt

words-put : (key : Key) (place : Place) (words : List (List ℕ)) → words_check place words ≡ unit_of (put_key key place words)
unfolding words_check
words-put key place words = by (reported_at place (commands words)) where
  by : (r : Result (List Command) Fault) → (r >>= λ _. Ok tt) ≡ unit_of (r >>= λ body. Ok (Some (record { key = key; body = Some body; moved = false })))
  by (Ok b) = refl
  by (Err fault) = refl

within : (v : ℤ) (n : ℕ) → number_up_to 32000 v ≡ Ok n → number_within v ≡ Some n
within (negsuc m) n e = absurd (cc)
within (pos m) n e =
    elim (cases_Bool (nat_le m 32000)) [
      | inl low ↦
          let here : ◌≡◌ {A = Result ℕ Rule} (Ok m) (Ok n) = rw low at e in
          let same : m ≡ n = cc in
          let fits : nat_le m 65535 ≡ true = grind (arith, nat_tests, low) in
          rw fits (ap Some same)
      | inr high ↦ let never : ◌≡◌ {A = Result ℕ Rule} (Err E4) (Ok n) = rw high at e in absurd (cc)
    ]

number-put : (v : ℤ) (n : ℕ) (words : List (List ℕ)) → number_up_to 32000 v ≡ Ok n → words_check (places.Subr n) words ≡ unit_of (put_number (number_within v) words)
number-put v n words e = words-put (Subr n) (places.Subr n) words ∙ sym (ap (λ number. unit_of (put_number number words)) (within v n e))

-- ---- the edits of entries

module _ (s made : SourceParts) (fine : bodies_check s.items ≡ Ok tt) where
  replaced_subr-checks : (v : ℤ) (body : List ℕ) → replaced_subr s v body ≡ Ok made → bodies_check made.items ≡ unit_of (put_number (number_within v) (body_words body))
  replaced_subr-checks v body e =
      let its = replaced_subr-made s v body made e in
      put-checks s made fine (is_subr its.n) (subr_at s body its.n) its.made ∙ number-put v its.n (body_words body) its.within

  added_subr-checks : (v : ℤ) (body : List ℕ) → added_subr s v body ≡ Ok made → bodies_check made.items ≡ unit_of (put_number (number_within v) (body_words body))
  added_subr-checks v body e =
      let its = added_subr-made s v body made e in
      in-checks s made fine (last_subr s) (new_subr s body its.n) its.made.are ∙ number-put v its.n (body_words body) its.within

  removed_subr-checks : (v : ℤ) → removed_subr s v ≡ Ok made → bodies_check made.items ≡ Ok tt
  removed_subr-checks v e = let its = removed_subr-made s v made e in out-checks s made fine (is_subr its.n) its.made

  -- ---- the others

  lead-checks : IsLeadMade s made → bodies_check made.items ≡ Ok tt
  lead-checks (LeadIn n is) = in-checks s made fine (position_or_len is_section_line s.items) (items.Plain (lead_line n)) is
  lead-checks (LeadPut n put) = put-checks s made fine says_lead (λ at. items.Plain (line_with_lead n (line_at at s.items))) put

-- after an edit of a source whose bodies have no fault the first is that of the edit's words
pub edits_checked : (s : SourceParts) (k : List Pair) (edit : Edit) (made : SourceParts) (ps : List Pair) → bodies_check s.items ≡ Ok tt
    → edited s k edit ≡ Ok (made, ps) → bodies_check made.items ≡ unit_of (edit_change edit)
unfolding edited
edits_checked s k (ReplaceGlyph g body) made ps fine e =
    put-checks s made fine (is_glyph g) (glyph_at s g body) (replaced_glyph-made s g body made (source_given k ps (replaced_glyph s g body) made e)) ∙ words-put (Glyph g) (places.Glyph g) (body_words body)
edits_checked s k (AddGlyph g body) made ps fine e =
    in-checks s made fine (last_glyph s) (new_glyph s g body) (added_glyph-made s g body made (source_given k ps (added_glyph s g body) made e)).are ∙ words-put (Glyph g) (places.Glyph g) (body_words body)
edits_checked s k (RemoveGlyph g) made ps fine e = out-checks s made fine (is_glyph g) (removed_glyph-made s g made (source_given k ps (removed_glyph s g) made e))
edits_checked s k (ReplaceSubr n body) made ps fine e = replaced_subr-checks s made fine n body (source_given k ps (replaced_subr s n body) made e)
edits_checked s k (AddSubr n body) made ps fine e = added_subr-checks s made fine n body (source_given k ps (added_subr s n body) made e)
edits_checked s k (RemoveSubr n) made ps fine e = removed_subr-checks s made fine n (source_given k ps (removed_subr s n) made e)
edits_checked s k (Encode code g) made ps fine e = same-checks s made fine (encoded-made s code g made (source_given k ps (encoded s code g) made e))
edits_checked s k (Unencode code) made ps fine e = same-checks s made fine (unencoded-made s code made (source_given k ps (unencoded s code) made e))
edits_checked s k (LenIv n) made ps fine e = lead-checks s made fine (lead-made s n made (source_given k ps (lead_edited s n) made e))
edits_checked s k (Kern left right v) made ps fine e = same-checks s made fine (ap (λ t. t.items) (source_same s ps (kerned k left right v) made e))
edits_checked s k (Unkern left right) made ps fine e = same-checks s made fine (ap (λ t. t.items) (source_same s ps (unkerned k left right) made e))

-- ---- the entry and its body

put-keys : (key : Key) (place : Place) (words : List (List ℕ)) (c : Option KeyChange) → put_key key place words ≡ Ok c
    → (option_map (λ x. x.key) c ≡ Some key) × (option_map (λ x. x.body) c ≡ Some (result_ok (commands words)))
put-keys key place words c e = by (commands words) e where
  by : (r : Result (List Command) Code) → (reported_at place r >>= λ body. Ok (Some (record { key = key; body = Some body; moved = false }))) ≡ Ok c
      → (option_map (λ x. x.key) c ≡ Some key) × (option_map (λ x. x.body) c ≡ Some (result_ok r))
  by (Ok body) e =
      let same : Some (record { key = key; body = Some body; moved = false }) ≡ c = cc in
      (ap (option_map (λ x. x.key)) (sym same), ap (option_map (λ x. x.body)) (sym same))
  by (Err code) e = absurd (cc)

-- what is said of the entry: its key is that of the edit, and its body the one after it
abbrev Reports : Edit → Option KeyChange → Type 0
Reports edit c = (option_map (λ x. x.key) c ≡ entry_key edit) × (option_map (λ x. x.body) c ≡ option_map (λ k. body_after edit) (entry_key edit))

number-reported : (v : ℤ) (words : List (List ℕ)) (c : Option KeyChange) → put_number (number_within v) words ≡ Ok c
    → (option_map (λ x. x.key) c ≡ number_key v) × (option_map (λ x. x.body) c ≡ option_map (λ k. result_ok (commands words)) (number_key v))
number-reported (negsuc n) words c e = let same : None ≡ c = cc in (ap (option_map (λ x. x.key)) (sym same), ap (option_map (λ x. x.body)) (sym same))
number-reported (pos n) words c e =
    elim (cases_Bool (nat_le n 65535)) [
      | inl on ↦ let its = put-keys (Subr n) (places.Subr n) words c (rw on at e) in rw on its
      | inr off ↦
          let none : ◌≡◌ {A = Result (Option KeyChange) Fault} (Ok None) (Ok c) = rw off at e in
          let same : None ≡ c = cc in
          rw off (ap (option_map (λ x. x.key)) (sym same), ap (option_map (λ x. x.body)) (sym same))
    ]

removed-reported : (v : ℤ) (c : Option KeyChange) → removed_number (number_within v) ≡ c
    → (option_map (λ x. x.key) c ≡ number_key v) × (option_map (λ x. x.body) c ≡ option_map (λ k. None) (number_key v))
removed-reported (negsuc n) c same = (ap (option_map (λ x. x.key)) (sym same), ap (option_map (λ x. x.body)) (sym same))
removed-reported (pos n) c e =
    elim (cases_Bool (nat_le n 65535)) [
      | inl on ↦
          let same : Some (record { key = Subr n; body = None; moved = false }) ≡ c = rw on at e in
          rw on (ap (option_map (λ x. x.key)) (sym same), ap (option_map (λ x. x.body)) (sym same))
      | inr off ↦
          let same : None ≡ c = rw off at e in
          rw off (ap (option_map (λ x. x.key)) (sym same), ap (option_map (λ x. x.body)) (sym same))
    ]

none-reported : (c : Option KeyChange) → ◌≡◌ {A = Result (Option KeyChange) Fault} (Ok None) (Ok c)
    → (option_map (λ x. x.key) c ≡ None) × (option_map (λ x. x.body) c ≡ None)
none-reported c e = let same : None ≡ c = cc in (ap (option_map (λ x. x.key)) (sym same), ap (option_map (λ x. x.body)) (sym same))

entry-reported : (edit : Edit) (c : Option KeyChange) → edit_change edit ≡ Ok c → Reports edit c
entry-reported (ReplaceGlyph g body) c e = put-keys (Glyph g) (places.Glyph g) (body_words body) c e
entry-reported (AddGlyph g body) c e = put-keys (Glyph g) (places.Glyph g) (body_words body) c e
entry-reported (RemoveGlyph g) c e =
    let same : Some (record { key = Glyph g; body = None; moved = false }) ≡ c = cc in
    (ap (option_map (λ x. x.key)) (sym same), ap (option_map (λ x. x.body)) (sym same))
entry-reported (ReplaceSubr n body) c e = number-reported n (body_words body) c e
entry-reported (AddSubr n body) c e = number-reported n (body_words body) c e
entry-reported (RemoveSubr n) c e = let same : removed_number (number_within n) ≡ c = cc in removed-reported n c same
entry-reported (Encode code g) c e = none-reported c e
entry-reported (Unencode code) c e = none-reported c e
entry-reported (LenIv n) c e = none-reported c e
entry-reported (Kern left right v) c e = none-reported c e
entry-reported (Unkern left right) c e = none-reported c e

-- no edit moves
abbrev IsStill : Option KeyChange → Type 0
IsStill c = option_map (λ x. x.moved) c ≡ option_map (λ x. false) c

put-still : (key : Key) (place : Place) (words : List (List ℕ)) (c : Option KeyChange) → put_key key place words ≡ Ok c → IsStill c
put-still key place words c e = by (commands words) e where
  by : (r : Result (List Command) Code) → (reported_at place r >>= λ body. Ok (Some (record { key = key; body = Some body; moved = false }))) ≡ Ok c → IsStill c
  by (Ok body) e = let same : Some (record { key = key; body = Some body; moved = false }) ≡ c = cc in subst IsStill same refl
  by (Err code) e = absurd (cc)

number-still : (number : Option ℕ) (words : List (List ℕ)) (c : Option KeyChange) → put_number number words ≡ Ok c → IsStill c
number-still None words c e = let same : None ≡ c = cc in subst IsStill same refl
number-still (Some n) words c e = put-still (Subr n) (places.Subr n) words c e

removed-still : (number : Option ℕ) (c : Option KeyChange) → removed_number number ≡ c → IsStill c
removed-still None c same = subst IsStill same refl
removed-still (Some n) c same = subst IsStill same refl

none-still : (c : Option KeyChange) → ◌≡◌ {A = Result (Option KeyChange) Fault} (Ok None) (Ok c) → IsStill c
none-still c e = let same : None ≡ c = cc in subst IsStill same refl

entry-still : (edit : Edit) (c : Option KeyChange) → edit_change edit ≡ Ok c → IsStill c
entry-still (ReplaceGlyph g body) c e = put-still (Glyph g) (places.Glyph g) (body_words body) c e
entry-still (AddGlyph g body) c e = put-still (Glyph g) (places.Glyph g) (body_words body) c e
entry-still (RemoveGlyph g) c e =
    let same : Some (record { key = Glyph g; body = None; moved = false }) ≡ c = cc in
    subst IsStill same refl
entry-still (ReplaceSubr n body) c e = number-still (number_within n) (body_words body) c e
entry-still (AddSubr n body) c e = number-still (number_within n) (body_words body) c e
entry-still (RemoveSubr n) c e = let same : removed_number (number_within n) ≡ c = cc in removed-still (number_within n) c same
entry-still (Encode code g) c e = none-still c e
entry-still (Unencode code) c e = none-still c e
entry-still (LenIv n) c e = none-still c e
entry-still (Kern left right v) c e = none-still c e
entry-still (Unkern left right) c e = none-still c e

-- ---- a change

still : (change : Option EntryChange) → IsStill (option_map key_change change) → (g : List ℕ) → was_moved (option_to_list change) g ≡ false
still None h g = refl
still (Some x) h g = let same : x.moved ≡ false = cc in ap (λ b. (b && is_key_of g (key_of x.named)) || false) same

keys-listed : (change : Option EntryChange) → changed_keys (option_to_list change) ≡ option_to_list (option_map (λ x. x.key) (option_map key_change change))
keys-listed None = refl
keys-listed (Some change) = refl

module _ (edit : Edit) (old new : SourceParts) (is : IsMadeByEdit edit old new) where
  checked-is : bodies_check new.items ≡ unit_of (edit_change edit)
  checked-is = edits_checked old is.pairs edit new is.made_pairs is.compiled is.made

  pub words-refused : (refusal : Refusal) → Refuses refusal (edit_change edit) → Refuses refusal (file_check new)
  words-refused refusals.Memory h = tt
  words-refused (refusals.Fault fault) h = body_fault_reported new fault (checked-is ∙ ap unit_of h)

  module _ (change : Option EntryChange) (reported : edit_change edit ≡ Ok (option_map key_change change)) where
    keys-are : changed_keys (option_to_list change) ≡ named edit
    keys-are =
        keys-listed change ∙ ap option_to_list (entry-reported edit (option_map key_change change) reported).0
        ∙ key-named old is.pairs edit new is.made_pairs is.made

    its-body : (change : Option EntryChange) → edit_change edit ≡ Ok (option_map key_change change) → changed_keys (option_to_list change) ≡ named edit
        → AllByRecursion (HasBody new) (option_to_list change)
    its-body None reported keys = tt
    its-body (Some x) reported keys = (
      body_edited old is.pairs edit new is.made_pairs is.well is.made (key_of x.named) (subst (λ ks. Includes ks (key_of x.named)) keys (inl refl))
          ∙ by (entry_key edit) (entry-reported edit (Some (key_change x)) reported),
      tt,
    )
      where
        by : (key : Option Key) → (Some (key_of x.named) ≡ key) × (Some x.body ≡ option_map (λ k. body_after edit) key) → body_after edit ≡ x.body
        by None h = absurd (cc)
        by (Some key) h = let same : x.body ≡ body_after edit = cc in sym same

    unmoved : (g : List ℕ) → was_moved (option_to_list change) g ≡ false
    unmoved = still change (entry-still edit (option_map key_change change) reported)

    pub is-changed : IsChanged edit old new change
    is-changed = record {
      keys = keys-are;
      edited = subst (λ keys. IsEditedAt keys old new) (sym keys-are) (edits_named old is.pairs edit new is.made_pairs is.made);
      bodies = its-body change reported keys-are;
      unmoved = unmoved;
      compiled = checked-is ∙ ap unit_of reported;
      order = one-order (option_to_list change) old new unmoved (edited-order old is.pairs edit new is.made_pairs is.well is.well_made is.made);
    }

  -- of each outcome
  pub change-reported : (r : Result (Option EntryChange) Refusal) → Gives (option_map key_change) r (edit_change edit)
      → MatchResult r (IsChanged edit old new) (λ refusal. Refuses refusal (file_check new))
  change-reported (Ok change) h = is-changed change h
  change-reported (Err refusal) h = words-refused refusal h
