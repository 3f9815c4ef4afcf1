-- Entries that no edit of a batch names have no fault.
use Rattle.std.proofs.Common.{◌≡◌, ◌∙◌, ℕ, zero, suc, ℤ, pos, negsuc, nat_le, Bool, true, false, List, [], ◌∷◌, ◌++◌, map, take, drop, Result, Ok, Err, refl, sym, ap, subst, inl, inr}
use Rattle.std.specs.Prelude.{◌||◌}
use Rattle.std.specs.List.{insert, list_any, position_or_len, remove, slice_set, AllByRecursion}
use Rattle.std.proofs.Math.Bool.{or-true}
use Rattle.std.proofs.lemmas.Bool.{cases_Bool, or_parts}
use Rattle.std.proofs.lemmas.List.Folds.{list_any-append}
use Rattle.t1_parts.specs.declared.item.Item.{Item}
use Rattle.t1_parts.specs.declared.item.Item.TheVariants as items
use Rattle.t1_parts.specs.Counts.{glyphs_needed, raised, raised_item, subrs_needed}
use Rattle.t1_parts.specs.Entries.{is_glyph, is_subr}
use Rattle.t1_parts.specs.SourceParts.{SourceParts}
use Rattle.t1_pairs.specs.declared.pairs.Pair.{Pair}
use Rattle.t1_source.specs.declared.edit.Edit.{Edit}
use Rattle.t1_source.specs.declared.edit.Edit.TheVariants.{ReplaceGlyph, AddGlyph, RemoveGlyph, ReplaceSubr, AddSubr, RemoveSubr, Encode, Unencode, LenIv, Kern, Unkern}
use Rattle.t1_source.specs.declared.edit.Rule.{Rule}
use Rattle.t1_source.specs.declared.edit.Rule.TheVariants.{E4}
use Rattle.t1_source.specs.Editing.{added_glyph, added_subr, edited, encoded, kerned, lead_edited, number_up_to, removed_glyph, removed_subr, replaced_glyph, replaced_subr, unencoded, unkerned}
use Rattle.t1_source.specs.Leads.{is_section_line, lead_line, line_at, line_with_lead, says_lead}
use Rattle.t1_source.proofs.WellFormedEditedLaws.{source_given, source_same}
use Rattle.t1_run.specs.Run.{Key, Subr, Glyph}
use Rattle.t1_run.specs.RunKeys.{key_eq}
use Rattle.t1_run.proofs.Within.{each-append, each-drop, each-take}
use Rattle.t1_font.specs.Bodies.{bodies_check, body_check}
use Rattle.t1_font.proofs.Keys.{key-itself}
use Rattle.t1_cache.specs.EditKeys.{named, subr_key}
use Rattle.t1_cache.proofs.Accepted.{added_glyph-made, added_subr-made, encoded-made, glyph_at, last_glyph, last_subr, lead-made, new_glyph, new_subr, removed_glyph-made, removed_subr-made, replaced_glyph-made, replaced_subr-made, subr_at, unencoded-made, IsLeadMade, IsOut, IsPut, LeadIn, LeadPut}
use Rattle.t1_cache.proofs.Lists.{all-weaken}
use Rattle.t1_charstrings.proofs.Texts.{both_fine}
use Rattle.t1_held.specs.Drafting.{is_entry_among, IsSoundBut}

-- ---- of more keys

-- bodies without a fault have none but at any keys
pub all-sound : (ks : List Key) (is : List Item) → bodies_check is ≡ Ok tt → AllByRecursion (IsSoundBut ks) is
all-sound ks [] fine = tt
all-sound ks (i ∷ is) fine =
    let parts = both_fine (body_check i) (bodies_check is) fine in
    (λ other. parts.0, all-sound ks is parts.1)

among-more : (ks ls : List Key) (i : Item) → is_entry_among (ks ++ ls) i ≡ false → is_entry_among ks i ≡ false
among-more ks ls (items.Plain l) off = refl
among-more ks ls (items.Section before n after) off = refl
among-more ks ls (items.Subr n words closing) off =
    (or_parts (list_any (key_eq (Subr n)) ks) (list_any (key_eq (Subr n)) ls) (sym (list_any-append (key_eq (Subr n)) ks ls) ∙ off)).0
among-more ks ls (items.Glyph g words closing) off =
    (or_parts (list_any (key_eq (Glyph g)) ks) (list_any (key_eq (Glyph g)) ls) (sym (list_any-append (key_eq (Glyph g)) ks ls) ∙ off)).0

more-sound : (ks ls : List Key) (is : List Item) → AllByRecursion (IsSoundBut ks) is → AllByRecursion (IsSoundBut (ks ++ ls)) is
more-sound ks ls is was = all-weaken (IsSoundBut ks) (IsSoundBut (ks ++ ls)) (λ i sound off. sound (among-more ks ls i off)) is was

-- the last of the keys is among them
last-among : (ks : List Key) (k : Key) → list_any (key_eq k) (ks ++ k ∷ []) ≡ true
last-among ks k =
    list_any-append (key_eq k) ks (k ∷ []) ∙ ap (λ b. list_any (key_eq k) ks || (b || false)) (key-itself k)
    ∙ or-true (list_any (key_eq k) ks)

-- ---- of other items

all-set : (P : Item → Type 0) (is : List Item) (at : ℕ) (x : Item) → P x → AllByRecursion P is → AllByRecursion P (slice_set is at x)
all-set P [] at x p all = tt
all-set P (i ∷ is) zero x p all = (p, all.1)
all-set P (i ∷ is) (suc at) x p all = (all.0, all-set P is at x p all.1)

all-insert : (P : Item → Type 0) (is : List Item) (at : ℕ) (x : Item) → P x → AllByRecursion P is → AllByRecursion P (insert is at x)
all-insert P is at x p all = each-append P (take at is) (x ∷ drop at is) (each-take P at is all) (p, each-drop P at is all)

all-remove : (P : Item → Type 0) (is : List Item) (at : ℕ) → AllByRecursion P is → AllByRecursion P (remove is at)
all-remove P is at all = each-append P (take at is) (drop (suc at) is) (each-take P at is all) (each-drop P (suc at) is all)

-- raised counts change section lines alone
raised-one : (ks : List Key) (subrs glyphs : ℕ) (i : Item) → IsSoundBut ks i → IsSoundBut ks (raised_item subrs glyphs i)
raised-one ks subrs glyphs (items.Plain l) sound = sound
raised-one ks subrs glyphs (items.Section before n after) sound = λ off. refl
raised-one ks subrs glyphs (items.Subr n words closing) sound = sound
raised-one ks subrs glyphs (items.Glyph g words closing) sound = sound

raised-sound : (ks : List Key) (subrs glyphs : ℕ) (is : List Item) → AllByRecursion (IsSoundBut ks) is → AllByRecursion (IsSoundBut ks) (map (raised_item subrs glyphs) is)
raised-sound ks subrs glyphs [] all = tt
raised-sound ks subrs glyphs (i ∷ is) all = (raised-one ks subrs glyphs i all.0, raised-sound ks subrs glyphs is all.1)

all-raised : (ks : List Key) (is : List Item) → AllByRecursion (IsSoundBut ks) is → AllByRecursion (IsSoundBut ks) (raised is)
all-raised ks is all = raised-sound ks (subrs_needed is) (glyphs_needed is) is all

-- ---- of an edit

module _ (ks : List Key) (s made : SourceParts) (was : AllByRecursion (IsSoundBut ks) s.items) where
  abbrev Sound : List Item → Type 0
  Sound is = AllByRecursion (IsSoundBut ks) is

  put-sound : (test : Item → Bool) (y : ℕ → Item) → ((at : ℕ) → IsSoundBut ks (y at)) → IsPut test y s made → Sound made.items
  put-sound test y sound put =
      subst Sound (sym put.are)
      (all-raised ks (slice_set s.items put.at (y put.at)) (all-set (IsSoundBut ks) s.items put.at (y put.at) (sound put.at) was))

  in-sound : (at : ℕ) (y : Item) → IsSoundBut ks y → made.items ≡ raised (insert s.items at y) → Sound made.items
  in-sound at y sound are = subst Sound (sym are) (all-raised ks (insert s.items at y) (all-insert (IsSoundBut ks) s.items at y sound was))

  out-sound : (test : Item → Bool) → IsOut test s made → Sound made.items
  out-sound test out = subst Sound (sym out.are) (all-raised ks (remove s.items out.at) (all-remove (IsSoundBut ks) s.items out.at was))

  lead-sound : IsLeadMade s made → Sound made.items
  lead-sound (LeadIn n are) = in-sound (position_or_len is_section_line s.items) (items.Plain (lead_line n)) (λ off. refl) are
  lead-sound (LeadPut n put) = put-sound says_lead (λ at. items.Plain (line_with_lead n (line_at at s.items))) (λ at off. refl) put

-- an entry of the last key
last-sound : (ks : List Key) (k : Key) (i : Item) → is_entry_among (ks ++ k ∷ []) i ≡ list_any (key_eq k) (ks ++ k ∷ []) → IsSoundBut (ks ++ k ∷ []) i
last-sound ks k i is off =
    let never : true ≡ false = sym (last-among ks k) ∙ sym is ∙ off in
    absurd (cc)

-- the key of a number that an edit may name
number-key : (v : ℤ) (n : ℕ) → number_up_to 32000 v ≡ Ok n → subr_key v ≡ Subr n ∷ []
number-key (negsuc m) n e = absurd (cc)
number-key (pos m) n e =
    elim (cases_Bool (nat_le m 32000)) [
      | inl low ↦
          let here : ◌≡◌ {A = Result ℕ Rule} (Ok m) (Ok n) = rw low at e in
          let same : m ≡ n = cc in
          ap (λ number. Subr number ∷ []) same
      | inr high ↦ let never : ◌≡◌ {A = Result ℕ Rule} (Err E4) (Ok n) = rw high at e in absurd (cc)
    ]

module _ (ks : List Key) (s made : SourceParts) (was : AllByRecursion (IsSoundBut ks) s.items) where
  abbrev SoundBut : List Key → Type 0
  SoundBut ls = AllByRecursion (IsSoundBut (ks ++ ls)) made.items

  replaced_subr-sound : (v : ℤ) (body : List ℕ) → replaced_subr s v body ≡ Ok made → SoundBut (subr_key v)
  replaced_subr-sound v body e =
      let its = replaced_subr-made s v body made e in
      let ls = Subr its.n ∷ [] in
      subst SoundBut (sym (number-key v its.n its.within))
      (put-sound (ks ++ ls) s made (more-sound ks ls s.items was) (is_subr its.n) (subr_at s body its.n)
      (λ at. last-sound ks (Subr its.n) (subr_at s body its.n at) refl) its.made)

  added_subr-sound : (v : ℤ) (body : List ℕ) → added_subr s v body ≡ Ok made → SoundBut (subr_key v)
  added_subr-sound v body e =
      let its = added_subr-made s v body made e in
      let ls = Subr its.n ∷ [] in
      subst SoundBut (sym (number-key v its.n its.within))
      (in-sound (ks ++ ls) s made (more-sound ks ls s.items was) (last_subr s) (new_subr s body its.n)
      (last-sound ks (Subr its.n) (new_subr s body its.n) refl) its.made.are)

  removed_subr-sound : (v : ℤ) → removed_subr s v ≡ Ok made → SoundBut (subr_key v)
  removed_subr-sound v e =
      let its = removed_subr-made s v made e in
      out-sound (ks ++ subr_key v) s made (more-sound ks (subr_key v) s.items was) (is_subr its.n) its.made

  same-sound : s.items ≡ made.items → SoundBut []
  same-sound are = subst (AllByRecursion (IsSoundBut (ks ++ []))) are (more-sound ks [] s.items was)

-- what no edit before and not this one names has no fault after it
pub edit-sound : (ks : List Key) (s : SourceParts) (k : List Pair) (edit : Edit) (made : SourceParts) (ps : List Pair) → edited s k edit ≡ Ok (made, ps)
    → AllByRecursion (IsSoundBut ks) s.items → AllByRecursion (IsSoundBut (ks ++ named edit)) made.items
unfolding edited
edit-sound ks s k (ReplaceGlyph g body) made ps e was =
    put-sound (ks ++ Glyph g ∷ []) s made (more-sound ks (Glyph g ∷ []) s.items was) (is_glyph g) (glyph_at s g body)
    (λ at. last-sound ks (Glyph g) (glyph_at s g body at) refl)
    (replaced_glyph-made s g body made (source_given k ps (replaced_glyph s g body) made e))
edit-sound ks s k (AddGlyph g body) made ps e was =
    in-sound (ks ++ Glyph g ∷ []) s made (more-sound ks (Glyph g ∷ []) s.items was) (last_glyph s) (new_glyph s g body)
    (last-sound ks (Glyph g) (new_glyph s g body) refl)
    (added_glyph-made s g body made (source_given k ps (added_glyph s g body) made e)).are
edit-sound ks s k (RemoveGlyph g) made ps e was =
    out-sound (ks ++ Glyph g ∷ []) s made (more-sound ks (Glyph g ∷ []) s.items was) (is_glyph g)
    (removed_glyph-made s g made (source_given k ps (removed_glyph s g) made e))
edit-sound ks s k (ReplaceSubr n body) made ps e was = replaced_subr-sound ks s made was n body (source_given k ps (replaced_subr s n body) made e)
edit-sound ks s k (AddSubr n body) made ps e was = added_subr-sound ks s made was n body (source_given k ps (added_subr s n body) made e)
edit-sound ks s k (RemoveSubr n) made ps e was = removed_subr-sound ks s made was n (source_given k ps (removed_subr s n) made e)
edit-sound ks s k (Encode code g) made ps e was = same-sound ks s made was (encoded-made s code g made (source_given k ps (encoded s code g) made e))
edit-sound ks s k (Unencode code) made ps e was = same-sound ks s made was (unencoded-made s code made (source_given k ps (unencoded s code) made e))
edit-sound ks s k (LenIv n) made ps e was =
    lead-sound (ks ++ []) s made (more-sound ks [] s.items was) (lead-made s n made (source_given k ps (lead_edited s n) made e))
edit-sound ks s k (Kern left right v) made ps e was = same-sound ks s made was (ap (λ t. t.items) (source_same s ps (kerned k left right v) made e))
edit-sound ks s k (Unkern left right) made ps e was = same-sound ks s made was (ap (λ t. t.items) (source_same s ps (unkerned k left right) made e))
