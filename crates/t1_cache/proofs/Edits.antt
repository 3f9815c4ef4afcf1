-- Each edit changes a source at the key that it names, and nowhere else.
use Rattle.std.proofs.Common.{◌≡◌, ℕ, Bool, true, not, ℤ, pos, negsuc, nat_le, Result, Ok, Err, List, [], ◌∷◌, take, drop, filter, refl, sym, ◌∙◌, ap, subst, inl, inr}
use Rattle.std.specs.List.{position_or_len, insert, remove, slice_set}
use Rattle.std.proofs.lemmas.Bool.{cases_Bool, eqb-true}
use Rattle.std.proofs.lemmas.List.{take-append-drop}
use Rattle.std.proofs.lemmas.Slice.Eq.{bytes_eq-Decides}
use Rattle.t1_source.specs.declared.edit.Edit.TheVariants.{ReplaceGlyph, AddGlyph, RemoveGlyph, ReplaceSubr, AddSubr, RemoveSubr, Encode, Unencode, LenIv, Kern, Unkern}
use Rattle.t1_source.specs.declared.edit.Rule.{Rule}
use Rattle.t1_source.specs.declared.edit.Rule.TheVariants.{E4}
use Rattle.t1_parts.specs.declared.item.Item.{Item}
use Rattle.t1_parts.specs.declared.item.Item.TheVariants as items
use Rattle.t1_parts.specs.SourceParts.{SourceParts}
use Rattle.t1_parts.specs.Counts.{raised}
use Rattle.t1_parts.specs.Entries.{is_subr, is_glyph}
use Rattle.t1_source.specs.Editing.{number_up_to, replaced_glyph, added_glyph, removed_glyph, replaced_subr, added_subr, removed_subr, encoded, unencoded, lead_edited, kerned, unkerned, edited}
use Rattle.t1_source.specs.Leads.{line_with_lead, lead_line, says_lead, is_section_line, line_at}
use Rattle.t1_source.proofs.WellFormedEditedLaws.{source_given, source_same}
use Rattle.t1_source.proofs.ItemPlaceLaws.{position_first, set_there, removed_there}
use Rattle.t1_run.specs.Run.{Key, Subr, Glyph}
use Rattle.t1_run.specs.Footprint.{Includes, SameAt}
use Rattle.t1_font.specs.Bodies.{bodies}
use Rattle.t1_font.specs.Glyphs.{glyph_names}
use Rattle.t1_run.specs.Touched.{is_named}
use Rattle.t1_cache.specs.Edited.{IsEditedAt}
use Rattle.t1_cache.specs.EditKeys.{subr_key}
use Rattle.t1_cache.specs.Laws.{IsKeyAmong, EditLaw}
use Rattle.t1_cache.proofs.Accepted.{glyph_at, last_glyph, last_subr, new_glyph, new_subr, subr_at, added_glyph-made, added_subr-made, encoded-made, lead-made, removed_glyph-made, removed_subr-made, replaced_glyph-made, replaced_subr-made, unencoded-made, IsIn, IsLeadMade, IsNumbered, IsOut, IsPut, LeadIn, LeadPut}
use Rattle.t1_cache.proofs.Middles.{edited_middle}

-- ---- entries replaced, put in and taken out

put-edits : (keys : List Key) (s made : SourceParts) (test : Item → Bool) (y : ℕ → Item) → ((x : Item) → test x ≡ true → IsKeyAmong keys x)
    → ((at : ℕ) → IsKeyAmong keys (y at)) → IsPut test y s made → IsEditedAt keys s made
put-edits keys s made test y was new put =
    let f = position_first test s.items put.at put.there in
    let a = f.found.before in
    let x = f.found.here in
    let b = f.found.after in
    edited_middle keys s made a (x ∷ []) (y put.at ∷ []) b (was x f.found.passes, tt) (new put.at, tt) f.found.whole
    (put.are ∙ ap raised (ap (λ t. slice_set t put.at (y put.at)) f.found.whole ∙ set_there a x b put.at (y put.at) f.place))

out-edits : (keys : List Key) (s made : SourceParts) (test : Item → Bool) → ((x : Item) → test x ≡ true → IsKeyAmong keys x) → IsOut test s made → IsEditedAt keys s made
out-edits keys s made test was out =
    let f = position_first test s.items out.at out.there in
    let a = f.found.before in
    let x = f.found.here in
    let b = f.found.after in
    edited_middle keys s made a (x ∷ []) [] b (was x f.found.passes, tt) tt f.found.whole
    (out.are ∙ ap raised (ap (λ t. remove t out.at) f.found.whole ∙ removed_there a x b out.at f.place))

in-edits : (keys : List Key) (s made : SourceParts) (at : ℕ) (y : Item) → IsKeyAmong keys y → made.items ≡ raised (insert s.items at y) → IsEditedAt keys s made
in-edits keys s made at y new is =
    edited_middle keys s made (take at s.items) [] (y ∷ []) (drop at s.items) tt (new, tt) (sym (take-append-drop at s.items)) is

same-edits : (keys : List Key) (s made : SourceParts) → s.items ≡ made.items → IsEditedAt keys s made
same-edits keys s made e = record {
  bodies = record { same = same };
  order = ap (λ t. filter (λ g. not (is_named keys g)) (glyph_names t)) e;
} where
  same : (k : Key) → (Includes keys k → ⊥) → SameAt (bodies s.items) (bodies made.items) k
  same (Subr n) other = ap (λ t. (bodies t).subrs n) e
  same (Glyph g) other = ap (λ t. (bodies t).glyphs g) e

glyph-among : (g : List ℕ) (x : Item) → is_glyph g x ≡ true → IsKeyAmong (Glyph g ∷ []) x
glyph-among g (items.Plain l) h = cc
glyph-among g (items.Section b n a) h = cc
glyph-among g (items.Subr n ws c) h = cc
glyph-among g (items.Glyph name ws c) h = inl (ap Glyph ((bytes_eq-Decides g name).0 h))

subr-among : (n : ℕ) (x : Item) → is_subr n x ≡ true → IsKeyAmong (Subr n ∷ []) x
subr-among n (items.Plain l) h = cc
subr-among n (items.Section b k a) h = cc
subr-among n (items.Subr m ws c) h = inl (ap Subr (eqb-true n m h))
subr-among n (items.Glyph name ws c) h = cc

-- the number of a Subr that is in range
pub key-of : (v : ℤ) (n : ℕ) → number_up_to 32000 v ≡ Ok n → Subr n ∷ [] ≡ subr_key v
key-of (pos m) n e =
    elim (cases_Bool (nat_le m 32000)) [
      | inl small ↦
          let here : ◌≡◌ {A = Result ℕ Rule} (Ok m) (Ok n) = rw small at e in
          let same : m ≡ n = cc in
          ap (λ k. Subr k ∷ []) (sym same)
      | inr large ↦ let none : ◌≡◌ {A = Result ℕ Rule} (Err E4) (Ok n) = rw large at e in absurd (cc)
    ]
key-of (negsuc m) n e = absurd (cc)

-- ---- the edits of Subrs

subr-edits : (s made : SourceParts) (v : ℤ) (Made : ℕ → Type 0) → IsNumbered v Made → ((n : ℕ) → Made n → IsEditedAt (Subr n ∷ []) s made) → IsEditedAt (subr_key v) s made
subr-edits s made v Made its step = subst (λ keys. IsEditedAt keys s made) (key-of v its.n its.within) (step its.n its.made)

-- ---- the edit of lenIV

plain-among : (x : Item) → says_lead x ≡ true → IsKeyAmong [] x
plain-among (items.Plain l) h = tt
plain-among (items.Section b n a) h = tt
plain-among (items.Subr n ws c) h = cc
plain-among (items.Glyph g ws c) h = cc

lead-edits : (s made : SourceParts) → IsLeadMade s made → IsEditedAt [] s made
lead-edits s made (LeadIn n is) = in-edits [] s made (position_or_len is_section_line s.items) (items.Plain (lead_line n)) tt is
lead-edits s made (LeadPut n put) = put-edits [] s made says_lead (λ at. items.Plain (line_with_lead n (line_at at s.items))) plain-among (λ at. tt) put

-- ---- all edits

pub edits_named : EditLaw
unfolding edited
edits_named s k (ReplaceGlyph g body) made ps e =
    put-edits (Glyph g ∷ []) s made (is_glyph g) (glyph_at s g body) (glyph-among g) (λ at. inl refl) (replaced_glyph-made s g body made (source_given k ps (replaced_glyph s g body) made e))
edits_named s k (AddGlyph g body) made ps e =
    in-edits (Glyph g ∷ []) s made (last_glyph s) (new_glyph s g body) (inl refl) (added_glyph-made s g body made (source_given k ps (added_glyph s g body) made e)).are
edits_named s k (RemoveGlyph g) made ps e =
    out-edits (Glyph g ∷ []) s made (is_glyph g) (glyph-among g) (removed_glyph-made s g made (source_given k ps (removed_glyph s g) made e))
edits_named s k (ReplaceSubr v body) made ps e =
    subr-edits s made v (λ n. IsPut (is_subr n) (subr_at s body n) s made) (replaced_subr-made s v body made (source_given k ps (replaced_subr s v body) made e))
    (λ n put. put-edits (Subr n ∷ []) s made (is_subr n) (subr_at s body n) (subr-among n) (λ at. inl refl) put)
edits_named s k (AddSubr v body) made ps e =
    subr-edits s made v (λ n. IsIn (is_subr n) (last_subr s) (new_subr s body n) s made) (added_subr-made s v body made (source_given k ps (added_subr s v body) made e))
    (λ n new. in-edits (Subr n ∷ []) s made (last_subr s) (new_subr s body n) (inl refl) new.are)
edits_named s k (RemoveSubr v) made ps e =
    subr-edits s made v (λ n. IsOut (is_subr n) s made) (removed_subr-made s v made (source_given k ps (removed_subr s v) made e))
    (λ n out. out-edits (Subr n ∷ []) s made (is_subr n) (subr-among n) out)
edits_named s k (Encode code g) made ps e = same-edits [] s made (encoded-made s code g made (source_given k ps (encoded s code g) made e))
edits_named s k (Unencode code) made ps e = same-edits [] s made (unencoded-made s code made (source_given k ps (unencoded s code) made e))
edits_named s k (LenIv n) made ps e = lead-edits s made (lead-made s n made (source_given k ps (lead_edited s n) made e))
edits_named s k (Kern left right v) made ps e = same-edits [] s made (ap (λ t. t.items) (source_same s ps (kerned k left right v) made e))
edits_named s k (Unkern left right) made ps e = same-edits [] s made (ap (λ t. t.items) (source_same s ps (unkerned k left right) made e))
