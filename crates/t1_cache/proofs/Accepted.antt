-- What accepted edits make of the items of a source.
use Rattle.std.proofs.Common.{◌≡◌, ℕ, Bool, false, not, ℤ, ok_or, Option, Some, None, Result, Ok, List, ◌++◌, filter, codes, refl, sym, ap}
use Rattle.std.specs.List.{list_any, position, position_or_len, insert, remove, slice_set}
use Rattle.std.proofs.lemmas.Bool.{not-true}
use Rattle.t1_frac.specs.Outcome.{◌>>=◌}
use Rattle.t1_parts.specs.declared.item.Item.{Item}
use Rattle.t1_parts.specs.declared.item.Item.TheVariants as entries
use Rattle.t1_parts.specs.Counts.{is_glyph_entry, raised}
use Rattle.t1_parts.specs.Entries.{is_subr, is_glyph}
use Rattle.t1_parts.specs.SourceParts.{SourceParts}
use Rattle.t1_source.specs.declared.edit.Rule.{Rule}
use Rattle.t1_source.specs.declared.edit.Rule.TheVariants.{E1, E2, E10}
use Rattle.t1_source.specs.Editing.{keeps, number_up_to, body_words, good_name, good_body, with_items, with_clear, closing_at, closing_among, through_last, is_subr_entry, among_subrs_items, among_glyphs_items, has_section, replaced_glyph, added_glyph, removed_glyph, replaced_subr, added_subr, removed_subr, array_parts, encoded_lines, encoded, unencoded, lead_edited, is_slot_of}
use Rattle.t1_source.specs.Leads.{line_with_lead, lead_line, says_lead, is_section_line, line_at, lead_put, items_with_lead}
use Rattle.t1_frac.proofs.OutcomeLaws.{bind_ok}
use Rattle.t1_source.proofs.RuleLaws.{kept_ok}
use Rattle.t1_source.proofs.WellFormedItemsLaws.{given_some}

-- ---- items replaced, put in and taken out

-- the first item that passes a test has another in its place
pub record IsPut (test : Item → Bool) (y : ℕ → Item) (s made : SourceParts) : Type 0 where
  pub at : ℕ
  pub there : position test s.items ≡ Some at
  pub are : made.items ≡ raised (slice_set s.items at (y at))

-- it is taken out
pub record IsOut (test : Item → Bool) (s made : SourceParts) : Type 0 where
  pub at : ℕ
  pub there : position test s.items ≡ Some at
  pub are : made.items ≡ raised (remove s.items at)

-- an item is put in where none passes a test
pub record IsIn (test : Item → Bool) (at : ℕ) (y : Item) (s made : SourceParts) : Type 0 where
  pub fresh : list_any test s.items ≡ false
  pub are : made.items ≡ raised (insert s.items at y)

-- the edit of a Subr, whose number is in range
pub record IsNumbered (v : ℤ) (Made : ℕ → Type 0) : Type 0 where
  pub n : ℕ
  pub within : number_up_to 32000 v ≡ Ok n
  pub made : Made n

-- ---- the items that are put

abbrev pub glyph_at : SourceParts → List ℕ → List ℕ → ℕ → Item
glyph_at s g body at = entries.Glyph g (body_words body) (closing_at at s.items)

abbrev pub subr_at : SourceParts → List ℕ → ℕ → ℕ → Item
subr_at s body n at = entries.Subr n (body_words body) (closing_at at s.items)

abbrev pub new_glyph : SourceParts → List ℕ → List ℕ → Item
new_glyph s g body = entries.Glyph g (body_words body) (closing_among is_glyph_entry (codes "noaccess def") s.items)

abbrev pub new_subr : SourceParts → List ℕ → ℕ → Item
new_subr s body n = entries.Subr n (body_words body) (closing_among is_subr_entry (codes "noaccess put") s.items)

abbrev pub last_glyph : SourceParts → ℕ
last_glyph s = through_last among_glyphs_items s.items

abbrev pub last_subr : SourceParts → ℕ
last_subr s = through_last among_subrs_items s.items

-- ---- what is accepted

made-items : (s made : SourceParts) (xs : List Item) → ◌≡◌ {A = Result SourceParts Rule} (Ok (with_items s xs)) (Ok made) → made.items ≡ raised xs
made-items s made xs e = let is : with_items s xs ≡ made = cc in ap (λ t. t.items) (sym is)

made-clear : (s made : SourceParts) (ls : List (List ℕ)) → ◌≡◌ {A = Result SourceParts Rule} (Ok (with_clear s ls)) (Ok made) → s.items ≡ made.items
made-clear s made ls e = let is : with_clear s ls ≡ made = cc in ap (λ t. t.items) is

placed : (test : Item → Bool) (y : ℕ → Item) (s made : SourceParts)
    → (ok_or (position test s.items) E1 >>= λ at. Ok (with_items s (slice_set s.items at (y at)))) ≡ Ok made → IsPut test y s made
placed test y s made e =
    let found = bind_ok (ok_or (position test s.items) E1) (λ at. Ok (with_items s (slice_set s.items at (y at)))) made e in
    record { at = found.0; there = given_some (position test s.items) E1 found.0 found.1; are = made-items s made (slice_set s.items found.0 (y found.0)) found.2 }

gone : (test : Item → Bool) (s made : SourceParts)
    → (ok_or (position test s.items) E1 >>= λ at. Ok (with_items s (remove s.items at))) ≡ Ok made → IsOut test s made
gone test s made e =
    let found = bind_ok (ok_or (position test s.items) E1) (λ at. Ok (with_items s (remove s.items at))) made e in
    record { at = found.0; there = given_some (position test s.items) E1 found.0 found.1; are = made-items s made (remove s.items found.0) found.2 }

added : (test : Item → Bool) (at : ℕ) (y : Item) (s made : SourceParts)
    → (keeps E2 (not (list_any test s.items)) >>= λ fresh. Ok (with_items s (insert s.items at y))) ≡ Ok made → IsIn test at y s made
added test at y s made e =
    let fresh = bind_ok (keeps E2 (not (list_any test s.items))) (λ fresh. Ok (with_items s (insert s.items at y))) made e in
    record { fresh = not-true (list_any test s.items) (kept_ok E2 (not (list_any test s.items)) fresh.1); are = made-items s made (insert s.items at y) fresh.2 }

pub replaced_glyph-made : (s : SourceParts) (g body : List ℕ) (made : SourceParts) → replaced_glyph s g body ≡ Ok made → IsPut (is_glyph g) (glyph_at s g body) s made
unfolding replaced_glyph
replaced_glyph-made s g body made e =
    let placing : Result SourceParts Rule = ok_or (position (is_glyph g) s.items) E1 >>= λ at. Ok (with_items s (slice_set s.items at (glyph_at s g body at))) in
    let named = bind_ok (good_name g) (λ named. good_body body >>= λ closed. placing) made e in
    let closed = bind_ok (good_body body) (λ closed. placing) made named.2 in
    placed (is_glyph g) (glyph_at s g body) s made closed.2

pub removed_glyph-made : (s : SourceParts) (g : List ℕ) (made : SourceParts) → removed_glyph s g ≡ Ok made → IsOut (is_glyph g) s made
unfolding removed_glyph
removed_glyph-made s g made e =
    let named = bind_ok (good_name g) (λ named. ok_or (position (is_glyph g) s.items) E1 >>= λ at. Ok (with_items s (remove s.items at))) made e in
    gone (is_glyph g) s made named.2

pub added_glyph-made : (s : SourceParts) (g body : List ℕ) (made : SourceParts) → added_glyph s g body ≡ Ok made → IsIn (is_glyph g) (last_glyph s) (new_glyph s g body) s made
unfolding added_glyph
added_glyph-made s g body made e =
    let adding : Result SourceParts Rule = keeps E2 (not (list_any (is_glyph g) s.items)) >>= λ fresh. Ok (with_items s (insert s.items (last_glyph s) (new_glyph s g body))) in
    let named = bind_ok (good_name g) (λ named. good_body body >>= λ closed. adding) made e in
    let closed = bind_ok (good_body body) (λ closed. adding) made named.2 in
    added (is_glyph g) (last_glyph s) (new_glyph s g body) s made closed.2

pub replaced_subr-made : (s : SourceParts) (v : ℤ) (body : List ℕ) (made : SourceParts) → replaced_subr s v body ≡ Ok made
    → IsNumbered v (λ n. IsPut (is_subr n) (subr_at s body n) s made)
unfolding replaced_subr
replaced_subr-made s v body made e =
    let placing : ℕ → Result SourceParts Rule = λ n. ok_or (position (is_subr n) s.items) E1 >>= λ at. Ok (with_items s (slice_set s.items at (subr_at s body n at))) in
    let number = bind_ok (number_up_to 32000 v) (λ n. good_body body >>= λ closed. has_section s >>= λ section. placing n) made e in
    let n = number.0 in
    let closed = bind_ok (good_body body) (λ closed. has_section s >>= λ section. placing n) made number.2 in
    let section = bind_ok (has_section s) (λ section. placing n) made closed.2 in
    record { n = n; within = number.1; made = placed (is_subr n) (subr_at s body n) s made section.2 }

pub removed_subr-made : (s : SourceParts) (v : ℤ) (made : SourceParts) → removed_subr s v ≡ Ok made → IsNumbered v (λ n. IsOut (is_subr n) s made)
unfolding removed_subr
removed_subr-made s v made e =
    let placing : ℕ → Result SourceParts Rule = λ n. ok_or (position (is_subr n) s.items) E1 >>= λ at. Ok (with_items s (remove s.items at)) in
    let number = bind_ok (number_up_to 32000 v) (λ n. has_section s >>= λ section. placing n) made e in
    let n = number.0 in
    let section = bind_ok (has_section s) (λ section. placing n) made number.2 in
    record { n = n; within = number.1; made = gone (is_subr n) s made section.2 }

pub added_subr-made : (s : SourceParts) (v : ℤ) (body : List ℕ) (made : SourceParts) → added_subr s v body ≡ Ok made
    → IsNumbered v (λ n. IsIn (is_subr n) (last_subr s) (new_subr s body n) s made)
unfolding added_subr
added_subr-made s v body made e =
    let adding : ℕ → Result SourceParts Rule = λ n. keeps E2 (not (list_any (is_subr n) s.items)) >>= λ fresh. Ok (with_items s (insert s.items (last_subr s) (new_subr s body n))) in
    let number = bind_ok (number_up_to 32000 v) (λ n. good_body body >>= λ closed. has_section s >>= λ section. adding n) made e in
    let n = number.0 in
    let closed = bind_ok (good_body body) (λ closed. has_section s >>= λ section. adding n) made number.2 in
    let section = bind_ok (has_section s) (λ section. adding n) made closed.2 in
    record { n = n; within = number.1; made = added (is_subr n) (last_subr s) (new_subr s body n) s made section.2 }

-- ---- slots and lenIV

pub encoded-made : (s : SourceParts) (v : ℤ) (g : List ℕ) (made : SourceParts) → encoded s v g ≡ Ok made → s.items ≡ made.items
unfolding encoded
encoded-made s v g made e =
    let first = bind_ok (good_name g) (λ named. number_up_to 255 v >>= λ code. array_parts s.clear >>= λ array. Ok (with_clear s (array.front ++ encoded_lines code g array.lines ++ array.back))) made e in
    let second = bind_ok (number_up_to 255 v) (λ code. array_parts s.clear >>= λ array. Ok (with_clear s (array.front ++ encoded_lines code g array.lines ++ array.back))) made first.2 in
    let third = bind_ok (array_parts s.clear) (λ array. Ok (with_clear s (array.front ++ encoded_lines second.0 g array.lines ++ array.back))) made second.2 in
    made-clear s made _ third.2

pub unencoded-made : (s : SourceParts) (v : ℤ) (made : SourceParts) → unencoded s v ≡ Ok made → s.items ≡ made.items
unfolding unencoded
unencoded-made s v made e =
    let first = bind_ok (number_up_to 255 v) (λ code. array_parts s.clear >>= λ array. keeps E10 (list_any (is_slot_of code) array.lines) >>= λ some. Ok (with_clear s (array.front ++ filter (λ l. not (is_slot_of code l)) array.lines ++ array.back))) made e in
    let second = bind_ok (array_parts s.clear) (λ array. keeps E10 (list_any (is_slot_of first.0) array.lines) >>= λ some. Ok (with_clear s (array.front ++ filter (λ l. not (is_slot_of first.0 l)) array.lines ++ array.back))) made first.2 in
    let third = bind_ok (keeps E10 (list_any (is_slot_of first.0) second.0.lines)) (λ some. Ok (with_clear s (second.0.front ++ filter (λ l. not (is_slot_of first.0 l)) second.0.lines ++ second.0.back))) made second.2 in
    made-clear s made _ third.2

-- the line of lenIV has another in its place, or a new one is put in
pub data IsLeadMade (s made : SourceParts) : Type 0 where
  LeadPut : (n : ℕ) → IsPut says_lead (λ at. entries.Plain (line_with_lead n (line_at at s.items))) s made → IsLeadMade s made
  LeadIn : (n : ℕ) → made.items ≡ raised (insert s.items (position_or_len is_section_line s.items) (entries.Plain (lead_line n))) → IsLeadMade s made

pub lead-made : (s : SourceParts) (v : ℤ) (made : SourceParts) → lead_edited s v ≡ Ok made → IsLeadMade s made
unfolding lead_edited items_with_lead
lead-made s v made e =
    let number = bind_ok (number_up_to 64 v) (λ n. Ok (with_items s (items_with_lead n s.items))) made e in
    by number.0 (position says_lead s.items) refl (made-items s made _ number.2)
  where
    by : (n : ℕ) (o : Option ℕ) → position says_lead s.items ≡ o → made.items ≡ raised (lead_put n s.items o) → IsLeadMade s made
    by n None there is = LeadIn n is
    by n (Some at) there is = LeadPut n (record { at = at; there = there; are = is })
