-- Edits that leave counts of at most nine digits.
use Rattle.std.proofs.Common.{◌≡◌, ℕ, zero, suc, true, not, ◌^◌, ◌<◌, ℤ, Option, None, Some, Result, Ok, ok_or, List, [], ◌∷◌, ◌++◌, take, drop, codes, refl, sym, ◌∙◌, ap}
use Rattle.std.specs.List.{list_all, list_any, position, position_or_len, insert, remove, slice_set}
use Rattle.std.proofs.lemmas.Bool.{and_parts, and_from}
use Rattle.std.proofs.lemmas.List.Folds.{list_all-append}
use Rattle.t1_frac.specs.Outcome.{◌>>=◌}
use Rattle.t1_source.specs.declared.edit.Edit.{Edit}
use Rattle.t1_source.specs.declared.edit.Edit.TheVariants.{ReplaceGlyph, AddGlyph, RemoveGlyph, ReplaceSubr, AddSubr, RemoveSubr, Encode, Unencode, LenIv, Kern, Unkern}
use Rattle.t1_source.specs.declared.edit.Rule.{Rule}
use Rattle.t1_source.specs.declared.edit.Rule.TheVariants.{E1, E2, E10}
use Rattle.t1_parts.specs.declared.item.Item.{Item}
use Rattle.t1_parts.specs.declared.item.Item.TheVariants.{Plain, Subr, Glyph}
use Rattle.t1_pairs.specs.declared.pairs.Pair.{Pair}
use Rattle.t1_parts.specs.SourceParts.{SourceParts}
use Rattle.t1_parts.specs.Entries.{is_subr, is_glyph}
use Rattle.t1_parts.specs.Counts.{is_glyph_entry, glyphs_needed, raised}
use Rattle.t1_source.specs.Editing.{keeps, number_up_to, body_words, good_name, good_body, with_items, with_clear, closing_at, closing_among, through_last, is_subr_entry, among_subrs_items, among_glyphs_items, has_section, ArrayParts, array_parts, is_slot_of, encoded_lines, replaced_glyph, added_glyph, removed_glyph, replaced_subr, added_subr, removed_subr, encoded, unencoded, lead_edited, kerned, unkerned, edited}
use Rattle.std.specs.List.{filter}
use Rattle.t1_source.specs.Leads.{line_with_lead, lead_line, says_lead, is_section_line, line_at, lead_put, items_with_lead}
use Rattle.t1_source.specs.WellFormed.{IsWellFormed, is_counted}
use Rattle.t1_frac.proofs.OutcomeLaws.{bind_ok}
use Rattle.t1_source.proofs.WellFormedBodyLaws.{all_take, all_drop}
use Rattle.t1_source.proofs.WellFormedEditedLaws.{source_given, source_same, edited_well_formed}
use Rattle.t1_source.proofs.CountedLaws.{raised_counted}

pub set_counted : (items : List Item) (at : ℕ) (y : Item) → is_counted y ≡ true → list_all is_counted items ≡ true → list_all is_counted (slice_set items at y) ≡ true
set_counted [] at y on h = refl
set_counted (i ∷ items) zero y on h = and_from (is_counted y) (list_all is_counted items) on (and_parts (is_counted i) (list_all is_counted items) h).1
set_counted (i ∷ items) (suc at) y on h =
    let parts = and_parts (is_counted i) (list_all is_counted items) h in
    and_from (is_counted i) (list_all is_counted (slice_set items at y)) parts.0 (set_counted items at y on parts.1)

insert_counted : (items : List Item) (at : ℕ) (y : Item) → is_counted y ≡ true → list_all is_counted items ≡ true → list_all is_counted (insert items at y) ≡ true
insert_counted items at y on h =
    let back = and_from (is_counted y) (list_all is_counted (drop at items)) on (all_drop is_counted at items h) in
    list_all-append is_counted (take at items) (y ∷ drop at items) ∙ and_from (list_all is_counted (take at items)) (list_all is_counted (y ∷ drop at items)) (all_take is_counted at items h) back

remove_counted : (items : List Item) (at : ℕ) → list_all is_counted items ≡ true → list_all is_counted (remove items at) ≡ true
remove_counted items at h =
    list_all-append is_counted (take at items) (drop (suc at) items)
    ∙ and_from (list_all is_counted (take at items)) (list_all is_counted (drop (suc at) items)) (all_take is_counted at items h) (all_drop is_counted (suc at) items h)

-- items that an edit made of those of a source, before their counts were raised
record Made (s made : SourceParts) : Type 0 where
  items : List Item
  whole : with_items s items ≡ made
  counted : list_all is_counted items ≡ true

made_of : (s : SourceParts) (items : List Item) (made : SourceParts) → ◌≡◌ {A = Result SourceParts Rule} (Ok (with_items s items)) (Ok made) → list_all is_counted items ≡ true → Made s made
made_of s items made e h = let same : with_items s items ≡ made = cc in record { items = items; whole = same; counted = h }

made_counted : (s made : SourceParts) → Made s made → IsWellFormed made → glyphs_needed made.items < 10 ^ 9 → list_all is_counted made.items ≡ true
made_counted s made m kept few =
    let is : raised m.items ≡ made.items = ap (λ t. t.items) m.whole in
    ap (list_all is_counted) (sym is) ∙ raised_counted m.items (rw is kept.items) (rw is few) m.counted

replaced_glyph_made : (s : SourceParts) (g body : List ℕ) (made : SourceParts) → list_all is_counted s.items ≡ true → replaced_glyph s g body ≡ Ok made → Made s made
unfolding replaced_glyph
replaced_glyph_made s g body made h e =
    let its : ℕ → List Item = λ at. slice_set s.items at (Glyph g (body_words body) (closing_at at s.items)) in
    let named = bind_ok (good_name g) (λ named. good_body body >>= λ closed. ok_or (position (is_glyph g) s.items) E1 >>= λ at. Ok (with_items s (its at))) made e in
    let closed = bind_ok (good_body body) (λ closed. ok_or (position (is_glyph g) s.items) E1 >>= λ at. Ok (with_items s (its at))) made named.2 in
    let placed = bind_ok (ok_or (position (is_glyph g) s.items) E1) (λ at. Ok (with_items s (its at))) made closed.2 in
    made_of s (its placed.0) made placed.2 (set_counted s.items placed.0 (Glyph g (body_words body) (closing_at placed.0 s.items)) refl h)

added_glyph_made : (s : SourceParts) (g body : List ℕ) (made : SourceParts) → list_all is_counted s.items ≡ true → added_glyph s g body ≡ Ok made → Made s made
unfolding added_glyph
added_glyph_made s g body made h e =
    let new = Glyph g (body_words body) (closing_among is_glyph_entry (codes "noaccess def") s.items) in
    let at = through_last among_glyphs_items s.items in
    let given : Result SourceParts Rule = Ok (with_items s (insert s.items at new)) in
    let named = bind_ok (good_name g) (λ named. good_body body >>= λ closed. keeps E2 (not (list_any (is_glyph g) s.items)) >>= λ fresh. given) made e in
    let closed = bind_ok (good_body body) (λ closed. keeps E2 (not (list_any (is_glyph g) s.items)) >>= λ fresh. given) made named.2 in
    let fresh = bind_ok (keeps E2 (not (list_any (is_glyph g) s.items))) (λ fresh. given) made closed.2 in
    made_of s (insert s.items at new) made fresh.2 (insert_counted s.items at new refl h)

removed_glyph_made : (s : SourceParts) (g : List ℕ) (made : SourceParts) → list_all is_counted s.items ≡ true → removed_glyph s g ≡ Ok made → Made s made
unfolding removed_glyph
removed_glyph_made s g made h e =
    let named = bind_ok (good_name g) (λ named. ok_or (position (is_glyph g) s.items) E1 >>= λ at. Ok (with_items s (remove s.items at))) made e in
    let placed = bind_ok (ok_or (position (is_glyph g) s.items) E1) (λ at. Ok (with_items s (remove s.items at))) made named.2 in
    made_of s (remove s.items placed.0) made placed.2 (remove_counted s.items placed.0 h)

replaced_subr_made : (s : SourceParts) (number : ℤ) (body : List ℕ) (made : SourceParts) → list_all is_counted s.items ≡ true → replaced_subr s number body ≡ Ok made → Made s made
unfolding replaced_subr
replaced_subr_made s number body made h e =
    let its : ℕ → ℕ → List Item = λ n at. slice_set s.items at (Subr n (body_words body) (closing_at at s.items)) in
    let given : ℕ → Result SourceParts Rule = λ n. ok_or (position (is_subr n) s.items) E1 >>= λ at. Ok (with_items s (its n at)) in
    let numbered = bind_ok (number_up_to 32000 number) (λ n. good_body body >>= λ closed. has_section s >>= λ section. given n) made e in
    let n = numbered.0 in
    let closed = bind_ok (good_body body) (λ closed. has_section s >>= λ section. given n) made numbered.2 in
    let sectioned = bind_ok (has_section s) (λ section. given n) made closed.2 in
    let placed = bind_ok (ok_or (position (is_subr n) s.items) E1) (λ at. Ok (with_items s (its n at))) made sectioned.2 in
    made_of s (its n placed.0) made placed.2 (set_counted s.items placed.0 (Subr n (body_words body) (closing_at placed.0 s.items)) refl h)

added_subr_made : (s : SourceParts) (number : ℤ) (body : List ℕ) (made : SourceParts) → list_all is_counted s.items ≡ true → added_subr s number body ≡ Ok made → Made s made
unfolding added_subr
added_subr_made s number body made h e =
    let new : ℕ → Item = λ n. Subr n (body_words body) (closing_among is_subr_entry (codes "noaccess put") s.items) in
    let at = through_last among_subrs_items s.items in
    let given : ℕ → Result SourceParts Rule = λ n. Ok (with_items s (insert s.items at (new n))) in
    let numbered = bind_ok (number_up_to 32000 number) (λ n. good_body body >>= λ closed. has_section s >>= λ section. keeps E2 (not (list_any (is_subr n) s.items)) >>= λ fresh. given n) made e in
    let n = numbered.0 in
    let closed = bind_ok (good_body body) (λ closed. has_section s >>= λ section. keeps E2 (not (list_any (is_subr n) s.items)) >>= λ fresh. given n) made numbered.2 in
    let sectioned = bind_ok (has_section s) (λ section. keeps E2 (not (list_any (is_subr n) s.items)) >>= λ fresh. given n) made closed.2 in
    let fresh = bind_ok (keeps E2 (not (list_any (is_subr n) s.items))) (λ fresh. given n) made sectioned.2 in
    made_of s (insert s.items at (new n)) made fresh.2 (insert_counted s.items at (new n) refl h)

removed_subr_made : (s : SourceParts) (number : ℤ) (made : SourceParts) → list_all is_counted s.items ≡ true → removed_subr s number ≡ Ok made → Made s made
unfolding removed_subr
removed_subr_made s number made h e =
    let given : ℕ → Result SourceParts Rule = λ n. ok_or (position (is_subr n) s.items) E1 >>= λ at. Ok (with_items s (remove s.items at)) in
    let numbered = bind_ok (number_up_to 32000 number) (λ n. has_section s >>= λ section. given n) made e in
    let n = numbered.0 in
    let sectioned = bind_ok (has_section s) (λ section. given n) made numbered.2 in
    let placed = bind_ok (ok_or (position (is_subr n) s.items) E1) (λ at. Ok (with_items s (remove s.items at))) made sectioned.2 in
    made_of s (remove s.items placed.0) made placed.2 (remove_counted s.items placed.0 h)

lead_counted : (n : ℕ) (items : List Item) (o : Option ℕ) → list_all is_counted items ≡ true → list_all is_counted (lead_put n items o) ≡ true
lead_counted n items None h = insert_counted items (position_or_len is_section_line items) (Plain (lead_line n)) refl h
lead_counted n items (Some at) h = set_counted items at (Plain (line_with_lead n (line_at at items))) refl h

lead_made : (s : SourceParts) (number : ℤ) (made : SourceParts) → list_all is_counted s.items ≡ true → lead_edited s number ≡ Ok made → Made s made
unfolding lead_edited items_with_lead
lead_made s number made h e =
    let step = bind_ok (number_up_to 64 number) (λ n. Ok (with_items s (items_with_lead n s.items))) made e in
    made_of s (items_with_lead step.0 s.items) made step.2 (lead_counted step.0 s.items (position says_lead s.items) h)

clear_counted : (s made : SourceParts) (clear : List (List ℕ)) → ◌≡◌ {A = Result SourceParts Rule} (Ok (with_clear s clear)) (Ok made) → list_all is_counted s.items ≡ true → list_all is_counted made.items ≡ true
clear_counted s made clear e h =
    let same : with_clear s clear ≡ made = cc in
    ap (λ t. list_all is_counted t.items) (sym same) ∙ h

encoded_counted : (s : SourceParts) (number : ℤ) (g : List ℕ) (made : SourceParts) → list_all is_counted s.items ≡ true → encoded s number g ≡ Ok made → list_all is_counted made.items ≡ true
unfolding encoded
encoded_counted s number g made h e =
    let given : ℕ → ArrayParts → Result SourceParts Rule = λ code array. Ok (with_clear s (array.front ++ encoded_lines code g array.lines ++ array.back)) in
    let named = bind_ok (good_name g) (λ named. number_up_to 255 number >>= λ code. array_parts s.clear >>= λ array. given code array) made e in
    let numbered = bind_ok (number_up_to 255 number) (λ code. array_parts s.clear >>= λ array. given code array) made named.2 in
    let array = bind_ok (array_parts s.clear) (λ array. given numbered.0 array) made numbered.2 in
    clear_counted s made ((array.0.front ++ encoded_lines numbered.0 g array.0.lines) ++ array.0.back) array.2 h

unencoded_counted : (s : SourceParts) (number : ℤ) (made : SourceParts) → list_all is_counted s.items ≡ true → unencoded s number ≡ Ok made → list_all is_counted made.items ≡ true
unfolding unencoded
unencoded_counted s number made h e =
    let left : ℕ → List (List ℕ) → List (List ℕ) = λ code ls. filter (λ l. not (is_slot_of code l)) ls in
    let given : ℕ → ArrayParts → Result SourceParts Rule = λ code array. Ok (with_clear s (array.front ++ left code array.lines ++ array.back)) in
    let numbered = bind_ok (number_up_to 255 number) (λ code. array_parts s.clear >>= λ array. keeps E10 (list_any (is_slot_of code) array.lines) >>= λ some. given code array) made e in
    let code = numbered.0 in
    let array = bind_ok (array_parts s.clear) (λ array. keeps E10 (list_any (is_slot_of code) array.lines) >>= λ some. given code array) made numbered.2 in
    let some = bind_ok (keeps E10 (list_any (is_slot_of code) array.0.lines)) (λ some. given code array.0) made array.2 in
    clear_counted s made ((array.0.front ++ left code array.0.lines) ++ array.0.back) some.2 h

-- an edit of a source that is kept, where there are few glyphs after it
pub edited_counted : (s : SourceParts) (k : List Pair) (edit : Edit) (made : SourceParts) (ps : List Pair) → IsWellFormed s → list_all is_counted s.items ≡ true → edited s k edit ≡ Ok (made, ps) → glyphs_needed made.items < 10 ^ 9
    → list_all is_counted made.items ≡ true
unfolding edited
edited_counted s k (ReplaceGlyph g body) made ps kept h e few =
    made_counted s made (replaced_glyph_made s g body made h (source_given k ps (replaced_glyph s g body) made e)) (edited_well_formed s k (ReplaceGlyph g body) made ps kept e) few
edited_counted s k (AddGlyph g body) made ps kept h e few =
    made_counted s made (added_glyph_made s g body made h (source_given k ps (added_glyph s g body) made e)) (edited_well_formed s k (AddGlyph g body) made ps kept e) few
edited_counted s k (RemoveGlyph g) made ps kept h e few =
    made_counted s made (removed_glyph_made s g made h (source_given k ps (removed_glyph s g) made e)) (edited_well_formed s k (RemoveGlyph g) made ps kept e) few
edited_counted s k (ReplaceSubr n body) made ps kept h e few =
    made_counted s made (replaced_subr_made s n body made h (source_given k ps (replaced_subr s n body) made e)) (edited_well_formed s k (ReplaceSubr n body) made ps kept e) few
edited_counted s k (AddSubr n body) made ps kept h e few =
    made_counted s made (added_subr_made s n body made h (source_given k ps (added_subr s n body) made e)) (edited_well_formed s k (AddSubr n body) made ps kept e) few
edited_counted s k (RemoveSubr n) made ps kept h e few =
    made_counted s made (removed_subr_made s n made h (source_given k ps (removed_subr s n) made e)) (edited_well_formed s k (RemoveSubr n) made ps kept e) few
edited_counted s k (Encode code g) made ps kept h e few = encoded_counted s code g made h (source_given k ps (encoded s code g) made e)
edited_counted s k (Unencode code) made ps kept h e few = unencoded_counted s code made h (source_given k ps (unencoded s code) made e)
edited_counted s k (LenIv n) made ps kept h e few =
    made_counted s made (lead_made s n made h (source_given k ps (lead_edited s n) made e)) (edited_well_formed s k (LenIv n) made ps kept e) few
edited_counted s k (Kern left right v) made ps kept h e few = ap (λ t. list_all is_counted t.items) (sym (source_same s ps (kerned k left right v) made e)) ∙ h
edited_counted s k (Unkern left right) made ps kept h e few = ap (λ t. list_all is_counted t.items) (sym (source_same s ps (unkerned k left right) made e)) ∙ h
