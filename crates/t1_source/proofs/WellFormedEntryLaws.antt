-- Edits of entries keep a source as it is to be.
use Rattle.std.proofs.Common.{◌≡◌, ℕ, Bool, true, false, not, ◌||◌, ◌==◌, ◌≤◌, nat_le, ℤ, pos, negsuc, Option, None, Some, Result, Ok, Err, ok_or, List, [], ◌∷◌, ◌++◌, length, codes, refl, sym, ◌∙◌, ap, inl, inr, append_assoc}
use Rattle.std.specs.List.{list_any, last_or, position, insert, remove, slice_set, slice_index_or}
use Rattle.std.specs.Str.{bytes_eq}
use Rattle.std.proofs.lemmas.Bool.{cases_Bool, or_parts, eqb-true, leb-true, not-true, both_ways, or_left, or_right}
use Rattle.std.proofs.lemmas.List.Folds.{list_any-append}
use Rattle.std.proofs.lemmas.Slice.Eq.{bytes_eq-Decides}
use Rattle.t1_frac.specs.Outcome.{◌>>=◌}
use Rattle.t1_source.specs.declared.edit.Rule.{Rule}
use Rattle.t1_source.specs.declared.edit.Rule.TheVariants.{E1, E2, E3, E4, E6, E9}
use Rattle.t1_parts.specs.declared.item.Item.{Item}
use Rattle.t1_parts.specs.declared.item.Item.TheVariants.{Plain, Section, Subr, Glyph}
use Rattle.t1_parts.specs.SourceParts.{SourceParts}
use Rattle.t1_text.specs.Tokens.{tokens, is_token}
use Rattle.t1_text.specs.Names.{is_name}
use Rattle.t1_parts.specs.Sections.{is_subrs_line, is_glyphs_line}
use Rattle.t1_parts.specs.Entries.{is_subr, is_glyph}
use Rattle.t1_parts.specs.Counts.{is_glyph_entry, raised}
use Rattle.t1_source.specs.Editing.{keeps, number_up_to, braced, body_words, good_name, good_body, with_items, closing_of, closing_at, closing_among, through_last, is_subr_entry, among_subrs_items, among_glyphs_items, has_section, replaced_glyph, added_glyph, removed_glyph, replaced_subr, added_subr, removed_subr}
use Rattle.t1_source.specs.WellFormed.{Stands, IsPrivate, IsWellFormed}
use Rattle.t1_frac.proofs.OutcomeLaws.{bind_ok}
use Rattle.t1_source.proofs.RuleLaws.{kept_ok}
use Rattle.t1_source.proofs.WellFormedItemsLaws.{given_some}
use Rattle.t1_source.proofs.ItemPlaceLaws.{position_first, set_there, removed_there, got_there, insert_there, last_of, through_place}
use Rattle.t1_source.proofs.WellFormedEditLaws.{new_closing, new_entry, is_not_plain, silent_subr, silent_glyph, exchanged, taken_out, put_in}

-- the source with other items
pub items_well_formed : (s : SourceParts) (items others : List Item) (made : SourceParts) → IsWellFormed s → items ≡ others → IsPrivate (raised others) → ◌≡◌ {A = Result SourceParts Rule} (Ok (with_items s items)) (Ok made) → IsWellFormed made
items_well_formed s items others made kept same p e =
    let is : with_items s items ≡ made = cc in
    let there : with_items s others ≡ made = ap (with_items s) (sym same) ∙ is in
    rw (← there) (record { clear = kept.clear; items = p; lines = kept.lines; tail = kept.tail })

glyph_form : (g : List ℕ) (i : Item) → is_glyph g i ≡ true → (ws : List (List ℕ)) × (closing : List ℕ) × (i ≡ Glyph g ws closing)
glyph_form g (Plain l) h = cc
glyph_form g (Section before n after) h = cc
glyph_form g (Subr n ws closing) h = cc
glyph_form g (Glyph name ws closing) h = (ws, closing, ap (λ t. Glyph t ws closing) (sym ((bytes_eq-Decides g name).0 h)))

subr_form : (n : ℕ) (i : Item) → is_subr n i ≡ true → (ws : List (List ℕ)) × (closing : List ℕ) × (i ≡ Subr n ws closing)
subr_form n (Plain l) h = cc
subr_form n (Section before m after) h = cc
subr_form n (Subr m ws closing) h = (ws, closing, ap (λ t. Subr t ws closing) (sym (eqb-true n m h)))
subr_form n (Glyph g ws closing) h = cc

-- the braces of a body, and a name
body_open : (body : List ℕ) → good_body body ≡ Ok tt → braced body ≡ false
body_open body e = not-true (braced body) (kept_ok E6 (not (braced body)) e)

name_good : (g : List ℕ) → good_name g ≡ Ok tt → is_name g ≡ true
name_good g e = kept_ok E3 (is_name g) e

number_small : (v : ℤ) (n : ℕ) → number_up_to 32000 v ≡ Ok n → n ≤ 32000
number_small (pos m) n e =
    elim (cases_Bool (nat_le m 32000)) [
      | inl small ↦
          let here : ◌≡◌ {A = Result ℕ Rule} (Ok m) (Ok n) = rw small at e in
          let same : m ≡ n = cc in
          rw (← same) (leb-true m 32000 small)
      | inr large ↦ let none : ◌≡◌ {A = Result ℕ Rule} (Err E4) (Ok n) = rw large at e in cc
    ]
number_small (negsuc m) n e = cc

-- a glyph replaced
pub replaced_glyph_well_formed : (s : SourceParts) (g body : List ℕ) (made : SourceParts) → IsWellFormed s → replaced_glyph s g body ≡ Ok made → IsWellFormed made
unfolding replaced_glyph
replaced_glyph_well_formed s g body made kept e =
    let y : ℕ → Item = λ at. Glyph g (body_words body) (closing_at at s.items) in
    let named = bind_ok (good_name g) (λ named. good_body body >>= λ closed. ok_or (position (is_glyph g) s.items) E1 >>= λ at. Ok (with_items s (slice_set s.items at (y at)))) made e in
    let closed = bind_ok (good_body body) (λ closed. ok_or (position (is_glyph g) s.items) E1 >>= λ at. Ok (with_items s (slice_set s.items at (y at)))) made named.2 in
    let placed = bind_ok (ok_or (position (is_glyph g) s.items) E1) (λ at. Ok (with_items s (slice_set s.items at (y at)))) made closed.2 in
    let at = placed.0 in
    let f = position_first (is_glyph g) s.items at (given_some (position (is_glyph g) s.items) E1 at placed.1) in
    let form = glyph_form g f.found.here f.found.passes in
    let a = f.found.before in
    let b = f.found.after in
    let whole : s.items ≡ a ++ Glyph g form.0 form.1 ∷ b = f.found.whole ∙ ap (λ x. a ++ x ∷ b) form.2 in
    let closing : closing_at at s.items ≡ form.1 =
    ap (λ items. closing_of (slice_index_or items at (Plain []))) whole ∙ ap closing_of (got_there a (Glyph g form.0 form.1) b at (Plain []) f.place) in
    let new = Glyph g (body_words body) form.1 in
    let same : slice_set s.items at (y at) ≡ a ++ new ∷ b =
    ap (λ c. slice_set s.items at (Glyph g (body_words body) c)) closing ∙ ap (λ items. slice_set items at new) whole ∙ set_there a (Glyph g form.0 form.1) b at new f.place in
    items_well_formed s (slice_set s.items at (y at)) (a ++ new ∷ b) made kept same
    (exchanged s.items a (Glyph g form.0 form.1) b new kept.items whole (silent_glyph g form.0 form.1) (silent_glyph g (body_words body) form.1) (λ n. refl) (λ name. refl)
    (λ h. (h.0, h.1, h.2, new_entry body form.1 (body_open body closed.1) (h.3.2, h.3.3)))) placed.2

-- a Subr replaced
pub replaced_subr_well_formed : (s : SourceParts) (number : ℤ) (body : List ℕ) (made : SourceParts) → IsWellFormed s → replaced_subr s number body ≡ Ok made → IsWellFormed made
unfolding replaced_subr
replaced_subr_well_formed s number body made kept e =
    let y : ℕ → ℕ → Item = λ n at. Subr n (body_words body) (closing_at at s.items) in
    let made_of : ℕ → Result SourceParts Rule = λ n. ok_or (position (is_subr n) s.items) E1 >>= λ at. Ok (with_items s (slice_set s.items at (y n at))) in
    let numbered = bind_ok (number_up_to 32000 number) (λ n. good_body body >>= λ closed. has_section s >>= λ section. made_of n) made e in
    let n = numbered.0 in
    let closed = bind_ok (good_body body) (λ closed. has_section s >>= λ section. made_of n) made numbered.2 in
    let sectioned = bind_ok (has_section s) (λ section. made_of n) made closed.2 in
    let placed = bind_ok (ok_or (position (is_subr n) s.items) E1) (λ at. Ok (with_items s (slice_set s.items at (y n at)))) made sectioned.2 in
    let at = placed.0 in
    let f = position_first (is_subr n) s.items at (given_some (position (is_subr n) s.items) E1 at placed.1) in
    let form = subr_form n f.found.here f.found.passes in
    let a = f.found.before in
    let b = f.found.after in
    let whole : s.items ≡ a ++ Subr n form.0 form.1 ∷ b = f.found.whole ∙ ap (λ x. a ++ x ∷ b) form.2 in
    let closing : closing_at at s.items ≡ form.1 =
    ap (λ items. closing_of (slice_index_or items at (Plain []))) whole ∙ ap closing_of (got_there a (Subr n form.0 form.1) b at (Plain []) f.place) in
    let new = Subr n (body_words body) form.1 in
    let same : slice_set s.items at (y n at) ≡ a ++ new ∷ b =
    ap (λ c. slice_set s.items at (Subr n (body_words body) c)) closing ∙ ap (λ items. slice_set items at new) whole ∙ set_there a (Subr n form.0 form.1) b at new f.place in
    items_well_formed s (slice_set s.items at (y n at)) (a ++ new ∷ b) made kept same
    (exchanged s.items a (Subr n form.0 form.1) b new kept.items whole (silent_subr n form.0 form.1) (silent_subr n (body_words body) form.1) (λ m. refl) (λ name. refl)
    (λ h. (h.0, h.1, h.2, h.3, new_entry body form.1 (body_open body closed.1) (h.4.2, h.4.3)))) placed.2

-- a glyph taken out
pub removed_glyph_well_formed : (s : SourceParts) (g : List ℕ) (made : SourceParts) → IsWellFormed s → removed_glyph s g ≡ Ok made → IsWellFormed made
unfolding removed_glyph
removed_glyph_well_formed s g made kept e =
    let named = bind_ok (good_name g) (λ named. ok_or (position (is_glyph g) s.items) E1 >>= λ at. Ok (with_items s (remove s.items at))) made e in
    let placed = bind_ok (ok_or (position (is_glyph g) s.items) E1) (λ at. Ok (with_items s (remove s.items at))) made named.2 in
    let at = placed.0 in
    let f = position_first (is_glyph g) s.items at (given_some (position (is_glyph g) s.items) E1 at placed.1) in
    let form = glyph_form g f.found.here f.found.passes in
    let a = f.found.before in
    let b = f.found.after in
    let whole : s.items ≡ a ++ Glyph g form.0 form.1 ∷ b = f.found.whole ∙ ap (λ x. a ++ x ∷ b) form.2 in
    items_well_formed s (remove s.items at) (a ++ b) made kept (ap (λ items. remove items at) whole ∙ removed_there a (Glyph g form.0 form.1) b at f.place)
    (taken_out s.items a (Glyph g form.0 form.1) b kept.items whole (silent_glyph g form.0 form.1)) placed.2

-- a Subr taken out
pub removed_subr_well_formed : (s : SourceParts) (number : ℤ) (made : SourceParts) → IsWellFormed s → removed_subr s number ≡ Ok made → IsWellFormed made
unfolding removed_subr
removed_subr_well_formed s number made kept e =
    let made_of : ℕ → Result SourceParts Rule = λ n. ok_or (position (is_subr n) s.items) E1 >>= λ at. Ok (with_items s (remove s.items at)) in
    let numbered = bind_ok (number_up_to 32000 number) (λ n. has_section s >>= λ section. made_of n) made e in
    let n = numbered.0 in
    let sectioned = bind_ok (has_section s) (λ section. made_of n) made numbered.2 in
    let placed = bind_ok (ok_or (position (is_subr n) s.items) E1) (λ at. Ok (with_items s (remove s.items at))) made sectioned.2 in
    let at = placed.0 in
    let f = position_first (is_subr n) s.items at (given_some (position (is_subr n) s.items) E1 at placed.1) in
    let form = subr_form n f.found.here f.found.passes in
    let a = f.found.before in
    let b = f.found.after in
    let whole : s.items ≡ a ++ Subr n form.0 form.1 ∷ b = f.found.whole ∙ ap (λ x. a ++ x ∷ b) form.2 in
    items_well_formed s (remove s.items at) (a ++ b) made kept (ap (λ items. remove items at) whole ∙ removed_there a (Subr n form.0 form.1) b at f.place)
    (taken_out s.items a (Subr n form.0 form.1) b kept.items whole (silent_subr n form.0 form.1)) placed.2

-- a test that follows from another
any_weaker : (t u : Item → Bool) → ((i : Item) → t i ≡ true → u i ≡ true) → (items : List Item) → list_any t items ≡ true → list_any u items ≡ true
any_weaker t u f [] h = h
any_weaker t u f (i ∷ items) h =
    elim (cases_Bool (t i)) [
      | inl on ↦ or_left (u i) (list_any u items) (f i on)
      | inr off ↦ or_right (u i) (list_any u items) (any_weaker t u f items (rw off at h))
    ]

any_front : (test : Item → Bool) (items front b : List Item) → items ≡ front ++ b → list_any test items ≡ false → list_any test front ≡ false
any_front test items front b whole none = (or_parts (list_any test front) (list_any test b) (sym (list_any-append test front b) ∙ ap (list_any test) (sym whole) ∙ none)).0

pub any_last : (test : Item → Bool) (a : List Item) (x : Item) → test x ≡ true → list_any test (a ++ x ∷ []) ≡ true
any_last test [] x on = or_left (test x) false on
any_last test (c ∷ a) x on = or_right (test c) (list_any test (a ++ x ∷ [])) (any_last test a x on)

pub any_first : (test : Item → Bool) (a : List Item) (x : Item) → list_any test a ≡ true → list_any test (a ++ x ∷ []) ≡ true
any_first test a x on = list_any-append test a (x ∷ []) ∙ or_left (list_any test a) (test x || false) on

any_neither : (test : Item → Bool) (a : List Item) (x : Item) → list_any test a ≡ false → test x ≡ false → list_any test (a ++ x ∷ []) ≡ false
any_neither test a x off none = list_any-append test a (x ∷ []) ∙ (rw (off, none) refl)

-- where a new glyph goes
glyph_line_among : (i : Item) → is_glyphs_line i ≡ true → among_glyphs_items i ≡ true
unfolding among_glyphs_items
glyph_line_among (Plain l) h = h
glyph_line_among (Section before n after) h = h
glyph_line_among (Subr n ws closing) h = h
glyph_line_among (Glyph g ws closing) h = refl

glyph_place : (x : Item) → among_glyphs_items x ≡ true → (is_not_plain x ≡ true) × ((a : List Item) → Stands a x → list_any is_glyphs_line (a ++ x ∷ []) ≡ true)
unfolding among_glyphs_items
glyph_place (Plain l) h = cc
glyph_place (Section before n after) h = (refl, λ a stands. any_last is_glyphs_line a (Section before n after) h)
glyph_place (Subr n ws closing) h = cc
glyph_place (Glyph g ws closing) h = (refl, λ a stands. any_first is_glyphs_line a (Glyph g ws closing) stands.0)

other_name : (g name : List ℕ) (items : List Item) → list_any (is_glyph g) items ≡ false → list_any (is_glyph name) items ≡ true → bytes_eq name g ≡ false
other_name g name items none on =
    elim (cases_Bool (bytes_eq name g)) [
      | inl same ↦ absurd (both_ways (list_any (is_glyph name) items) (ap (λ t. list_any (is_glyph t) items) ((bytes_eq-Decides name g).0 same) ∙ none) on)
      | inr off ↦ off
    ]

-- a new glyph
pub added_glyph_well_formed : (s : SourceParts) (g body : List ℕ) (made : SourceParts) → IsWellFormed s → added_glyph s g body ≡ Ok made → IsWellFormed made
unfolding added_glyph
added_glyph_well_formed s g body made kept e =
    let closing = closing_among is_glyph_entry (codes "noaccess def") s.items in
    let new = Glyph g (body_words body) closing in
    let at = through_last among_glyphs_items s.items in
    let made_of : Result SourceParts Rule = Ok (with_items s (insert s.items at new)) in
    let named = bind_ok (good_name g) (λ named. good_body body >>= λ closed. keeps E2 (not (list_any (is_glyph g) s.items)) >>= λ fresh. made_of) made e in
    let closed = bind_ok (good_body body) (λ closed. keeps E2 (not (list_any (is_glyph g) s.items)) >>= λ fresh. made_of) made named.2 in
    let fresh = bind_ok (keeps E2 (not (list_any (is_glyph g) s.items))) (λ fresh. made_of) made closed.2 in
    let none : list_any (is_glyph g) s.items ≡ false = not-true (list_any (is_glyph g) s.items) (kept_ok E2 (not (list_any (is_glyph g) s.items)) fresh.1) in
    let r = last_of among_glyphs_items s.items (any_weaker is_glyphs_line among_glyphs_items glyph_line_among s.items kept.items.section) in
    let a = r.found.before in
    let x = r.found.here in
    let b = r.found.after in
    let place = glyph_place x r.found.passes in
    let split : s.items ≡ (a ++ x ∷ []) ++ b = r.found.whole ∙ sym (append_assoc a (x ∷ []) b) in
    let there : at ≡ length (a ++ x ∷ []) = ap (through_last among_glyphs_items) r.found.whole ∙ through_place among_glyphs_items a x b r.found.passes r.none in
    items_well_formed s (insert s.items at new) ((a ++ x ∷ []) ++ new ∷ b) made kept (ap (λ items. insert items at new) split ∙ insert_there (a ++ x ∷ []) b at new there)
    (put_in s.items a x b new kept.items r.found.whole place.0 (silent_glyph g (body_words body) closing) (λ n on. refl) (λ name on. other_name g name s.items none on)
    (λ h. (place.1 a h, any_front (is_glyph g) s.items (a ++ x ∷ []) b split none, name_good g named.1, new_entry body closing (body_open body closed.1) (new_closing is_glyph_entry (codes "noaccess def") s.items (refl, refl) kept.items)))) fresh.2

-- where a new Subr goes
subr_line_among : (i : Item) → is_subrs_line i ≡ true → among_subrs_items i ≡ true
unfolding among_subrs_items
subr_line_among (Plain l) h = h
subr_line_among (Section before n after) h = h
subr_line_among (Subr n ws closing) h = refl
subr_line_among (Glyph g ws closing) h = h

one_key : (o : Option (List ℕ)) → is_token (codes "/Subrs") o ≡ true → is_token (codes "/CharStrings") o ≡ false
one_key None h = refl
one_key (Some t) h = ap (bytes_eq (codes "/CharStrings")) (sym ((bytes_eq-Decides (codes "/Subrs") t).0 h))

subr_place : (x : Item) → among_subrs_items x ≡ true
    → (is_not_plain x ≡ true) × ((a : List Item) → Stands a x → (list_any is_glyphs_line (a ++ x ∷ []) ≡ false) × (list_any is_subrs_line (a ++ x ∷ []) ≡ true))
unfolding among_subrs_items
subr_place (Plain l) h = cc
subr_place (Section before n after) h =
    (refl, λ a stands. (any_neither is_glyphs_line a (Section before n after) stands.2.0 (one_key (last_or None (tokens before)) h), any_last is_subrs_line a (Section before n after) h))
subr_place (Subr n ws closing) h = (refl, λ a stands. (any_neither is_glyphs_line a (Subr n ws closing) stands.0 refl, any_first is_subrs_line a (Subr n ws closing) stands.1))
subr_place (Glyph g ws closing) h = cc

other_number : (n m : ℕ) (items : List Item) → list_any (is_subr n) items ≡ false → list_any (is_subr m) items ≡ true → (m == n) ≡ false
other_number n m items none on =
    elim (cases_Bool (m == n)) [
      | inl same ↦ absurd (both_ways (list_any (is_subr m) items) (ap (λ t. list_any (is_subr t) items) (eqb-true m n same) ∙ none) on)
      | inr off ↦ off
    ]

-- a new Subr
pub added_subr_well_formed : (s : SourceParts) (number : ℤ) (body : List ℕ) (made : SourceParts) → IsWellFormed s → added_subr s number body ≡ Ok made → IsWellFormed made
unfolding added_subr
added_subr_well_formed s number body made kept e =
    let closing = closing_among is_subr_entry (codes "noaccess put") s.items in
    let y : ℕ → Item = λ n. Subr n (body_words body) closing in
    let at = through_last among_subrs_items s.items in
    let made_of : ℕ → Result SourceParts Rule = λ n. Ok (with_items s (insert s.items at (y n))) in
    let numbered = bind_ok (number_up_to 32000 number) (λ n. good_body body >>= λ closed. has_section s >>= λ section. keeps E2 (not (list_any (is_subr n) s.items)) >>= λ fresh. made_of n) made e in
    let n = numbered.0 in
    let new = y n in
    let closed = bind_ok (good_body body) (λ closed. has_section s >>= λ section. keeps E2 (not (list_any (is_subr n) s.items)) >>= λ fresh. made_of n) made numbered.2 in
    let sectioned = bind_ok (has_section s) (λ section. keeps E2 (not (list_any (is_subr n) s.items)) >>= λ fresh. made_of n) made closed.2 in
    let fresh = bind_ok (keeps E2 (not (list_any (is_subr n) s.items))) (λ fresh. made_of n) made sectioned.2 in
    let none : list_any (is_subr n) s.items ≡ false = not-true (list_any (is_subr n) s.items) (kept_ok E2 (not (list_any (is_subr n) s.items)) fresh.1) in
    let section : list_any is_subrs_line s.items ≡ true = kept_ok E9 (list_any is_subrs_line s.items) sectioned.1 in
    let r = last_of among_subrs_items s.items (any_weaker is_subrs_line among_subrs_items subr_line_among s.items section) in
    let a = r.found.before in
    let x = r.found.here in
    let b = r.found.after in
    let place = subr_place x r.found.passes in
    let split : s.items ≡ (a ++ x ∷ []) ++ b = r.found.whole ∙ sym (append_assoc a (x ∷ []) b) in
    let there : at ≡ length (a ++ x ∷ []) = ap (through_last among_subrs_items) r.found.whole ∙ through_place among_subrs_items a x b r.found.passes r.none in
    items_well_formed s (insert s.items at new) ((a ++ x ∷ []) ++ new ∷ b) made kept (ap (λ items. insert items at new) split ∙ insert_there (a ++ x ∷ []) b at new there)
    (put_in s.items a x b new kept.items r.found.whole place.0 (silent_subr n (body_words body) closing) (λ m on. other_number n m s.items none on) (λ name on. refl)
    (λ h. ((place.1 a h).0, (place.1 a h).1, any_front (is_subr n) s.items (a ++ x ∷ []) b split none, number_small number n numbered.1, new_entry body closing (body_open body closed.1) (new_closing is_subr_entry (codes "noaccess put") s.items (refl, refl) kept.items)))) fresh.2
