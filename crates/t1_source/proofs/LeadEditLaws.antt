-- An edit of lenIV keeps a source as it is to be.
use Rattle.std.proofs.Common.{◌≡◌, ℕ, ℤ, pos, negsuc, Bool, true, false, ◌≤◌, nat_le, Option, None, Some, is_some, Result, Ok, Err, List, [], ◌∷◌, ◌++◌, length, take, filter_map, codes, refl, sym, ◌∙◌, ap, inl, inr, arith, append_assoc}
use Rattle.std.specs.Fmt.{decimal}
use Rattle.std.specs.List.{list_all, list_any, position, position_or_len, insert, slice_set, slice_index_or, cons_option}
use Rattle.std.proofs.lemmas.Bool.{and_parts, and_from, cases_Bool, leb-true, le-leb, or_parts, or_left, or_right}
use Rattle.std.proofs.lemmas.List.{append-nil}
use Rattle.std.proofs.lemmas.List.Folds.{list_any-append}
use Rattle.t1_parts.specs.declared.item.Item.{Item}
use Rattle.t1_parts.specs.declared.item.Item.TheVariants.{Plain, Section, Subr, Glyph}
use Rattle.t1_parts.specs.SourceParts.{SourceParts}
use Rattle.t1_text.specs.Lines.{is_line}
use Rattle.t1_text.specs.Tokens.{tokens, after_token}
use Rattle.std.specs.Char.{is_ascii_digit}
use Rattle.t1_parts.specs.Counts.{raised}
use Rattle.t1_parts.specs.LenIV.{said_lead, lead_of_token, first_lead, lead_among}
use Rattle.t1_parts.specs.Parts.{is_closefile}
use Rattle.t1_parts.specs.Sections.{subrs_line, glyphs_line, is_subrs_line, is_glyphs_line}
use Rattle.t1_text.proofs.NumberLaws.{decimal_spells, spelled}
use Rattle.t1_source.specs.declared.edit.Rule.{Rule}
use Rattle.t1_source.specs.declared.edit.Rule.TheVariants.{E4}
use Rattle.t1_source.specs.Changes.{IsInPlaceOf}
use Rattle.t1_source.specs.Editing.{number_up_to, with_items, lead_edited}
use Rattle.t1_source.specs.Leads.{line_with_lead, lead_line, says_lead, is_section_line, line_of, line_at, lead_put, items_with_lead}
use Rattle.t1_source.specs.WellFormed.{is_inner, opens_entry, Stands, Stand, says_lead_well, IsPrivate, IsWellFormed}
use Rattle.t1_frac.proofs.OutcomeLaws.{bind_ok}
use Rattle.t1_source.proofs.StandLaws.{Serves, serves_itself, serves_further, stand_serves, stand_front, stand_back, stand_both, none_both}
use Rattle.t1_source.proofs.WellFormedEditLaws.{is_not_plain}
use Rattle.t1_source.proofs.WellFormedEntryLaws.{items_well_formed}
use Rattle.t1_source.proofs.WellFormedSourceLaws.{private_well_formed}
use Rattle.t1_source.proofs.ItemPlaceLaws.{passing_first, position_first, position_none, last_or_before, before_last, set_there, got_there, insert_there, any_middle}
use Rattle.t1_source.proofs.LeadLineLaws.{key, is_digits, LeadAgain, lead_again}

-- ---- what is said of lenIV

-- the number of a token
lead_digits : (t : Option (List ℕ)) → is_some (lead_of_token t) ≡ true → (ds : List ℕ) × (t ≡ Some ds) × (is_digits ds ≡ true)
lead_digits None h = cc
lead_digits (Some []) h = cc
lead_digits (Some (d ∷ ds)) h =
    elim (cases_Bool (list_all is_ascii_digit (d ∷ ds))) [
      | inl on ↦ (d ∷ ds, refl, and_from (nat_le 1 (length (d ∷ ds))) (list_all is_ascii_digit (d ∷ ds)) (le-leb 1 (length (d ∷ ds)) (omega arith)) on)
      | inr off ↦ let none : false ≡ true = rw off at h in cc
    ]

-- a number from 0 to 64 is one that may be said
lead_fine : (n : ℕ) → n ≤ 64 → is_some (lead_of_token (Some (decimal n))) ≡ true
lead_fine n h =
    let value = spelled (decimal n) n (decimal_spells n (omega (arith, h))) in
    let small = le-leb n 64 h in
    rw (value, small) refl

abbrev first_well : List (Option (List ℕ)) → Bool
first_well said = list_all (λ t. is_some (lead_of_token t)) (take 1 said)

cons_well : (o : Option (Option (List ℕ))) (rest : List (Option (List ℕ))) (t : Option (List ℕ)) → o ≡ Some t → is_some (lead_of_token t) ≡ true → first_well (cons_option o rest) ≡ true
cons_well o rest t e h = ap (λ x. first_well (cons_option x rest)) e ∙ and_from (is_some (lead_of_token t)) true h refl

silent : (o : Option (Option (List ℕ))) → is_some o ≡ false → o ≡ None
silent None h = refl
silent (Some t) h = cc

-- items that say nothing stand before the first that does
said_after : (a others : List Item) → list_any says_lead a ≡ false → filter_map said_lead (a ++ others) ≡ filter_map said_lead others
said_after [] others h = refl
said_after (i ∷ a) others h =
    let parts = or_parts (says_lead i) (list_any says_lead a) h in
    ap (λ o. cons_option o (filter_map said_lead (a ++ others))) (silent (said_lead i) parts.0) ∙ said_after a others parts.1

well_after : (a others : List Item) → list_any says_lead a ≡ false → says_lead_well (a ++ others) ≡ says_lead_well others
well_after a others h = ap first_well (said_after a others h)

-- the number that is said
lead_said : (a : List Item) (m : List ℕ) (b : List Item) (n : ℕ) → list_any says_lead a ≡ false → n ≤ 64 → after_token key (tokens m) ≡ Some (Some (decimal n)) → lead_among (a ++ Plain m ∷ b) ≡ n
lead_said a m b n none small said =
    let value = spelled (decimal n) n (decimal_spells n (omega (arith, small))) in
    let within = le-leb n 64 small in
    ap first_lead (said_after a (Plain m ∷ b) none ∙ ap (λ o. cons_option o (filter_map said_lead b)) said) ∙ (rw (value, within) refl)

-- what the first one says
said_of : (o : Option (Option (List ℕ))) (rest : List (Option (List ℕ))) → is_some o ≡ true → first_well (cons_option o rest) ≡ true → (t : Option (List ℕ)) × (o ≡ Some t) × (is_some (lead_of_token t) ≡ true)
said_of None rest on h = cc
said_of (Some t) rest on h = (t, refl, (and_parts (is_some (lead_of_token t)) true h).0)

-- ---- a line that says it

plain_form : (i : Item) → says_lead i ≡ true → (l : List ℕ) × (i ≡ Plain l)
plain_form (Plain l) h = (l, refl)
plain_form (Section before n after) h = cc
plain_form (Subr n ws closing) h = cc
plain_form (Glyph g ws closing) h = cc

same_serves : (e items : List Item) (l m : List ℕ) → Serves (e ++ Plain l ∷ []) (e ++ Plain m ∷ []) items
same_serves e items l m = serves_further e e items (Plain l) (Plain m) refl refl (λ n. refl) (λ g. refl) (serves_itself e (Plain l ∷ items))

plain_stands : (a : List Item) (l m : List ℕ) (n : ℕ) → LeadAgain l m n → Stands a (Plain l) → Stands a (Plain m)
plain_stands a l m n again h = (again.inner h.0, sym (again.opens a) ∙ h.1, again.subrs h.2, again.glyphs h.3)

-- the first plain line that says it, replaced
module _ (items a : List Item) (l : List ℕ) (b : List Item) (m : List ℕ) (n : ℕ) (p : IsPrivate items) (whole : items ≡ a ++ Plain l ∷ b) (none : list_any says_lead a ≡ false) (small : n ≤ 64) (again : LeadAgain l m n) where
  put_section : list_any is_glyphs_line (a ++ Plain m ∷ b) ≡ true
  put_section = any_middle is_glyphs_line a (Plain m) b refl ∙ sym (any_middle is_glyphs_line a (Plain l) b refl) ∙ ap (list_any is_glyphs_line) (sym whole) ∙ p.section

  put_well : says_lead_well (a ++ Plain m ∷ b) ≡ true
  put_well = well_after a (Plain m ∷ b) none ∙ cons_well (said_lead (Plain m)) (filter_map said_lead b) (Some (decimal n)) again.said (lead_fine n small)

  -- the closefile line
  put_last : b ≡ [] → Plain p.closefile ≡ Plain l → p.inner ≡ a → IsPrivate (raised (a ++ Plain m ∷ b))
  put_last none_after same before =
      let text : p.closefile ≡ l = ap line_of same in
      let line : is_line m ≡ true = again.line (ap is_line (sym text) ∙ p.line) in
      let closes : is_closefile m ≡ true = again.last (ap is_closefile (sym text) ∙ p.last) in
      private_well_formed (a ++ Plain m ∷ b) a m (ap (λ t. a ++ Plain m ∷ t) none_after) (rw before at p.stand) line closes put_section put_well

  -- another line
  put_inner : (c : List Item) → b ≡ c ++ Plain p.closefile ∷ [] → p.inner ≡ a ++ Plain l ∷ c → IsPrivate (raised (a ++ Plain m ∷ b))
  put_inner c following before =
      let old : Stand [] (a ++ Plain l ∷ c) = rw before at p.stand in
      let back = stand_back [] a (Plain l ∷ c) old in
      private_well_formed (a ++ Plain m ∷ b) (a ++ Plain m ∷ c) p.closefile
      (ap (λ t. a ++ Plain m ∷ t) following ∙ sym (append_assoc a (Plain m ∷ c) (Plain p.closefile ∷ [])))
      (stand_both [] a (Plain m ∷ c) (stand_front [] a (Plain l ∷ c) old) (plain_stands a l m n again back.0, stand_serves (a ++ Plain l ∷ []) (a ++ Plain m ∷ []) c (same_serves a c l m) back.1))
      p.line p.last put_section put_well

  line_put : IsPrivate (raised (a ++ Plain m ∷ b))
  line_put =
      elim (last_or_before p.inner (Plain p.closefile) a (Plain l) b (sym p.whole ∙ whole)) [
        | inl r ↦ put_last r.0 r.1 r.2
        | inr r ↦ put_inner r.0 r.1 r.2
      ]

-- ---- a new line

-- a line that says 4, by computation
four : List ℕ
four = codes "/lenIV 4 def"

four_inner : is_inner four ≡ true
unfolding four
four_inner = refl

four_said : after_token key (tokens four) ≡ Some (Some (codes "4"))
unfolding four
four_said = refl

four_subrs : subrs_line four ≡ None
unfolding four
four_subrs = refl

four_glyphs : glyphs_line four ≡ None
unfolding four
four_glyphs = refl

four_put : (n : ℕ) → line_with_lead n four ≡ lead_line n
unfolding four line_with_lead
four_put n = refl

new_again : (n : ℕ) → n ≤ 64 → LeadAgain four (lead_line n) n
new_again n h =
    let again = lead_again four (codes "4") n (omega (arith, h)) refl four_said in
    rw (four_put n) at again

no_sections : (a : List Item) → list_any is_section_line a ≡ false → (list_any is_subrs_line a ≡ false) × (list_any is_glyphs_line a ≡ false)
no_sections [] h = (refl, refl)
no_sections (i ∷ a) h =
    let parts = or_parts (is_section_line i) (list_any is_section_line a) h in
    let here = or_parts (is_subrs_line i) (is_glyphs_line i) parts.0 in
    let more = no_sections a parts.1 in
    (rw here.0 more.0, rw here.1 more.1)

new_stands : (a : List Item) (n : ℕ) → n ≤ 64 → list_any is_section_line a ≡ false → Stands a (Plain (lead_line n))
new_stands a n h none =
    let again = new_again n h in
    let sections = no_sections a none in
    let off : opens_entry a (lead_line n) ≡ false = rw (sections.1, sections.0) refl in
    (again.inner four_inner, off, again.subrs four_subrs, again.glyphs four_glyphs)

section_entry : (i : Item) → is_section_line i ≡ true → is_not_plain i ≡ true
section_entry (Plain l) h = cc
section_entry (Section before n after) h = refl
section_entry (Subr n ws closing) h = refl
section_entry (Glyph g ws closing) h = refl

new_serves : (a items : List Item) (m : List ℕ) → Serves a (a ++ Plain m ∷ []) items
new_serves a items m = record {
  subrs = sym (any_middle is_subrs_line a (Plain m) [] refl ∙ ap (list_any is_subrs_line) (append-nil a));
  glyphs = sym (any_middle is_glyphs_line a (Plain m) [] refl ∙ ap (list_any is_glyphs_line) (append-nil a));
  number = λ n on none. none_both (λ i. _) a (Plain m ∷ []) none refl;
  name = λ g on none. none_both (λ i. _) a (Plain m ∷ []) none refl;
}

unsaid_before : (items a others : List Item) → items ≡ a ++ others → list_any says_lead items ≡ false → list_any says_lead a ≡ false
unsaid_before items a others whole unsaid =
    (or_parts (list_any says_lead a) (list_any says_lead others) (sym (list_any-append says_lead a others) ∙ ap (list_any says_lead) (sym whole) ∙ unsaid)).0

-- a line put in before the first section line
line_put_in : (items a : List Item) (x : Item) (b : List Item) (n : ℕ) → IsPrivate items → items ≡ a ++ x ∷ b → is_section_line x ≡ true → list_any is_section_line a ≡ false → list_any says_lead items ≡ false → n ≤ 64
    → IsPrivate (raised (a ++ Plain (lead_line n) ∷ x ∷ b))
line_put_in items a x b n p whole section none unsaid small =
    let m = lead_line n in
    let r = before_last is_not_plain p.inner (Plain p.closefile) a x b refl (section_entry x section) (sym p.whole ∙ whole) in
    let c = r.0 in
    let old : Stand [] (a ++ x ∷ c) = rw r.2 at p.stand in
    let back = stand_back [] a (x ∷ c) old in
    let before = unsaid_before items a (x ∷ b) whole unsaid in
    private_well_formed (a ++ Plain m ∷ x ∷ b) (a ++ Plain m ∷ x ∷ c) p.closefile
    (ap (λ t. a ++ Plain m ∷ x ∷ t) r.1 ∙ sym (append_assoc a (Plain m ∷ x ∷ c) (Plain p.closefile ∷ [])))
    (stand_both [] a (Plain m ∷ x ∷ c) (stand_front [] a (x ∷ c) old) (new_stands a n small none, stand_serves a (a ++ Plain m ∷ []) (x ∷ c) (new_serves a (x ∷ c) m) back))
    p.line p.last
    (any_middle is_glyphs_line a (Plain m) (x ∷ b) refl ∙ ap (list_any is_glyphs_line) (sym whole) ∙ p.section)
    (well_after a (Plain m ∷ x ∷ b) before ∙ cons_well (said_lead (Plain m)) (filter_map said_lead (x ∷ b)) (Some (decimal n)) (new_again n small).said (lead_fine n small))

-- ---- the edit

pub lead_small : (v : ℤ) (n : ℕ) → number_up_to 64 v ≡ Ok n → n ≤ 64
lead_small (pos m) n e =
    elim (cases_Bool (nat_le m 64)) [
      | inl small ↦
          let here : ◌≡◌ {A = Result ℕ Rule} (Ok m) (Ok n) = rw small at e in
          let same : m ≡ n = cc in
          rw (← same) (leb-true m 64 small)
      | inr large ↦ let none : ◌≡◌ {A = Result ℕ Rule} (Err E4) (Ok n) = rw large at e in cc
    ]
lead_small (negsuc m) n e = cc

glyphs_are_sections : (items : List Item) → list_any is_glyphs_line items ≡ true → list_any is_section_line items ≡ true
glyphs_are_sections [] h = h
glyphs_are_sections (i ∷ items) h =
    elim (cases_Bool (is_glyphs_line i)) [
      | inl on ↦ or_left (is_section_line i) (list_any is_section_line items) (or_right (is_subrs_line i) (is_glyphs_line i) on)
      | inr off ↦
          let more : list_any is_glyphs_line items ≡ true = rw off at h in
          or_right (is_section_line i) (list_any is_section_line items) (glyphs_are_sections items more)
    ]

-- what stands in the place of the items
pub record Placed (items : List Item) (n : ℕ) (others : List Item) : Type 0 where
  pub is : List Item
  pub same : others ≡ is
  pub private : IsPrivate (raised is)
  pub lead : lead_among is ≡ n

pub lead_placed : (items : List Item) (n : ℕ) (o : Option ℕ) → IsPrivate items → n ≤ 64 → position says_lead items ≡ o → Placed items n (lead_put n items o)
lead_placed items n None p small e =
    let unsaid = position_none says_lead items e in
    let f = passing_first is_section_line items (glyphs_are_sections items p.section) in
    let a = f.found.before in
    let x = f.found.here in
    let b = f.found.after in
    record {
      is = a ++ Plain (lead_line n) ∷ x ∷ b;
      same = ap (λ t. insert t (position_or_len is_section_line items) (Plain (lead_line n))) f.found.whole ∙ insert_there a (x ∷ b) (position_or_len is_section_line items) (Plain (lead_line n)) f.place;
      private = line_put_in items a x b n p f.found.whole f.found.passes f.first unsaid small;
      lead = lead_said a (lead_line n) (x ∷ b) n (unsaid_before items a (x ∷ b) f.found.whole unsaid) small (new_again n small).said;
    }
lead_placed items n (Some at) p small e =
    let f = position_first says_lead items at e in
    let form = plain_form f.found.here f.found.passes in
    let l = form.0 in
    let a = f.found.before in
    let b = f.found.after in
    let whole : items ≡ a ++ Plain l ∷ b = f.found.whole ∙ ap (λ x. a ++ x ∷ b) form.1 in
    let here : line_at at items ≡ l = ap (λ t. line_at at t) whole ∙ ap line_of (got_there a (Plain l) b at (Plain []) f.place) in
    let well : says_lead_well (Plain l ∷ b) ≡ true = sym (well_after a (Plain l ∷ b) f.first) ∙ ap says_lead_well (sym whole) ∙ p.lead in
    let said = said_of (said_lead (Plain l)) (filter_map said_lead b) (ap says_lead (sym form.1) ∙ f.found.passes) well in
    let digits = lead_digits said.0 said.2 in
    let again = lead_again l digits.0 n (omega (arith, small)) digits.2 (said.1 ∙ ap Some digits.1) in
    let m = line_with_lead n l in
    record {
      is = a ++ Plain m ∷ b;
      same = ap (λ t. slice_set items at (Plain (line_with_lead n t))) here ∙ ap (λ t. slice_set t at (Plain m)) whole ∙ set_there a (Plain l) b at (Plain m) f.place;
      private = line_put items a l b m n p whole f.first small again;
      lead = lead_said a m b n f.first small again.said;
    }

pub lead_well_formed : (s : SourceParts) (number : ℤ) (made : SourceParts) → IsWellFormed s → lead_edited s number ≡ Ok made → IsWellFormed made
unfolding lead_edited items_with_lead
lead_well_formed s number made kept e =
    let step = bind_ok (number_up_to 64 number) (λ n. Ok (with_items s (items_with_lead n s.items))) made e in
    let n = step.0 in
    let r = lead_placed s.items n (position says_lead s.items) kept.items (lead_small number n step.1) refl in
    items_well_formed s (items_with_lead n s.items) r.is made kept r.same r.private step.2

-- a plain line stands where lenIV is said
pub lead_fits : (items : List Item) (at : ℕ) (l : List ℕ) → position says_lead items ≡ Some at → IsInPlaceOf (slice_index_or items at (Plain [])) (Plain l)
lead_fits items at l e =
    let f = position_first says_lead items at e in
    let form = plain_form f.found.here f.found.passes in
    let here : slice_index_or items at (Plain []) ≡ Plain form.0 =
    ap (λ t. slice_index_or t at (Plain [])) f.found.whole ∙ got_there f.found.before f.found.here f.found.after at (Plain []) f.place ∙ form.1 in
    rw here tt
