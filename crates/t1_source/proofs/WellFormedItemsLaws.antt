-- Items that were read stand after those before them.
use Rattle.std.proofs.Common.{◌≡◌, ℕ, true, false, ◌&&◌, ◌||◌, ◌==◌, ◌+◌, ◌≤◌, nat_le, if◌then◌else◌, Option, None, Some, option_map, Result, Ok, Err, ok_or, List, [], ◌∷◌, ◌++◌, length, take, drop, codes, refl, sym, ◌∙◌, ap, inl, inr}
use Rattle.std.specs.List.{list_all, list_any}
use Rattle.std.proofs.lemmas.Bool.{and_parts, cases_Bool, leb-true, or_parts}
use Rattle.std.proofs.lemmas.List.{map-append}
use Rattle.t1_frac.specs.declared.fault.Code.{Code}
use Rattle.t1_frac.specs.declared.fault.Code.TheVariants.{F4, F7, F8, F9, F10}
use Rattle.t1_parts.specs.declared.body.EntryBody.{EntryBody}
use Rattle.t1_parts.specs.declared.item.Item.{Item}
use Rattle.t1_parts.specs.declared.item.Item.TheVariants.{Plain, Section, Subr, Glyph}
use Rattle.t1_text.specs.Tokens.{tokens, places_from}
use Rattle.t1_text.specs.Names.{is_name, name_of_token, decimal_of, up_to}
use Rattle.t1_frac.specs.Numbers.{decimal_value}
use Rattle.t1_parts.specs.Sections.{count_between, section_at, subrs_line, glyphs_line, is_subrs_line, is_glyphs_line}
use Rattle.t1_parts.specs.Entries.{NumberedItem, Taken, has_numbered, is_subr, is_glyph, opens_subr, opens_glyph, opened_body, entry_of, subr_entry, glyph_entry}
use Rattle.t1_parts.specs.Private.{line_item, among_glyphs, among_subrs, item_in_front, items_of}
use Rattle.t1_parts.specs.Reading.{unnumbered}
use Rattle.t1_source.specs.WellFormed.{is_inner, opens_entry, IsSectionLine, IsEntry, Stands, Stand}
use Rattle.t1_frac.proofs.OutcomeLaws.{bind_ok}
use Rattle.t1_parts.proofs.ItemLaws.{items_keep}
use Rattle.t1_source.proofs.SectionLineLaws.{section_again}
use Rattle.t1_source.proofs.PrintedLaws.{inner_other}
use Rattle.t1_source.proofs.ItemsAgainLaws.{has_item}
use Rattle.t1_source.proofs.StandLaws.{stand_both}
use Rattle.t1_source.proofs.WellFormedBodyLaws.{opened_entry}

same_stands : (e : List Item) (i j : Item) → i ≡ j → Stands e i → Stands e j
same_stands e i j same h = rw (← same) h

-- a value that was there
pub given_some : {A E : Type 0} (o : Option A) (f : E) (a : A) → ok_or o f ≡ Ok a → o ≡ Some a
given_some None f a e = cc
given_some (Some b) f a e = let same : b ≡ a = cc in ap Some same

pub entry_given : {E : Type 0} (entry : List (List ℕ) → List ℕ → Item) (body : Option EntryBody) (f : E) (x : Taken) → ok_or (option_map (entry_of entry) body) f ≡ Ok x → (b : EntryBody) × (body ≡ Some b) × (entry b.words b.closing ≡ x.0)
entry_given entry None f x e = cc
entry_given entry (Some b) f x e = let same : entry_of entry b ≡ x = cc in (b, refl, ap (λ y. y.0) same)

name_given : (t g : List ℕ) → name_of_token t ≡ Some g → is_name g ≡ true
name_given [] g e = cc
name_given (c ∷ name) g e =
    elim (cases_Bool (c == 47 && is_name name)) [
      | inl on ↦
          let here : Some name ≡ Some g = rw on at e in
          let same : name ≡ g = cc in
          ap is_name (sym same) ∙ (and_parts (c == 47) (is_name name) on).1
      | inr off ↦ let none : None ≡ Some g = rw off at e in cc
    ]

number_given : (o : Option ℕ) (n : ℕ) → up_to 32000 o ≡ Some n → n ≤ 32000
number_given None n e = cc
number_given (Some m) n e =
    elim (cases_Bool (nat_le m 32000)) [
      | inl small ↦
          let here : Some m ≡ Some n = rw small at e in
          let same : m ≡ n = cc in
          rw (← same) (leb-true m 32000 small)
      | inr large ↦ let none : None ≡ Some n = rw large at e in cc
    ]

-- a glyph that was read
glyph_stands : (earlier : List NumberedItem) (t : List ℕ) (body : Option EntryBody) (x : Taken) → has_numbered is_glyphs_line earlier ≡ true → ((b : EntryBody) → body ≡ Some b → IsEntry b.words b.closing) → glyph_entry earlier t body ≡ Ok x
    → Stands (unnumbered earlier) x.0
unfolding glyph_entry
glyph_stands earlier t body x section entry e =
    let named = bind_ok (ok_or (name_of_token t) F8) (λ g. if has_numbered (is_glyph g) earlier then Err F10 else ok_or (option_map (entry_of (Glyph g)) body) F7) x e in
    let g = named.0 in
    elim (cases_Bool (has_numbered (is_glyph g) earlier)) [
      | inl old ↦ let none : Err F10 ≡ Ok x = rw old at named.2 in cc
      | inr fresh ↦
          let rest : ok_or (option_map (entry_of (Glyph g)) body) F7 ≡ Ok x = rw fresh at named.2 in
          let b = entry_given (Glyph g) body F7 x rest in
          same_stands (unnumbered earlier) (Glyph g b.0.words b.0.closing) x.0 b.2 (
            sym (has_item is_glyphs_line earlier) ∙ section,
            sym (has_item (is_glyph g) earlier) ∙ fresh,
            name_given t g (given_some (name_of_token t) F8 g named.1),
            entry b.0 b.1,
          )
    ]

-- a Subr that was read
subr_stands : (earlier : List NumberedItem) (t : List ℕ) (body : Option EntryBody) (x : Taken) → has_numbered is_glyphs_line earlier ≡ false → has_numbered is_subrs_line earlier ≡ true → ((b : EntryBody) → body ≡ Some b → IsEntry b.words b.closing)
    → subr_entry earlier t body ≡ Ok x → Stands (unnumbered earlier) x.0
unfolding subr_entry
subr_stands earlier t body x no_glyphs section entry e =
    let numbered = bind_ok (ok_or (up_to 32000 (decimal_of t)) F8) (λ n. if has_numbered (is_subr n) earlier then Err F9 else ok_or (option_map (entry_of (Subr n)) body) F7) x e in
    let n = numbered.0 in
    elim (cases_Bool (has_numbered (is_subr n) earlier)) [
      | inl old ↦ let none : Err F9 ≡ Ok x = rw old at numbered.2 in cc
      | inr fresh ↦
          let rest : ok_or (option_map (entry_of (Subr n)) body) F7 ≡ Ok x = rw fresh at numbered.2 in
          let b = entry_given (Subr n) body F7 x rest in
          same_stands (unnumbered earlier) (Subr n b.0.words b.0.closing) x.0 b.2 (
            sym (has_item is_glyphs_line earlier) ∙ no_glyphs,
            sym (has_item is_subrs_line earlier) ∙ section,
            sym (has_item (is_subr n) earlier) ∙ fresh,
            number_given (decimal_of t) n (given_some (up_to 32000 (decimal_of t)) F8 n numbered.1),
            entry b.0 b.1,
          )
    ]

-- a section line
section_form : (l : List ℕ) (o : Option (ℕ × List ℕ)) (s : Item) → option_map (section_at l) o ≡ Some s → (before : List ℕ) × (n : ℕ) × (after : List ℕ) × (Section before n after ≡ s)
section_form l None s e = cc
section_form l (Some m) s e =
    let same : section_at l m ≡ s = cc in
    (take m.0 l, decimal_value m.1, drop (m.0 + length m.1) l, same)

section_stands : (e : List Item) (before : List ℕ) (n : ℕ) (after l : List ℕ) → is_inner l ≡ true → opens_entry e l ≡ false → IsSectionLine e (Section before n after) l → Stands e (Section before n after)
section_stands e before n after l inner off h =
    let r = section_again e before n after l h off in
    let zero_line = r.other (48 ∷ []) refl in
    (inner_other before after r.count (48 ∷ []) r.counted refl (ap is_inner (sym r.whole) ∙ inner), zero_line.0, zero_line.1)

-- a section line or a plain line
line_stands : (earlier : List NumberedItem) (l : List ℕ) (o p : Option Item) (x : Taken) → is_inner l ≡ true → opens_entry (unnumbered earlier) l ≡ false → subrs_line l ≡ o → glyphs_line l ≡ p → line_item earlier l o p ≡ Ok x
    → Stands (unnumbered earlier) x.0
unfolding line_item
line_stands earlier l None None x inner off eo ep e =
    let same : ◌≡◌ {A = Taken} (Plain l, 0) x = cc in
    same_stands (unnumbered earlier) (Plain l) x.0 (ap (λ y. y.0) same) (inner, off, eo, ep)
line_stands earlier l (Some s) None x inner off eo ep e =
    elim (cases_Bool (has_numbered is_subrs_line earlier || has_numbered is_glyphs_line earlier)) [
      | inl late ↦ let none : Err F4 ≡ Ok x = rw late at e in cc
      | inr first ↦
          let parts = or_parts (has_numbered is_subrs_line earlier) (has_numbered is_glyphs_line earlier) first in
          let here : ◌≡◌ {A = Result Taken Code} (Ok (s, 0)) (Ok x) = rw first at e in
          let same : ◌≡◌ {A = Taken} (s, 0) x = cc in
          let f = section_form l (count_between (codes "/Subrs") (codes "array") (places_from 0 l)) s eo in
          same_stands (unnumbered earlier) (Section f.0 f.1 f.2) x.0 (f.3 ∙ ap (λ y. y.0) same)
          (section_stands (unnumbered earlier) f.0 f.1 f.2 l inner off
          (sym (has_item is_glyphs_line earlier) ∙ parts.1, inl (eo ∙ ap Some (sym f.3), ep, sym (has_item is_subrs_line earlier) ∙ parts.0)))
    ]
line_stands earlier l None (Some s) x inner off eo ep e =
    elim (cases_Bool (has_numbered is_glyphs_line earlier)) [
      | inl late ↦ let none : Err F4 ≡ Ok x = rw late at e in cc
      | inr first ↦
          let here : ◌≡◌ {A = Result Taken Code} (Ok (s, 0)) (Ok x) = rw first at e in
          let same : ◌≡◌ {A = Taken} (s, 0) x = cc in
          let f = section_form l (count_between (codes "/CharStrings") (codes "dict") (places_from 0 l)) s ep in
          same_stands (unnumbered earlier) (Section f.0 f.1 f.2) x.0 (f.3 ∙ ap (λ y. y.0) same)
          (section_stands (unnumbered earlier) f.0 f.1 f.2 l inner off (sym (has_item is_glyphs_line earlier) ∙ first, inr (eo, ep ∙ ap Some (sym f.3))))
    ]
line_stands earlier l (Some s) (Some t) x inner off eo ep e = cc

-- after the CharStrings line
glyphs_case : (earlier : List NumberedItem) (l : List ℕ) (ls : List (List ℕ)) (x : Taken) (o : Option (List ℕ)) → is_inner l ≡ true → list_all is_inner ls ≡ true → has_numbered is_glyphs_line earlier ≡ true → opens_glyph (tokens l) ≡ o
    → among_glyphs earlier l ls o ≡ Ok x → Stands (unnumbered earlier) x.0
glyphs_case earlier l ls x None h k section opens e =
    let on : list_any is_glyphs_line (unnumbered earlier) ≡ true = sym (has_item is_glyphs_line earlier) ∙ section in
    line_stands earlier l (subrs_line l) (glyphs_line l) x h (rw (on, opens) refl) refl refl e
glyphs_case earlier l ls x (Some t) h k section opens e = glyph_stands earlier t (opened_body l ls) x section (λ b d. opened_entry l ls b h k d) e

-- between the section lines
subrs_case : (earlier : List NumberedItem) (l : List ℕ) (ls : List (List ℕ)) (x : Taken) (o : Option (List ℕ)) → is_inner l ≡ true → list_all is_inner ls ≡ true → has_numbered is_glyphs_line earlier ≡ false → has_numbered is_subrs_line earlier ≡ true
    → opens_subr (tokens l) ≡ o → among_subrs earlier l ls o ≡ Ok x → Stands (unnumbered earlier) x.0
subrs_case earlier l ls x None h k no_glyphs section opens e =
    let no : list_any is_glyphs_line (unnumbered earlier) ≡ false = sym (has_item is_glyphs_line earlier) ∙ no_glyphs in
    let on : list_any is_subrs_line (unnumbered earlier) ≡ true = sym (has_item is_subrs_line earlier) ∙ section in
    line_stands earlier l (subrs_line l) (glyphs_line l) x h (rw (no, on, opens) refl) refl refl e
subrs_case earlier l ls x (Some t) h k no_glyphs section opens e = subr_stands earlier t (opened_body l ls) x no_glyphs section (λ b d. opened_entry l ls b h k d) e

-- an item that was read stands after the earlier ones
pub item_stands : (earlier : List NumberedItem) (l : List ℕ) (ls : List (List ℕ)) (x : Taken) → is_inner l ≡ true → list_all is_inner ls ≡ true → item_in_front earlier l ls ≡ Ok x → Stands (unnumbered earlier) x.0
unfolding item_in_front
item_stands earlier l ls x h k e =
    elim (cases_Bool (has_numbered is_glyphs_line earlier)) [
      | inl glyphs ↦ glyphs_case earlier l ls x (opens_glyph (tokens l)) h k glyphs refl (rw glyphs at e)
      | inr no_glyphs ↦ elim (cases_Bool (has_numbered is_subrs_line earlier)) [
        | inl subrs ↦ subrs_case earlier l ls x (opens_subr (tokens l)) h k no_glyphs subrs refl (rw (no_glyphs, subrs) at e)
        | inr no_subrs ↦
            let no : list_any is_glyphs_line (unnumbered earlier) ≡ false = sym (has_item is_glyphs_line earlier) ∙ no_glyphs in
            let also : list_any is_subrs_line (unnumbered earlier) ≡ false = sym (has_item is_subrs_line earlier) ∙ no_subrs in
            line_stands earlier l (subrs_line l) (glyphs_line l) x h (rw (no, also) refl) refl refl (rw (no_glyphs, no_subrs) at e)
      ]
    ]

-- items that were read stand
pub read_stand : (n : ℕ) (ls : List (List ℕ)) (items : List NumberedItem) → list_all is_inner ls ≡ true → items_of n ls ≡ Ok items → Stand [] (unnumbered items)
read_stand n ls items h e = (items_keep (λ its rest. (list_all is_inner rest ≡ true) × Stand [] (unnumbered its)) passed taken n ls items (h, tt) e).1
  where
    passed : (its : List NumberedItem) (l : List ℕ) (rest : List (List ℕ)) → (list_all is_inner (l ∷ rest) ≡ true) × Stand [] (unnumbered its) → (list_all is_inner rest ≡ true) × Stand [] (unnumbered its)
    passed its l rest k = ((and_parts (is_inner l) (list_all is_inner rest) k.0).1, k.1)

    taken : (its : List NumberedItem) (m : ℕ) (l : List ℕ) (rest : List (List ℕ)) (x : Taken) → (list_all is_inner (l ∷ rest) ≡ true) × Stand [] (unnumbered its) → item_in_front its l rest ≡ Ok x
        → (list_all is_inner rest ≡ true) × Stand [] (unnumbered (its ++ (m, x.0) ∷ []))
    taken its m l rest x k is =
        let parts = and_parts (is_inner l) (list_all is_inner rest) k.0 in
        let here = item_stands its l rest x parts.0 parts.1 is in
        let grown : unnumbered (its ++ (m, x.0) ∷ []) ≡ unnumbered its ++ x.0 ∷ [] = map-append (λ y. y.1) its ((m, x.0) ∷ []) in
        (parts.1, rw grown (stand_both [] (unnumbered its) (x.0 ∷ []) k.1 (here, tt)))
