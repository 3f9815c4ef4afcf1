-- Counts of at most nine digits, of a source that was read.
use Rattle.std.proofs.Common.{◌≡◌, ℕ, Bool, true, false, ◌&&◌, ◌||◌, ◌+◌, ◌-◌, ◌^◌, ◌<◌, ◌≤◌, nat_lt, max, if◌then◌else◌, Option, None, Some, option_map, Result, Ok, Err, ok_or, List, [], ◌∷◌, ◌++◌, length, take, drop, map, codes, refl, sym, ◌∙◌, ap, inl, inr, arith}
use Rattle.std.specs.List.{list_all}
use Rattle.std.proofs.lemmas.Bool.{and_parts, and_from, cases_Bool, ltb-true, lt-ltb}
use Rattle.std.proofs.lemmas.List.{map-append}
use Rattle.std.proofs.lemmas.List.Folds.{list_all-append}
use Rattle.t1_frac.specs.declared.fault.Code.{Code}
use Rattle.t1_frac.specs.declared.fault.Code.TheVariants.{F4, F7, F8, F9, F10}
use Rattle.t1_frac.specs.declared.fault.Fault.{Fault}
use Rattle.t1_parts.specs.declared.body.EntryBody.{EntryBody}
use Rattle.t1_parts.specs.declared.item.Item.{Item}
use Rattle.t1_parts.specs.declared.item.Item.TheVariants.{Plain, Section, Subr, Glyph}
use Rattle.t1_parts.specs.SourceParts.{SourceParts}
use Rattle.t1_text.specs.Lines.{lines}
use Rattle.t1_text.specs.Tokens.{tokens, places_from}
use Rattle.t1_text.specs.Names.{decimal_of, up_to, name_of_token}
use Rattle.t1_frac.specs.Numbers.{decimal_value}
use Rattle.t1_text.specs.Names.{is_count}
use Rattle.t1_parts.specs.Sections.{count_between, section_at, subrs_line, glyphs_line, is_subrs_line, is_glyphs_line}
use Rattle.t1_parts.specs.Entries.{NumberedItem, Taken, has_numbered, is_subr, is_glyph, opens_subr, opens_glyph, opened_body, entry_of, subr_entry, glyph_entry}
use Rattle.t1_parts.specs.Private.{line_item, among_glyphs, among_subrs, item_in_front, items_of, private_items}
use Rattle.t1_parts.specs.Counts.{subrs_needed, glyphs_needed, raised_item, raised}
use Rattle.t1_parts.specs.Reading.{unnumbered, reads}
use Rattle.t1_parts.specs.Printing.{text}
use Rattle.t1_source.specs.WellFormed.{Stand, IsPrivate, is_counted}
use Rattle.t1_parts.proofs.CountLaws.{glyphs_same, subrs_same}
use Rattle.t1_parts.proofs.ItemLaws.{items_keep}
use Rattle.t1_frac.proofs.OutcomeLaws.{bind_ok}
use Rattle.t1_parts.proofs.SectionLaws.{count_place_of}
use Rattle.t1_text.proofs.NumberLaws.{count_small}
use Rattle.t1_source.proofs.WellFormedItemsLaws.{entry_given}
use Rattle.t1_source.proofs.WellFormedSourceLaws.{source_well_formed, taken_apart}
use Rattle.t1_source.proofs.SourceAgainLaws.{source_again}

section_counted : (key word l : List ℕ) (o : Option (ℕ × List ℕ)) (s : Item) → is_count key ≡ false → count_between key word (places_from 0 l) ≡ o → option_map (section_at l) o ≡ Some s → is_counted s ≡ true
section_counted key word l None s plain found e = cc
section_counted key word l (Some m) s plain found e =
    let same : section_at l m ≡ s = cc in
    let r = count_place_of key word l m plain found in
    ap is_counted (sym same) ∙ lt-ltb (decimal_value m.1) (10 ^ 9) (count_small m.1 r.counted)

line_counted : (earlier : List NumberedItem) (l : List ℕ) (o p : Option Item) (x : Taken) → subrs_line l ≡ o → glyphs_line l ≡ p → line_item earlier l o p ≡ Ok x → is_counted x.0 ≡ true
unfolding line_item
line_counted earlier l None None x eo ep e = let same : ◌≡◌ {A = Taken} (Plain l, 0) x = cc in ap (λ y. is_counted y.0) (sym same)
line_counted earlier l (Some s) None x eo ep e =
    elim (cases_Bool (has_numbered is_subrs_line earlier || has_numbered is_glyphs_line earlier)) [
      | inl late ↦ let none : Err F4 ≡ Ok x = rw late at e in cc
      | inr first ↦
          let here : ◌≡◌ {A = Result Taken Code} (Ok (s, 0)) (Ok x) = rw first at e in
          let same : ◌≡◌ {A = Taken} (s, 0) x = cc in
          ap (λ y. is_counted y.0) (sym same) ∙ section_counted (codes "/Subrs") (codes "array") l (count_between (codes "/Subrs") (codes "array") (places_from 0 l)) s refl refl eo
    ]
line_counted earlier l None (Some s) x eo ep e =
    elim (cases_Bool (has_numbered is_glyphs_line earlier)) [
      | inl late ↦ let none : Err F4 ≡ Ok x = rw late at e in cc
      | inr first ↦
          let here : ◌≡◌ {A = Result Taken Code} (Ok (s, 0)) (Ok x) = rw first at e in
          let same : ◌≡◌ {A = Taken} (s, 0) x = cc in
          ap (λ y. is_counted y.0) (sym same) ∙ section_counted (codes "/CharStrings") (codes "dict") l (count_between (codes "/CharStrings") (codes "dict") (places_from 0 l)) s refl refl ep
    ]
line_counted earlier l (Some s) (Some t) x eo ep e = cc

glyph_counted : (earlier : List NumberedItem) (t : List ℕ) (body : Option EntryBody) (x : Taken) → glyph_entry earlier t body ≡ Ok x → is_counted x.0 ≡ true
unfolding glyph_entry
glyph_counted earlier t body x e =
    let named = bind_ok (ok_or (name_of_token t) F8) (λ g. if has_numbered (is_glyph g) earlier then Err F10 else ok_or (option_map (entry_of (Glyph g)) body) F7) x e in
    let g = named.0 in
    elim (cases_Bool (has_numbered (is_glyph g) earlier)) [
      | inl old ↦ let none : Err F10 ≡ Ok x = rw old at named.2 in cc
      | inr fresh ↦ ap is_counted (sym (entry_given (Glyph g) body F7 x (rw fresh at named.2)).2)
    ]

subr_counted : (earlier : List NumberedItem) (t : List ℕ) (body : Option EntryBody) (x : Taken) → subr_entry earlier t body ≡ Ok x → is_counted x.0 ≡ true
unfolding subr_entry
subr_counted earlier t body x e =
    let numbered = bind_ok (ok_or (up_to 32000 (decimal_of t)) F8) (λ n. if has_numbered (is_subr n) earlier then Err F9 else ok_or (option_map (entry_of (Subr n)) body) F7) x e in
    let n = numbered.0 in
    elim (cases_Bool (has_numbered (is_subr n) earlier)) [
      | inl old ↦ let none : Err F9 ≡ Ok x = rw old at numbered.2 in cc
      | inr fresh ↦ ap is_counted (sym (entry_given (Subr n) body F7 x (rw fresh at numbered.2)).2)
    ]

glyphs_counted : (earlier : List NumberedItem) (l : List ℕ) (ls : List (List ℕ)) (x : Taken) (o : Option (List ℕ)) → among_glyphs earlier l ls o ≡ Ok x → is_counted x.0 ≡ true
glyphs_counted earlier l ls x None e = line_counted earlier l (subrs_line l) (glyphs_line l) x refl refl e
glyphs_counted earlier l ls x (Some t) e = glyph_counted earlier t (opened_body l ls) x e

subrs_counted : (earlier : List NumberedItem) (l : List ℕ) (ls : List (List ℕ)) (x : Taken) (o : Option (List ℕ)) → among_subrs earlier l ls o ≡ Ok x → is_counted x.0 ≡ true
subrs_counted earlier l ls x None e = line_counted earlier l (subrs_line l) (glyphs_line l) x refl refl e
subrs_counted earlier l ls x (Some t) e = subr_counted earlier t (opened_body l ls) x e

item_counted : (earlier : List NumberedItem) (l : List ℕ) (ls : List (List ℕ)) (x : Taken) → item_in_front earlier l ls ≡ Ok x → is_counted x.0 ≡ true
unfolding item_in_front
item_counted earlier l ls x e =
    elim (cases_Bool (has_numbered is_glyphs_line earlier)) [
      | inl glyphs ↦ glyphs_counted earlier l ls x (opens_glyph (tokens l)) (rw glyphs at e)
      | inr no_glyphs ↦ elim (cases_Bool (has_numbered is_subrs_line earlier)) [
        | inl subrs ↦ subrs_counted earlier l ls x (opens_subr (tokens l)) (rw (no_glyphs, subrs) at e)
        | inr no_subrs ↦ line_counted earlier l (subrs_line l) (glyphs_line l) x refl refl (rw (no_glyphs, no_subrs) at e)
      ]
    ]

all_further : (items : List NumberedItem) (n : ℕ) (i : Item) → list_all is_counted (unnumbered items) ≡ true → is_counted i ≡ true → list_all is_counted (unnumbered (items ++ (n, i) ∷ [])) ≡ true
all_further items n i h k =
    ap (list_all is_counted) (map-append (λ x. x.1) items ((n, i) ∷ [])) ∙ list_all-append is_counted (unnumbered items) (i ∷ [])
    ∙ and_from (list_all is_counted (unnumbered items)) (is_counted i && true) h (and_from (is_counted i) true k refl)

items_counted : (n : ℕ) (ls : List (List ℕ)) (items : List NumberedItem) → items_of n ls ≡ Ok items → list_all is_counted (unnumbered items) ≡ true
items_counted n ls items e = items_keep (λ its rest. list_all is_counted (unnumbered its) ≡ true) (λ its l rest h. h) (λ its m l rest x h is. all_further its m x.0 h (item_counted its l rest x is)) n ls items refl e

plain_counted : (n : ℕ) (ls : List (List ℕ)) → list_all is_counted (unnumbered (map (λ l. (n, Plain l)) ls)) ≡ true
plain_counted n [] = refl
plain_counted n (l ∷ ls) = plain_counted n ls

private_counted : (n : ℕ) (ls : List (List ℕ)) (items : List NumberedItem) → private_items n ls ≡ Ok items → list_all is_counted (unnumbered items) ≡ true
unfolding private_items
private_counted n ls items e =
    let k = length ls - 1 in
    let last = map (λ l. (n + k, Plain l)) (drop k ls) in
    let step = bind_ok (items_of n (take k ls)) (λ its. Ok (its ++ map (λ l. (n + k, Plain l)) (drop k ls))) items e in
    let whole : ◌≡◌ {A = Result (List NumberedItem) Fault} (Ok (step.0 ++ last)) (Ok items) = step.2 in
    let same : step.0 ++ last ≡ items = cc in
    ap (λ t. list_all is_counted (unnumbered t)) (sym same) ∙ ap (list_all is_counted) (map-append (λ x. x.1) step.0 last) ∙ list_all-append is_counted (unnumbered step.0) (unnumbered last)
    ∙ and_from (list_all is_counted (unnumbered step.0)) (list_all is_counted (unnumbered last)) (items_counted n (take k ls) step.0 step.1) (plain_counted (n + k) (drop k ls))

-- how many Subrs need a count
needed_small : (e items : List Item) (last : List ℕ) → Stand e items → subrs_needed (items ++ Plain last ∷ []) ≤ 32001
needed_small e [] last h = omega arith
needed_small e (Plain l ∷ items) last h = needed_small (e ++ Plain l ∷ []) items last h.1
needed_small e (Section before n after ∷ items) last h = needed_small (e ++ Section before n after ∷ []) items last h.1
needed_small e (Subr n ws closing ∷ items) last h =
    let more = needed_small (e ++ Subr n ws closing ∷ []) items last h.1 in
    let here = h.0.3 in
    omega (arith, more, here)
needed_small e (Glyph g ws closing ∷ items) last h = needed_small (e ++ Glyph g ws closing ∷ []) items last h.1

chosen_small : (b : Bool) (s g : ℕ) → s < 10 ^ 9 → g < 10 ^ 9 → (if b then g else s) < 10 ^ 9
chosen_small true s g p q = q
chosen_small false s g p q = p

raised_small : (s g : ℕ) (items : List Item) → s < 10 ^ 9 → g < 10 ^ 9 → list_all is_counted items ≡ true → list_all is_counted (map (raised_item s g) items) ≡ true
raised_small s g [] p q h = refl
raised_small s g (Plain l ∷ items) p q h = raised_small s g items p q h
raised_small s g (Section before n after ∷ items) p q h =
    let parts = and_parts (nat_lt n (10 ^ 9)) (list_all is_counted items) h in
    let needed = if is_glyphs_line (Section before n after) then g else s in
    let count = ltb-true n (10 ^ 9) parts.0 in
    let small = chosen_small (is_glyphs_line (Section before n after)) s g p q in
    and_from (nat_lt (max n needed) (10 ^ 9)) (list_all is_counted (map (raised_item s g) items)) (lt-ltb (max n needed) (10 ^ 9) (max_small n needed count small)) (raised_small s g items p q parts.1)
  where
    max_small : (a b : ℕ) → a < 10 ^ 9 → b < 10 ^ 9 → max a b < 10 ^ 9
    max_small a b p q = omega (arith, p, q)
raised_small s g (Subr n ws closing ∷ items) p q h = raised_small s g items p q h
raised_small s g (Glyph name ws closing ∷ items) p q h = raised_small s g items p q h

-- counts that are raised, where there are few glyphs
pub raised_counted : (items : List Item) → IsPrivate (raised items) → glyphs_needed (raised items) < 10 ^ 9 → list_all is_counted items ≡ true → list_all is_counted (raised items) ≡ true
raised_counted items p few h =
    let s = subrs_needed items in
    let g = glyphs_needed items in
    let needed : subrs_needed (raised items) ≤ 32001 = rw p.whole (needed_small [] p.inner p.closefile p.stand) in
    raised_small s g items (omega (arith, needed, subrs_same s g items)) (omega (arith, few, glyphs_same s g items)) h

-- the counts of a source that was read
pub read_counted : (bytes : List ℕ) (s : SourceParts) → reads bytes ≡ Ok s → glyphs_needed s.items < 10 ^ 9 → list_all is_counted s.items ≡ true
unfolding reads
read_counted bytes s e few =
    let kept = source_well_formed bytes s e in
    let t = taken_apart (lines bytes) s e in
    let is : raised (unnumbered t.items) ≡ s.items = ap (λ source. source.items) t.same in
    let private : IsPrivate (raised (unnumbered t.items)) = rw is kept.items in
    let small : glyphs_needed (raised (unnumbered t.items)) < 10 ^ 9 = rw is few in
    ap (list_all is_counted) (sym is) ∙ raised_counted (unnumbered t.items) private small (private_counted (length t.parts.clear + 1) t.parts.private t.items t.read)

-- a source that was read, of fewer than 1,000,000,000 glyphs
pub read_again : (bytes : List ℕ) (s : SourceParts) → reads bytes ≡ Ok s → glyphs_needed s.items < 10 ^ 9 → reads (text s) ≡ Ok s
read_again bytes s e few = source_again s (source_well_formed bytes s e) (read_counted bytes s e few)
