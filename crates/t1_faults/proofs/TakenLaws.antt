-- The entries of a source that was read are those of its items, with their words.
use Rattle.std.proofs.Common.{◌≡◌, ◌∙◌, ℕ, zero, suc, ◌||◌, ◌+◌, List, [], ◌∷◌, ◌++◌, drop, map, Some, None, Option, Result, Ok, Err, refl, sym, ap, subst, inl, inr, arith}
use Rattle.std.specs.Prelude.{ok_or, option_map, codes, if◌then◌else◌}
use Rattle.std.proofs.lemmas.Bool.{cases_Bool}
use Rattle.std.proofs.lemmas.List.{append_assoc, append-nil}
use Rattle.t1_frac.specs.Outcome.{reported_at}
use Rattle.t1_frac.specs.declared.fault.Code.{Code}
use Rattle.t1_frac.specs.declared.fault.Code.TheVariants.{F4, F7, F8, F9, F10}
use Rattle.t1_frac.specs.declared.fault.Place.TheVariants as places
use Rattle.t1_frac.proofs.OutcomeLaws.{bind_ok, reported_ok}
use Rattle.t1_text.specs.Tokens.{tokens, places_from}
use Rattle.t1_text.specs.Names.{decimal_of, up_to, name_of_token}
use Rattle.t1_parts.specs.declared.body.EntryBody.{EntryBody}
use Rattle.t1_parts.specs.declared.item.Item.{Item}
use Rattle.t1_parts.specs.declared.item.Item.TheVariants.{Plain, Section, Subr, Glyph}
use Rattle.t1_parts.specs.Entries.{NumberedItem, Taken, entry_of as made_entry, glyph_entry, has_numbered, is_glyph, is_subr, opened_body, opens_glyph, opens_subr, subr_entry}
use Rattle.t1_parts.specs.Private.{among_glyphs, among_subrs, item_in_front, items_after, line_item}
use Rattle.t1_parts.specs.Reading.{unnumbered}
use Rattle.t1_parts.specs.Sections.{count_between, glyphs_line, is_glyphs_line, is_subrs_line, section_at, subrs_line}
use Rattle.t1_faults.specs.Entries.{Entry, entries_from, entry_at, more_lines, place_in, placed_words, span}
use Rattle.t1_faults.proofs.PlacedLaws.{opened_as}

-- ---- an item that was read takes its lines, and its words are those of the body on them

abbrev HasWords : Item → List ℕ → List (List ℕ) → Type 0
HasWords (Subr n words closing) l ls = (b : EntryBody) × (opened_body l ls ≡ Some b) × (b.words ≡ words)
HasWords (Glyph g words closing) l ls = (b : EntryBody) × (opened_body l ls ≡ Some b) × (b.words ≡ words)
HasWords (Plain line) l ls = Unit {0}
HasWords (Section before n after) l ls = Unit {0}

abbrev IsTaken : List ℕ → List (List ℕ) → Taken → Type 0
IsTaken l ls x = (span (place_in x.0) l ls ≡ x.1) × HasWords x.0 l ls

given : {A : Type 0} (o : Option A) (code : Code) (x : A) → ok_or o code ≡ Ok x → o ≡ Some x
given None code x e = cc
given (Some y) code x e = let same : y ≡ x = cc in ap Some same

mapped : {A B : Type 0} (f : A → B) (o : Option A) (y : B) → option_map f o ≡ Some y → (x : A) × (o ≡ Some x) × (f x ≡ y)
mapped f None y e = cc
mapped f (Some x) y e = let same : f x ≡ y = cc in (x, refl, same)

made : (entry : List (List ℕ) → List ℕ → Item) (body : Option EntryBody) (x : Taken) → ok_or (option_map (made_entry entry) body) F7 ≡ Ok x
    → (b : EntryBody) × (body ≡ Some b) × (made_entry entry b ≡ x)
made entry body x e = mapped (made_entry entry) body x (given (option_map (made_entry entry) body) F7 x e)

glyph_taken : (earlier : List NumberedItem) (t l : List ℕ) (ls : List (List ℕ)) (x : Taken) → glyph_entry earlier t (opened_body l ls) ≡ Ok x → IsTaken l ls x
unfolding glyph_entry
glyph_taken earlier t l ls x e =
    let body = opened_body l ls in
    let named = bind_ok (ok_or (name_of_token t) F8) (λ g. if has_numbered (is_glyph g) earlier then Err F10 else ok_or (option_map (made_entry (Glyph g)) body) F7) x e in
    let g = named.0 in
    elim (cases_Bool (has_numbered (is_glyph g) earlier)) [
      | inl old ↦ let none : Err F10 ≡ Ok x = rw old at named.2 in cc
      | inr fresh ↦
          let rest : ok_or (option_map (made_entry (Glyph g)) body) F7 ≡ Ok x = rw fresh at named.2 in
          let b = made (Glyph g) body x rest in
          subst (IsTaken l ls) b.2 (ap more_lines b.1, (b.0, b.1, refl))
    ]

subr_taken : (earlier : List NumberedItem) (t l : List ℕ) (ls : List (List ℕ)) (x : Taken) → subr_entry earlier t (opened_body l ls) ≡ Ok x → IsTaken l ls x
unfolding subr_entry
subr_taken earlier t l ls x e =
    let body = opened_body l ls in
    let numbered = bind_ok (ok_or (up_to 32000 (decimal_of t)) F8) (λ n. if has_numbered (is_subr n) earlier then Err F9 else ok_or (option_map (made_entry (Subr n)) body) F7) x e in
    let n = numbered.0 in
    elim (cases_Bool (has_numbered (is_subr n) earlier)) [
      | inl old ↦ let none : Err F9 ≡ Ok x = rw old at numbered.2 in cc
      | inr fresh ↦
          let rest : ok_or (option_map (made_entry (Subr n)) body) F7 ≡ Ok x = rw fresh at numbered.2 in
          let b = made (Subr n) body x rest in
          subst (IsTaken l ls) b.2 (ap more_lines b.1, (b.0, b.1, refl))
    ]

line_taken : (earlier : List NumberedItem) (l : List ℕ) (ls : List (List ℕ)) (o p : Option (ℕ × List ℕ)) (x : Taken)
    → line_item earlier l (option_map (section_at l) o) (option_map (section_at l) p) ≡ Ok x → IsTaken l ls x
unfolding line_item
line_taken earlier l ls None None x e =
    let same : ◌≡◌ {A = Taken} (Plain l, 0) x = cc in
    subst (IsTaken l ls) same (refl, tt)
line_taken earlier l ls (Some s) None x e =
    elim (cases_Bool (has_numbered is_subrs_line earlier || has_numbered is_glyphs_line earlier)) [
      | inl late ↦ let none : Err F4 ≡ Ok x = rw late at e in cc
      | inr first ↦
          let here : ◌≡◌ {A = Result Taken Code} (Ok (section_at l s, 0)) (Ok x) = rw first at e in
          let same : ◌≡◌ {A = Taken} (section_at l s, 0) x = cc in
          subst (IsTaken l ls) same (refl, tt)
    ]
line_taken earlier l ls None (Some s) x e =
    elim (cases_Bool (has_numbered is_glyphs_line earlier)) [
      | inl late ↦ let none : Err F4 ≡ Ok x = rw late at e in cc
      | inr first ↦
          let here : ◌≡◌ {A = Result Taken Code} (Ok (section_at l s, 0)) (Ok x) = rw first at e in
          let same : ◌≡◌ {A = Taken} (section_at l s, 0) x = cc in
          subst (IsTaken l ls) same (refl, tt)
    ]
line_taken earlier l ls (Some s) (Some t) x e = cc

line_of_parts : (earlier : List NumberedItem) (l : List ℕ) (ls : List (List ℕ)) (x : Taken) → line_item earlier l (subrs_line l) (glyphs_line l) ≡ Ok x → IsTaken l ls x
line_of_parts earlier l ls x e =
    line_taken earlier l ls (count_between (codes "/Subrs") (codes "array") (places_from 0 l)) (count_between (codes "/CharStrings") (codes "dict") (places_from 0 l)) x e

among_glyphs_taken : (earlier : List NumberedItem) (l : List ℕ) (ls : List (List ℕ)) (o : Option (List ℕ)) (x : Taken) → among_glyphs earlier l ls o ≡ Ok x → IsTaken l ls x
among_glyphs_taken earlier l ls None x e = line_of_parts earlier l ls x e
among_glyphs_taken earlier l ls (Some t) x e = glyph_taken earlier t l ls x e

among_subrs_taken : (earlier : List NumberedItem) (l : List ℕ) (ls : List (List ℕ)) (o : Option (List ℕ)) (x : Taken) → among_subrs earlier l ls o ≡ Ok x → IsTaken l ls x
among_subrs_taken earlier l ls None x e = line_of_parts earlier l ls x e
among_subrs_taken earlier l ls (Some t) x e = subr_taken earlier t l ls x e

item_taken : (earlier : List NumberedItem) (l : List ℕ) (ls : List (List ℕ)) (x : Taken) → item_in_front earlier l ls ≡ Ok x → IsTaken l ls x
unfolding item_in_front
item_taken earlier l ls x e =
    elim (cases_Bool (has_numbered is_glyphs_line earlier)) [
      | inl glyphs ↦ among_glyphs_taken earlier l ls (opens_glyph (tokens l)) x (rw glyphs at e)
      | inr no_glyphs ↦ elim (cases_Bool (has_numbered is_subrs_line earlier)) [
        | inl subrs ↦ among_subrs_taken earlier l ls (opens_subr (tokens l)) x (rw (no_glyphs, subrs) at e)
        | inr no_subrs ↦ line_of_parts earlier l ls x (rw (no_glyphs, no_subrs) at e)
      ]
    ]

-- ---- the entries of items

-- these are the entries of the items, each with the place and the words of its item
abbrev pub AreOf : List Item → List Entry → Type 0
AreOf [] [] = Unit {0}
AreOf [] (e ∷ es) = ⊥
AreOf (Plain l ∷ items) es = AreOf items es
AreOf (Section before n after ∷ items) es = AreOf items es
AreOf (Subr n words closing ∷ items) [] = ⊥
AreOf (Subr n words closing ∷ items) (e ∷ es) = (e.place ≡ places.Subr n) × (map (λ w. w.word) (placed_words e) ≡ words) × AreOf items es
AreOf (Glyph g words closing ∷ items) [] = ⊥
AreOf (Glyph g words closing ∷ items) (e ∷ es) = (e.place ≡ places.Glyph g) × (map (λ w. w.word) (placed_words e) ≡ words) × AreOf items es

one_more : (n : ℕ) (l : List ℕ) (ls : List (List ℕ)) (item : Item) (items : List Item) (es : List Entry) → HasWords item l ls → AreOf items es
    → AreOf (item ∷ items) (entry_at (place_in item) n l ls ++ es)
one_more n l ls (Plain line) items es h k = k
one_more n l ls (Section before count after) items es h k = k
one_more n l ls (Subr number words closing) items es h k = (refl, opened_as n l ls h.0 h.1 ∙ h.2, k)
one_more n l ls (Glyph g words closing) items es h k = (refl, opened_as n l ls h.0 h.1 ∙ h.2, k)

-- so are those of items that are read after earlier ones, some lines belonging to the last of these
abbrev pub ReadOn : List NumberedItem → ℕ → ℕ → List (List ℕ) → List NumberedItem → Type 0
ReadOn earlier n more ls all =
    (new : List NumberedItem) × (all ≡ earlier ++ new) × AreOf (unnumbered new) (entries_from (n + more) (drop more ls) (unnumbered new))

pub read_on : (earlier : List NumberedItem) (n more : ℕ) (ls : List (List ℕ)) (all : List NumberedItem) → items_after earlier n more ls ≡ Ok all → ReadOn earlier n more ls all
read_on earlier n more [] all e = let same : earlier ≡ all = cc in ([], sym same ∙ sym (append-nil earlier), tt)
read_on earlier n (suc more) (l ∷ ls) all e =
    let r = read_on earlier (n + 1) more ls all e in
    let same : n + 1 + more ≡ n + suc more = omega arith in
    (r.0, r.1, subst (λ k. AreOf (unnumbered r.0) (entries_from k (drop more ls) (unnumbered r.0))) same r.2)
read_on earlier n zero (l ∷ ls) all e =
    let b = bind_ok (reported_at (places.Line n) (item_in_front earlier l ls)) (λ (x : Taken). items_after (earlier ++ (n, x.0) ∷ []) (n + 1) x.1 ls) all e in
    let x = b.0 in
    let t = item_taken earlier l ls x (reported_ok (places.Line n) (item_in_front earlier l ls) x b.1) in
    let r = read_on (earlier ++ (n, x.0) ∷ []) (n + 1) x.1 ls all b.2 in
    let zero_more : n ≡ n + 0 = omega arith in
    let es = subst (λ k. AreOf (unnumbered r.0) (entries_from (n + 1 + k) (drop k ls) (unnumbered r.0))) (sym t.0) r.2 in (
      (n, x.0) ∷ r.0,
      r.1 ∙ append_assoc earlier ((n, x.0) ∷ []) r.0,
      subst (λ k. AreOf (x.0 ∷ unnumbered r.0) (entries_from k (l ∷ ls) (x.0 ∷ unnumbered r.0))) zero_more
          (one_more n l ls x.0 (unnumbered r.0) (entries_from (n + 1 + span (place_in x.0) l ls) (drop (span (place_in x.0) l ls) ls) (unnumbered r.0)) t.1 es),
    )
