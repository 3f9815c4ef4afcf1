-- A source that was read is kept.
use Rattle.std.proofs.Common.{◌≡◌, ℕ, suc, Bool, true, not, ◌==◌, ◌+◌, ◌-◌, ◌<◌, nat_lt, if◌then◌else◌, Option, None, Some, is_some, option_map, Result, Ok, ok_or, List, [], ◌∷◌, ◌++◌, length, take, drop, map, filter_map, codes, refl, sym, ◌∙◌, ap, inl, inr, arith, length-append}
use Rattle.std.specs.List.{list_all, list_any, onto_first, position, position_or_len, cons_option}
use Rattle.std.proofs.lemmas.Bool.{and_parts, and_from, cases_Bool, ltb-true, not-true}
use Rattle.std.proofs.lemmas.List.{map-append}
use Rattle.std.proofs.Math.Seq.{drop-append_seam, take-append_seam}
use Rattle.t1_frac.specs.declared.fault.Code.TheVariants.{F1, F2, F11}
use Rattle.t1_frac.specs.declared.fault.Fault.{Fault}
use Rattle.t1_frac.specs.declared.fault.Place.TheVariants.{Nowhere, Line}
use Rattle.t1_frac.specs.Outcome.{fault_at, ◌>>=◌}
use Rattle.t1_parts.specs.declared.item.Item.{Item}
use Rattle.t1_parts.specs.declared.item.Item.TheVariants.{Plain, Section, Subr, Glyph}
use Rattle.t1_parts.specs.SourceParts.{SourceParts}
use Rattle.t1_text.specs.Lines.{begins_with, unified, split_lines, lines, is_line, is_line_end}
use Rattle.t1_parts.specs.Encoding.{clear_check}
use Rattle.t1_parts.specs.Sections.{is_glyphs_line}
use Rattle.t1_parts.specs.Entries.{NumberedItem, has_numbered}
use Rattle.t1_parts.specs.Private.{items_of, private_items}
use Rattle.t1_parts.specs.Parts.{ThreeParts, parts_of, is_eexec, is_closefile, is_zeros, holds, tail_of}
use Rattle.t1_parts.specs.LenIV.{said_lead, said_with_line, lead_check, lead_of_token}
use Rattle.t1_parts.specs.Counts.{subrs_needed, glyphs_needed, raised_item, raised}
use Rattle.t1_parts.specs.Reading.{unnumbered, whole_check, reads_lines, reads}
use Rattle.t1_source.specs.WellFormed.{is_inner, says_lead_well, Stand, IsPrivate, IsWellFormed}
use Rattle.t1_parts.proofs.TailLaws.{tail_again}
use Rattle.t1_parts.proofs.CountLaws.{raised_again}
use Rattle.t1_frac.proofs.OutcomeLaws.{bind_ok}
use Rattle.t1_source.proofs.PrintedLaws.{inner_from}
use Rattle.t1_source.proofs.ItemsAgainLaws.{has_item}
use Rattle.t1_source.proofs.SourceAgainLaws.{Ends, checked}
use Rattle.t1_source.proofs.StandLaws.{stand_raised, serves_itself, raised_test, raised_glyphs}
use Rattle.t1_source.proofs.WellFormedBodyLaws.{all_take, all_drop}
use Rattle.t1_source.proofs.WellFormedItemsLaws.{read_stand, given_some}

-- a text whose line ends are LF has no CR
no_cr : (bytes : List ℕ) → list_all (λ c. not (c == 13)) (unified bytes) ≡ true
no_cr [] = refl
no_cr (c ∷ rest) =
    elim (cases_Bool (c == 13)) [
      | inl cr ↦ elim (cases_Bool (begins_with 10 rest)) [
        | inl lf ↦ rw (cr, lf) (no_cr rest)
        | inr alone ↦ rw (cr, alone) (no_cr rest)
      ]
      | inr other ↦ rw other (rw other (no_cr rest))
    ]

onto_line : (c : ℕ) (ls : List (List ℕ)) → not (is_line_end c) ≡ true → list_all is_line ls ≡ true → list_all is_line (onto_first c ls) ≡ true
onto_line c [] h hs = and_from (is_line (c ∷ [])) true (and_from (not (is_line_end c)) true h refl) refl
onto_line c (l ∷ ls) h hs =
    let parts = and_parts (is_line l) (list_all is_line ls) hs in
    and_from (is_line (c ∷ l)) (list_all is_line ls) (and_from (not (is_line_end c)) (is_line l) h parts.0) parts.1

split_are_lines : (bytes : List ℕ) → list_all (λ c. not (c == 13)) bytes ≡ true → list_all is_line (split_lines bytes) ≡ true
split_are_lines [] h = refl
split_are_lines (c ∷ rest) h =
    let parts = and_parts (not (c == 13)) (list_all (λ b. not (b == 13)) rest) h in
    let more = split_are_lines rest parts.1 in
    elim (cases_Bool (c == 10)) [
      | inl lf ↦ rw lf more
      | inr other ↦
          let stays : not (is_line_end c) ≡ true = rw (other, not-true (c == 13) parts.0) refl in
          rw other (onto_line c (split_lines rest) stays more)
    ]

-- the lines of a text are lines
pub lines_are_lines : (bytes : List ℕ) → list_all is_line (lines bytes) ≡ true
lines_are_lines bytes = split_are_lines (unified bytes) (no_cr bytes)

-- the lines through the first one that passes a test
take_ends : (test : List ℕ → Bool) (ls : List (List ℕ)) → position_or_len test ls < length ls → Ends test (take (position_or_len test ls + 1) ls)
take_ends test [] h = absurd (omega arith)
take_ends test (l ∷ ls) h =
    elim (cases_Bool (test l)) [
      | inl on ↦ rw on (rw on refl)
      | inr off ↦
          let more : position_or_len test ls < length ls = (let here : 1 + position_or_len test ls < length (l ∷ ls) = rw off at h in omega (arith, here)) in
          let step : position_or_len test (l ∷ ls) + 1 ≡ suc (position_or_len test ls + 1) = (let here : position_or_len test (l ∷ ls) ≡ 1 + position_or_len test ls = rw off refl in omega (arith, here)) in
          let rest = take (position_or_len test ls + 1) ls in
          let longer : Ends test (l ∷ rest) = rw off (omega (arith, take_ends test ls more)) in
          rw step longer
    ]

place_given : (test : List ℕ → Bool) (ls : List (List ℕ)) (at : ℕ) → position test ls ≡ Some at → (position_or_len test ls < length ls) × (position_or_len test ls ≡ at)
place_given test ls at e =
    elim (cases_Bool (nat_lt (position_or_len test ls) (length ls))) [
      | inl within ↦
          let here : Some (position_or_len test ls) ≡ Some at = rw within at e in
          (ltb-true (position_or_len test ls) (length ls) within, cc)
      | inr outside ↦ let none : None ≡ Some at = rw outside at e in cc
    ]

taken_ends : (test : List ℕ → Bool) (ls : List (List ℕ)) (at : ℕ) → position test ls ≡ Some at → Ends test (take (at + 1) ls)
taken_ends test ls at e = let p = place_given test ls at e in rw (← p.1) (take_ends test ls p.0)

-- the parts of lines
record PartsAreWellFormed (p : ThreeParts) : Type 0 where
  clear : list_all is_line p.clear ≡ true
  private : list_all is_line p.private ≡ true
  tail : list_all is_line p.tail ≡ true
  eexec : Ends is_eexec p.clear
  closefile : Ends is_closefile p.private

parts_well_formed : (ls : List (List ℕ)) (p : ThreeParts) → list_all is_line ls ≡ true → parts_of ls ≡ Ok p → PartsAreWellFormed p
unfolding parts_of
parts_well_formed ls p h e =
    let first = bind_ok (ok_or (position is_eexec ls) (fault_at Nowhere F1)) (λ eexec. ok_or (position is_closefile (drop (eexec + 1) ls)) (fault_at Nowhere F2) >>= λ closefile. Ok (record {
      clear = take (eexec + 1) ls;
      private = take (closefile + 1) (drop (eexec + 1) ls);
      tail = drop (closefile + 1) (drop (eexec + 1) ls);
    })) p e in
    let rest = drop (first.0 + 1) ls in
    let second = bind_ok (ok_or (position is_closefile rest) (fault_at Nowhere F2)) (λ closefile. Ok (record { clear = take (first.0 + 1) ls; private = take (closefile + 1) rest; tail = drop (closefile + 1) rest })) p first.2 in
    let whole : Ok (record { clear = take (first.0 + 1) ls; private = take (second.0 + 1) rest; tail = drop (second.0 + 1) rest }) ≡ Ok p = second.2 in
    let same : record { clear = take (first.0 + 1) ls; private = take (second.0 + 1) rest; tail = drop (second.0 + 1) rest } ≡ p = cc in
    let later = all_drop is_line (first.0 + 1) ls h in
    rw (← same) (record {
      clear = all_take is_line (first.0 + 1) ls h;
      private = all_take is_line (second.0 + 1) rest later;
      tail = all_drop is_line (second.0 + 1) rest later;
      eexec = taken_ends is_eexec ls first.0 (given_some (position is_eexec ls) (fault_at Nowhere F1) first.0 first.1);
      closefile = taken_ends is_closefile rest second.0 (given_some (position is_closefile rest) (fault_at Nowhere F2) second.0 second.1);
    })

-- the lines before the closefile line, and that
record Inner (ls : List (List ℕ)) : Type 0 where
  front : List (List ℕ)
  last : List ℕ
  whole : ls ≡ front ++ last ∷ []
  inner : list_all is_inner front ≡ true
  line : is_line last ≡ true
  closes : is_closefile last ≡ true

inner_of : (ls : List (List ℕ)) → list_all is_line ls ≡ true → Ends is_closefile ls → Inner ls
inner_of [] h e = absurd (omega (arith, e))
inner_of (l ∷ ls) h e =
    let parts = and_parts (is_line l) (list_all is_line ls) h in
    elim (cases_Bool (is_closefile l)) [
      | inl on ↦
          let size : 0 + 1 ≡ length (l ∷ ls) = rw on at e in
          let none : ls ≡ [] = no_more ls (omega (arith, size)) in
          record { front = []; last = l; whole = ap (λ t. l ∷ t) none; inner = refl; line = parts.0; closes = on }
      | inr off ↦
          let more : Ends is_closefile ls = (let here : 1 + position_or_len is_closefile ls + 1 ≡ length (l ∷ ls) = rw off at e in omega (arith, here)) in
          let r = inner_of ls parts.1 more in
          record {
            front = l ∷ r.front;
            last = r.last;
            whole = ap (λ t. l ∷ t) r.whole;
            inner = and_from (is_inner l) (list_all is_inner r.front) (inner_from l parts.0 off) r.inner;
            line = r.line;
            closes = r.closes;
          }
    ]
  where
    no_more : (xs : List (List ℕ)) → length xs ≡ 0 → xs ≡ []
    no_more [] k = refl
    no_more (x ∷ xs) k = absurd (omega (arith, k))

-- the fault-free items of a private part
record ItemsAreWellFormed (items : List Item) : Type 0 where
  inner : List Item
  last : List ℕ
  whole : items ≡ inner ++ Plain last ∷ []
  stand : Stand [] inner
  line : is_line last ≡ true
  closes : is_closefile last ≡ true

items_well_formed : (n : ℕ) (ls : List (List ℕ)) (items : List NumberedItem) → list_all is_line ls ≡ true → Ends is_closefile ls → private_items n ls ≡ Ok items → ItemsAreWellFormed (unnumbered items)
unfolding private_items
items_well_formed n ls items h ends e =
    let p = inner_of ls h ends in
    let k = length ls - 1 in
    let one_less : k ≡ length p.front = omega (arith, ap length p.whole, length-append p.front (p.last ∷ [])) in
    let front : take k ls ≡ p.front = ap (λ j. take j ls) one_less ∙ ap (take (length p.front)) p.whole ∙ take-append_seam p.front (p.last ∷ []) in
    let back : drop k ls ≡ p.last ∷ [] = ap (λ j. drop j ls) one_less ∙ ap (drop (length p.front)) p.whole ∙ drop-append_seam p.front (p.last ∷ []) in
    let step = bind_ok (items_of n (take k ls)) (λ its. Ok (its ++ map (λ l. (n + k, Plain l)) (drop k ls))) items e in
    let read : items_of n p.front ≡ Ok step.0 = ap (items_of n) (sym front) ∙ step.1 in
    let whole : ◌≡◌ {A = Result (List NumberedItem) Fault} (Ok (step.0 ++ map (λ l. (n + k, Plain l)) (drop k ls))) (Ok items) = step.2 in
    let same : step.0 ++ map (λ l. (n + k, Plain l)) (drop k ls) ≡ items = cc in
    record {
      inner = unnumbered step.0;
      last = p.last;
      whole = ap unnumbered (sym same) ∙ ap (λ t. unnumbered (step.0 ++ map (λ l. (n + k, Plain l)) t)) back ∙ map-append (λ i. i.1) step.0 ((n + k, Plain p.last) ∷ []);
      stand = read_stand n p.front step.0 p.inner read;
      line = p.line;
      closes = p.closes;
    }

-- what the items say of lenIV
lead_given : (o : Option ℕ) (f : Fault) → checked (ok_or o f) ≡ Ok tt → is_some o ≡ true
lead_given None f e = cc
lead_given (Some k) f e = refl

lead_said : (n : ℕ) (o : Option (Option (List ℕ))) (said : List (ℕ × Option (List ℕ))) (ts : List (Option (List ℕ))) → checked (lead_check (cons_option (option_map (λ t. (n, t)) o) said)) ≡ Ok tt
    → (checked (lead_check said) ≡ Ok tt → list_all (λ t. is_some (lead_of_token t)) (take 1 ts) ≡ true)
    → list_all (λ t. is_some (lead_of_token t)) (take 1 (cons_option o ts)) ≡ true
lead_said n None said ts e more = more e
lead_said n (Some t) said ts e more = and_from (is_some (lead_of_token t)) true (lead_given (lead_of_token t) (fault_at (Line n) F11) e) refl

lead_well_formed : (ns : List NumberedItem) → checked (lead_check (filter_map said_with_line ns)) ≡ Ok tt → says_lead_well (unnumbered ns) ≡ true
lead_well_formed [] e = refl
lead_well_formed (i ∷ ns) e = lead_said i.0 (said_lead i.1) (filter_map said_with_line ns) (filter_map said_lead (unnumbered ns)) e (λ more. lead_well_formed ns more)

whole_well_formed : (ns : List NumberedItem) → whole_check ns ≡ Ok tt → (list_any is_glyphs_line (unnumbered ns) ≡ true) × (says_lead_well (unnumbered ns) ≡ true)
unfolding whole_check
whole_well_formed ns e =
    elim (cases_Bool (has_numbered is_glyphs_line ns)) [
      | inl on ↦ (sym (has_item is_glyphs_line ns) ∙ on, lead_well_formed ns (rw on at e))
      | inr off ↦ let none = rw off at e in cc
    ]

-- raised counts say nothing of lenIV
pub raised_said : (s g : ℕ) (items : List Item) → filter_map said_lead (map (raised_item s g) items) ≡ filter_map said_lead items
raised_said s g [] = refl
raised_said s g (Plain l ∷ items) = ap (cons_option (said_lead (Plain l))) (raised_said s g items)
raised_said s g (Section before n after ∷ items) = raised_said s g items
raised_said s g (Subr n ws closing ∷ items) = raised_said s g items
raised_said s g (Glyph h ws closing ∷ items) = raised_said s g items

-- items whose counts are raised
pub private_well_formed : (items : List Item) (inner : List Item) (last : List ℕ) → items ≡ inner ++ Plain last ∷ [] → Stand [] inner → is_line last ≡ true → is_closefile last ≡ true
    → list_any is_glyphs_line items ≡ true → says_lead_well items ≡ true → IsPrivate (raised items)
private_well_formed items inner last whole stand line closes section lead =
    let s = subrs_needed items in
    let g = glyphs_needed items in
    record {
      inner = map (raised_item s g) inner;
      closefile = last;
      whole = ap (map (raised_item s g)) whole ∙ map-append (raised_item s g) inner (Plain last ∷ []);
      stand = stand_raised s g [] [] inner (serves_itself [] inner) stand;
      line = line;
      last = closes;
      section = sym (raised_test is_glyphs_line s g (raised_glyphs s g) items) ∙ section;
      lead = ap (λ t. list_all (λ o. is_some (lead_of_token o)) (take 1 t)) (raised_said s g items) ∙ lead;
      counts = raised_again items;
    }

-- the lines of a tail
tail_lines : (ls : List (List ℕ)) → list_all is_line ls ≡ true → list_all is_line (filter_map (λ l. if is_zeros l then None else Some l) ls) ≡ true
tail_lines [] h = refl
tail_lines (l ∷ ls) h =
    let parts = and_parts (is_line l) (list_all is_line ls) h in
    elim (cases_Bool (is_zeros l)) [
      | inl zeros ↦ rw zeros (tail_lines ls parts.1)
      | inr other ↦ rw other (and_from (is_line l) (list_all is_line (filter_map (λ k. if is_zeros k then None else Some k) ls)) parts.0 (tail_lines ls parts.1))
    ]

tail_well_formed : (ls : List (List ℕ)) → list_all is_line ls ≡ true → list_all is_line (tail_of ls) ≡ true
unfolding tail_of
tail_well_formed ls h =
    let kept = filter_map (λ l. if is_zeros l then None else Some l) ls in
    elim (cases_Bool (list_any (holds (codes "cleartomark")) kept)) [
      | inl there ↦ rw there (tail_lines ls h)
      | inr none ↦ rw none (tail_lines ls h)
    ]

-- a source that is made of parts without faults
pub made_well_formed : (ls : List (List ℕ)) (p : ThreeParts) (ns : List NumberedItem) (clear : List (List ℕ)) (items : List Item) (tail : List (List ℕ)) → parts_of ls ≡ Ok p → private_items (length p.clear + 1) p.private ≡ Ok ns → whole_check ns ≡ Ok tt → clear_check p.clear ≡ Ok tt → list_all is_line ls ≡ true
    → clear ≡ p.clear → items ≡ raised (unnumbered ns) → tail ≡ tail_of p.tail → IsWellFormed (record { clear = clear; items = items; tail = tail })
made_well_formed ls p ns clear items tail cut read whole_ok clear_ok h is_clear is_items is_tail =
    let parts = parts_well_formed ls p h cut in
    let private = items_well_formed (length p.clear + 1) p.private ns parts.private parts.closefile read in
    let whole = whole_well_formed ns whole_ok in
    rw (is_clear, is_items, is_tail) (record {
      clear = (parts.clear, parts.eexec, clear_ok);
      items = private_well_formed (unnumbered ns) private.inner private.last private.whole private.stand private.line private.closes whole.0 whole.1;
      lines = tail_well_formed p.tail parts.tail;
      tail = tail_again p.tail;
    })

-- what a source that was read is made of
pub record TakenApart (ls : List (List ℕ)) (s : SourceParts) : Type 0 where
  pub parts : ThreeParts
  pub items : List NumberedItem
  pub cut : parts_of ls ≡ Ok parts
  pub encoded : clear_check parts.clear ≡ Ok tt
  pub read : private_items (length parts.clear + 1) parts.private ≡ Ok items
  pub whole : whole_check items ≡ Ok tt
  pub same : ◌≡◌ {A = SourceParts} (record { clear = parts.clear; items = raised (unnumbered items); tail = tail_of parts.tail }) s

pub taken_apart : (ls : List (List ℕ)) (s : SourceParts) → reads_lines ls ≡ Ok s → TakenApart ls s
unfolding reads_lines
taken_apart ls s e =
    let first = bind_ok (parts_of ls) (λ parts. clear_check parts.clear >>= λ encoded. private_items (length parts.clear + 1) parts.private >>= λ items. whole_check items >>= λ whole.
    Ok (record { clear = parts.clear; items = raised (unnumbered items); tail = tail_of parts.tail })) s e in
    let p = first.0 in
    let second = bind_ok (clear_check p.clear) (λ encoded. private_items (length p.clear + 1) p.private >>= λ items. whole_check items >>= λ whole.
    Ok (record { clear = p.clear; items = raised (unnumbered items); tail = tail_of p.tail })) s first.2 in
    let third = bind_ok (private_items (length p.clear + 1) p.private) (λ items. whole_check items >>= λ whole. Ok (record { clear = p.clear; items = raised (unnumbered items); tail = tail_of p.tail })) s second.2 in
    let ns = third.0 in
    let fourth = bind_ok (whole_check ns) (λ whole. Ok (record { clear = p.clear; items = raised (unnumbered ns); tail = tail_of p.tail })) s third.2 in
    let made : SourceParts = record { clear = p.clear; items = raised (unnumbered ns); tail = tail_of p.tail } in
    let last : ◌≡◌ {A = Result SourceParts Fault} (Ok made) (Ok s) = fourth.2 in
    let same : made ≡ s = cc in
    record { parts = p; items = ns; cut = first.1; encoded = second.1; read = third.1; whole = fourth.1; same = same }

lines_well_formed : (ls : List (List ℕ)) (s : SourceParts) → list_all is_line ls ≡ true → reads_lines ls ≡ Ok s → IsWellFormed s
lines_well_formed ls s h e =
    let t = taken_apart ls s e in
    rw (← t.same) (made_well_formed ls t.parts t.items t.parts.clear (raised (unnumbered t.items)) (tail_of t.parts.tail) t.cut t.read t.whole t.encoded h refl refl refl)

-- a source that was read is kept
pub source_well_formed : (bytes : List ℕ) (s : SourceParts) → reads bytes ≡ Ok s → IsWellFormed s
unfolding reads
source_well_formed bytes s e = lines_well_formed (lines bytes) s (lines_are_lines bytes) e
