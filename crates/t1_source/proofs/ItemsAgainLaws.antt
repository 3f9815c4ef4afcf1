-- Printed items, read again.
use Rattle.std.proofs.Common.{◌≡◌, ℕ, Bool, true, false, ◌&&◌, ◌||◌, ◌+◌, ◌-◌, ◌^◌, ◌<◌, Option, None, Some, is_some, Ok, List, [], ◌∷◌, ◌++◌, length, map, codes, refl, sym, ◌∙◌, ap, inl, inr, arith, append_assoc, length-append}
use Rattle.std.specs.List.{list_all, list_any, flat_map}
use Rattle.std.specs.Fmt.{decimal}
use Rattle.std.proofs.lemmas.Bool.{and_parts, and_from, cases_Bool, ltb-true}
use Rattle.std.proofs.lemmas.List.{length-map, map-append, append-nil}
use Rattle.std.proofs.lemmas.List.Folds.{list_all-append}
use Rattle.std.proofs.Math.Seq.{drop-append_seam, take-append_seam}
use Rattle.t1_frac.specs.declared.fault.Place.TheVariants.{Line}
use Rattle.t1_frac.specs.Outcome.{reported_at}
use Rattle.t1_parts.specs.declared.item.Item.{Item}
use Rattle.t1_parts.specs.declared.item.Item.TheVariants.{Plain, Section, Subr, Glyph}
use Rattle.t1_text.specs.Tokens.{tokens}
use Rattle.t1_frac.specs.Numbers.{decimal_value}
use Rattle.t1_parts.specs.Sections.{subrs_line, glyphs_line, is_subrs_line, is_glyphs_line}
use Rattle.t1_parts.specs.Entries.{NumberedItem, has_numbered, is_subr, is_glyph, opens_subr, opens_glyph}
use Rattle.t1_parts.specs.Private.{line_item, line_read, item_in_front, items_of, private_items}
use Rattle.t1_parts.specs.Reading.{unnumbered}
use Rattle.t1_parts.specs.Printing.{item_lines, body_line, last_line, word_groups}
use Rattle.t1_source.specs.WellFormed.{is_inner, opens_entry, IsSectionLine, Stands, Stand, is_counted}
use Rattle.t1_text.proofs.NumberLaws.{decimal_spells}
use Rattle.t1_parts.proofs.EntryLaws.{subr_again, glyph_again}
use Rattle.t1_parts.proofs.ItemLaws.{items_from, read_step}
use Rattle.t1_source.proofs.SectionLineLaws.{section_again}
use Rattle.t1_source.proofs.PrintedLaws.{decimal_count, inner_other, entry_inner, subr_inner, glyph_inner}

pub and_off : (a b : Bool) → a ≡ true → (a && b) ≡ false → b ≡ false
and_off a b on h = let rest : b ≡ false = rw on at h in rest

-- a test of numbered items is one of the items
pub has_item : (test : Item → Bool) (items : List NumberedItem) → has_numbered test items ≡ list_any test (unnumbered items)
has_item test [] = refl
has_item test (i ∷ items) = ap (λ b. test i.1 || b) (has_item test items)

none_opens : (o : Option (List ℕ)) → is_some o ≡ false → o ≡ None
none_opens None h = refl
none_opens (Some t) h = cc

-- a line that opens no entry
pub no_entry : (earlier : List NumberedItem) (l : List ℕ) (ls : List (List ℕ)) → opens_entry (unnumbered earlier) l ≡ false → item_in_front earlier l ls ≡ line_read earlier l
unfolding item_in_front
no_entry earlier l ls off =
    let glyphs_here = has_item is_glyphs_line earlier in
    let subrs_here = has_item is_subrs_line earlier in
    elim (cases_Bool (list_any is_glyphs_line (unnumbered earlier))) [
      | inl glyphs ↦
          let none : opens_glyph (tokens l) ≡ None = none_opens (opens_glyph (tokens l)) (rw glyphs at off) in
          let on : has_numbered is_glyphs_line earlier ≡ true = glyphs_here ∙ glyphs in
          rw (on, none) refl
      | inr no_glyphs ↦
          let rest : (list_any is_subrs_line (unnumbered earlier) && is_some (opens_subr (tokens l))) ≡ false = rw no_glyphs at off in
          let no : has_numbered is_glyphs_line earlier ≡ false = glyphs_here ∙ no_glyphs in
          elim (cases_Bool (list_any is_subrs_line (unnumbered earlier))) [
            | inl subrs ↦
                let none : opens_subr (tokens l) ≡ None = none_opens (opens_subr (tokens l)) (and_off (list_any is_subrs_line (unnumbered earlier)) (is_some (opens_subr (tokens l))) subrs rest) in
                let on : has_numbered is_subrs_line earlier ≡ true = subrs_here ∙ subrs in
                rw (no, on, none) refl
            | inr no_subrs ↦
                let also : has_numbered is_subrs_line earlier ≡ false = subrs_here ∙ no_subrs in
                rw (no, also) refl
          ]
    ]

-- a plain line and a section line
plain_line : (earlier : List NumberedItem) (l : List ℕ) → subrs_line l ≡ None → glyphs_line l ≡ None → line_read earlier l ≡ Ok (Plain l, 0)
unfolding line_item
plain_line earlier l p q = rw (p, q) refl

section_line : (earlier : List NumberedItem) (s : Item) (l : List ℕ) → IsSectionLine (unnumbered earlier) s l → line_read earlier l ≡ Ok (s, 0)
unfolding line_item
section_line earlier s l h =
    let no : has_numbered is_glyphs_line earlier ≡ false = has_item is_glyphs_line earlier ∙ h.0 in
    elim h.1 [
      | inl subrs ↦
          let also : has_numbered is_subrs_line earlier ≡ false = has_item is_subrs_line earlier ∙ subrs.2 in
          rw (subrs.0, subrs.1, also, no) refl
      | inr glyphs ↦ rw (glyphs.0, glyphs.1, no) refl
    ]

-- an item whose printed lines are read as it was, whatever follows them
pub record Again (earlier : List NumberedItem) (i : Item) : Type 0 where
  pub head : List ℕ
  pub others : List (List ℕ)
  pub lines : item_lines i ≡ head ∷ others
  pub read : (ls : List (List ℕ)) → item_in_front earlier head (others ++ ls) ≡ Ok (i, length others)
  pub inner : list_all is_inner (head ∷ others) ≡ true

body_count : (ws : List (List ℕ)) (closing : List ℕ) → 1 + length (word_groups ws) ≡ length (map body_line (word_groups ws) ++ last_line closing ∷ [])
body_count ws closing = omega (arith, length-append (map body_line (word_groups ws)) (last_line closing ∷ []), length-map (word_groups ws) body_line)

pub again : (earlier : List NumberedItem) (i : Item) → Stands (unnumbered earlier) i → is_counted i ≡ true → Again earlier i
again earlier (Plain l) h small =
    record {
      head = l;
      others = [];
      lines = refl;
      read = λ ls. no_entry earlier l ls h.1 ∙ plain_line earlier l h.2 h.3;
      inner = and_from (is_inner l) true h.0 refl;
    }
again earlier (Section before n after) h small =
    let below : n < 10 ^ 9 = ltb-true n (10 ^ 9) small in
    let counted = decimal_count n below in
    let r = section_again (unnumbered earlier) before 0 after (before ++ 48 ∷ after) h.2 h.1 in
    let other = r.other (decimal n) counted in
    let value : decimal_value (decimal n) ≡ n = (decimal_spells n (omega arith)).1 in
    let split : (before ++ decimal n) ++ after ≡ before ++ (decimal n ++ after) = append_assoc before (decimal n) after in
    let section : IsSectionLine (unnumbered earlier) (Section before n after) (before ++ (decimal n ++ after)) = rw value at other.1 in
    record {
      head = before ++ (decimal n ++ after);
      others = [];
      lines = ap (λ l. l ∷ []) split;
      read = λ ls. no_entry earlier (before ++ (decimal n ++ after)) ls other.0 ∙ section_line earlier (Section before n after) (before ++ (decimal n ++ after)) section;
      inner = and_from (is_inner (before ++ (decimal n ++ after))) true (inner_other before after (48 ∷ []) (decimal n) refl counted h.0) refl;
    }
again earlier (Subr n ws closing) h small =
    let entry = h.4 in
    let head = codes "dup " ++ (decimal n ++ codes " {") in
    record {
      head = head;
      others = map body_line (word_groups ws) ++ last_line closing ∷ [];
      lines = refl;
      read = λ ls.
          ap (item_in_front earlier head) (append_assoc (map body_line (word_groups ws)) (last_line closing ∷ []) ls)
          ∙ subr_again earlier n ws closing ls (has_item is_glyphs_line earlier ∙ h.0) (has_item is_subrs_line earlier ∙ h.1) (has_item (is_subr n) earlier ∙ h.2) h.3 entry.0 entry.2
          ∙ ap (λ k. Ok (Subr n ws closing, k)) (body_count ws closing);
      inner = entry_inner head ws closing (subr_inner n (omega (arith, h.3))) entry;
    }
again earlier (Glyph g ws closing) h small =
    let entry = h.3 in
    let head = 47 ∷ (g ++ codes " {") in
    record {
      head = head;
      others = map body_line (word_groups ws) ++ last_line closing ∷ [];
      lines = refl;
      read = λ ls.
          ap (item_in_front earlier head) (append_assoc (map body_line (word_groups ws)) (last_line closing ∷ []) ls)
          ∙ glyph_again earlier g ws closing ls (has_item is_glyphs_line earlier ∙ h.0) (has_item (is_glyph g) earlier ∙ h.1) h.2 entry.0 entry.2
          ∙ ap (λ k. Ok (Glyph g ws closing, k)) (body_count ws closing);
      inner = entry_inner head ws closing (glyph_inner g h.2) entry;
    }

-- one item read
item_read : (earlier : List NumberedItem) (n : ℕ) (i : Item) (rest : List (List ℕ)) (a : Again earlier i)
    → items_from earlier n (item_lines i ++ rest) ≡ items_from (earlier ++ (n, i) ∷ []) (n + (1 + length a.others)) rest
item_read earlier n i rest a =
    let more = earlier ++ (n, i) ∷ [] in
    ap (λ ls. items_from earlier n (ls ++ rest)) a.lines
    ∙ read_step earlier n a.head (a.others ++ rest) (i, length a.others) (ap (reported_at (Line n)) (a.read rest)) (omega (arith, length-append a.others rest))
    ∙ ap (items_from more (n + (1 + length a.others))) (drop-append_seam a.others rest)

-- what is read of printed items
pub record Reads (earlier : List NumberedItem) (n : ℕ) (items : List Item) : Type 0 where
  pub all : List NumberedItem
  pub read : items_from earlier n (flat_map item_lines items) ≡ Ok all
  pub same : unnumbered all ≡ unnumbered earlier ++ items
  pub inner : list_all is_inner (flat_map item_lines items) ≡ true

-- items that stand after others, printed and read
pub items_again : (earlier : List NumberedItem) (n : ℕ) (items : List Item) → Stand (unnumbered earlier) items → list_all is_counted items ≡ true → Reads earlier n items
items_again earlier n [] h small = record { all = earlier; read = refl; same = sym (append-nil (unnumbered earlier)); inner = refl }
items_again earlier n (i ∷ items) h small =
    let counted = and_parts (is_counted i) (list_all is_counted items) small in
    let a = again earlier i h.0 counted.0 in
    let more = earlier ++ (n, i) ∷ [] in
    let grown : unnumbered more ≡ unnumbered earlier ++ i ∷ [] = map-append (λ x. x.1) earlier ((n, i) ∷ []) in
    let r = items_again more (n + (1 + length a.others)) items (rw grown h.1) counted.1 in
    record {
      all = r.all;
      read = item_read earlier n i (flat_map item_lines items) a ∙ r.read;
      same = r.same ∙ ap (λ t. t ++ items) grown ∙ append_assoc (unnumbered earlier) (i ∷ []) items;
      inner =
          list_all-append is_inner (item_lines i) (flat_map item_lines items)
          ∙ and_from (list_all is_inner (item_lines i)) (list_all is_inner (flat_map item_lines items)) (ap (list_all is_inner) a.lines ∙ a.inner) r.inner;
    }

-- the closefile line after the lines of items
pub private_again : (n : ℕ) (ls : List (List ℕ)) (last : List ℕ) (items : List NumberedItem) → items_of n ls ≡ Ok items
    → private_items n (ls ++ last ∷ []) ≡ Ok (items ++ (n + length ls, Plain last) ∷ [])
unfolding private_items
private_again n ls last items e =
    let one_less : length (ls ++ last ∷ []) - 1 ≡ length ls = omega (arith, length-append ls (last ∷ [])) in
    rw (one_less, take-append_seam ls (last ∷ []), drop-append_seam ls (last ∷ []), e) refl
