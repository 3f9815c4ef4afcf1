-- A printed source, read again.
use Rattle.std.proofs.Common.{◌≡◌, ℕ, Bool, true, ◌&&◌, ◌+◌, ◌<◌, nat_lt, Option, None, Some, is_some, option_map, Result, Ok, ok_or, List, [], ◌∷◌, ◌++◌, length, take, filter_map, refl, sym, ◌∙◌, ap, inl, inr, arith, append_assoc, length-append}
use Rattle.std.specs.List.{list_all, list_any, flat_map, position, position_or_len, cons_option}
use Rattle.std.proofs.lemmas.Bool.{and_parts, and_from, cases_Bool, lt-ltb}
use Rattle.std.proofs.lemmas.Grind.{flat_map-append}
use Rattle.std.proofs.lemmas.List.{map-append}
use Rattle.std.proofs.lemmas.List.Folds.{list_all-append}
use Rattle.std.proofs.Math.Seq.{drop-append_seam, take-append_seam}
use Rattle.t1_frac.specs.declared.fault.Fault.{Fault}
use Rattle.t1_frac.specs.declared.fault.Code.TheVariants.{F11}
use Rattle.t1_frac.specs.declared.fault.Place.TheVariants.{Line}
use Rattle.t1_frac.specs.Outcome.{fault_at, ◌>>=◌}
use Rattle.t1_parts.specs.declared.item.Item.{Item}
use Rattle.t1_parts.specs.declared.item.Item.TheVariants.{Plain}
use Rattle.t1_parts.specs.SourceParts.{SourceParts}
use Rattle.t1_text.specs.Lines.{is_line}
use Rattle.t1_parts.specs.Sections.{is_glyphs_line}
use Rattle.t1_parts.specs.Entries.{NumberedItem, has_numbered}
use Rattle.t1_parts.specs.Private.{private_items}
use Rattle.t1_parts.specs.Parts.{parts_of, is_eexec, is_closefile}
use Rattle.t1_parts.specs.LenIV.{said_lead, said_with_line, lead_check, lead_of_token}
use Rattle.t1_parts.specs.Counts.{raised}
use Rattle.t1_parts.specs.Reading.{unnumbered, whole_check, reads_lines, reads}
use Rattle.t1_parts.specs.Printing.{item_lines, text_lines, text}
use Rattle.t1_source.specs.WellFormed.{is_inner, says_lead_well, IsPrivate, IsWellFormed, is_counted}
use Rattle.t1_text.proofs.TextLaws.{lines_joined}
use Rattle.t1_source.proofs.PrintedLaws.{inner_parts}
use Rattle.t1_source.proofs.ItemsAgainLaws.{has_item, items_again, private_again}

-- the last of some lines is the first that passes a test
abbrev pub Ends : (List ℕ → Bool) → List (List ℕ) → Type 0
Ends test ls = position_or_len test ls + 1 ≡ length ls

-- it is so whatever lines follow
ends_place : (test : List ℕ → Bool) (xs ys : List (List ℕ)) → position_or_len test xs < length xs → position_or_len test (xs ++ ys) ≡ position_or_len test xs
ends_place test [] ys h = absurd (omega arith)
ends_place test (x ∷ xs) ys h =
    elim (cases_Bool (test x)) [
      | inl on ↦ rw on refl
      | inr off ↦
          let more : position_or_len test xs < length xs = (let here : 1 + position_or_len test xs < length (x ∷ xs) = rw off at h in omega (arith, here)) in
          rw off (ap (λ k. 1 + k) (ends_place test xs ys more))
    ]

first_end : (test : List ℕ → Bool) (xs ys : List (List ℕ)) → Ends test xs → position test (xs ++ ys) ≡ Some (position_or_len test xs)
first_end test xs ys h =
    let place = ends_place test xs ys (omega (arith, h)) in
    let within : nat_lt (position_or_len test (xs ++ ys)) (length (xs ++ ys)) ≡ true = lt-ltb (position_or_len test (xs ++ ys)) (length (xs ++ ys)) (omega (arith, place, h, length-append xs ys)) in
    rw within (ap Some place)

-- the parts of lines that end so
parts_again : (clear private tail : List (List ℕ)) → Ends is_eexec clear → Ends is_closefile private
    → parts_of ((clear ++ private) ++ tail) ≡ Ok (record { clear = clear; private = private; tail = tail })
unfolding parts_of
parts_again clear private tail first second =
    let split = append_assoc clear private tail in
    let p = first_end is_eexec clear (private ++ tail) first in
    let q = first_end is_closefile private tail second in
    rw (split, p, first, drop-append_seam clear (private ++ tail), q, second, take-append_seam clear (private ++ tail), take-append_seam private tail, drop-append_seam private tail) refl

-- lines before the closefile line
inner_place : (ls : List (List ℕ)) (last : List ℕ) → list_all is_inner ls ≡ true → is_closefile last ≡ true → Ends is_closefile (ls ++ last ∷ [])
inner_place [] last h on = rw on refl
inner_place (l ∷ ls) last h on =
    let parts = and_parts (is_inner l) (list_all is_inner ls) h in
    let off = (inner_parts l parts.0).1 in
    let more = inner_place ls last parts.1 on in
    rw off (omega (arith, more))

inner_lines : (ls : List (List ℕ)) → list_all is_inner ls ≡ true → list_all is_line ls ≡ true
inner_lines [] h = refl
inner_lines (l ∷ ls) h =
    let parts = and_parts (is_inner l) (list_all is_inner ls) h in
    and_from (is_line l) (list_all is_line ls) (inner_parts l parts.0).0 (inner_lines ls parts.1)

abbrev pub checked : Result ℕ Fault → Result (Unit {0}) Fault
checked given = given >>= λ lead. Ok tt

-- what the items say of lenIV
lead_said : (n : ℕ) (o : Option (Option (List ℕ))) (said : List (ℕ × Option (List ℕ))) (ts : List (Option (List ℕ))) → list_all (λ t. is_some (lead_of_token t)) (take 1 (cons_option o ts)) ≡ true
    → (list_all (λ t. is_some (lead_of_token t)) (take 1 ts) ≡ true → checked (lead_check said) ≡ Ok tt)
    → checked (lead_check (cons_option (option_map (λ t. (n, t)) o) said)) ≡ Ok tt
lead_said n None said ts h more = more h
lead_said n (Some t) said ts h more = lead_given (lead_of_token t) (and_parts (is_some (lead_of_token t)) true h).0 (fault_at (Line n) F11)
  where
    lead_given : (o : Option ℕ) → is_some o ≡ true → (f : Fault) → checked (ok_or o f) ≡ Ok tt
    lead_given None h f = cc
    lead_given (Some k) h f = refl

lead_again : (ns : List NumberedItem) → says_lead_well (unnumbered ns) ≡ true → checked (lead_check (filter_map said_with_line ns)) ≡ Ok tt
lead_again [] h = refl
lead_again (i ∷ ns) h = lead_said i.0 (said_lead i.1) (filter_map said_with_line ns) (filter_map said_lead (unnumbered ns)) h (λ more. lead_again ns more)

whole_again : (ns : List NumberedItem) → list_any is_glyphs_line (unnumbered ns) ≡ true → says_lead_well (unnumbered ns) ≡ true → whole_check ns ≡ Ok tt
unfolding whole_check
whole_again ns section lead =
    let on : has_numbered is_glyphs_line ns ≡ true = has_item is_glyphs_line ns ∙ section in
    rw on (lead_again ns lead)

-- the private part of a source
record Private (s : SourceParts) (inner : List Item) (last : List ℕ) : Type 0 where
  all : List NumberedItem
  read : private_items (length s.clear + 1) (flat_map item_lines inner ++ last ∷ []) ≡ Ok all
  same : unnumbered all ≡ s.items
  lines : flat_map item_lines s.items ≡ flat_map item_lines inner ++ last ∷ []
  are_lines : list_all is_line (flat_map item_lines inner ++ last ∷ []) ≡ true
  ends : Ends is_closefile (flat_map item_lines inner ++ last ∷ [])

private_of : (s : SourceParts) (p : IsPrivate s.items) → list_all is_counted s.items ≡ true → Private s p.inner p.closefile
private_of s p small =
    let printed = flat_map item_lines p.inner in
    let n = length s.clear + 1 in
    let counted = and_parts (list_all is_counted p.inner) true (sym (list_all-append is_counted p.inner (Plain p.closefile ∷ [])) ∙ ap (list_all is_counted) (sym p.whole) ∙ small) in
    let r = items_again [] n p.inner p.stand counted.0 in
    record {
      all = r.all ++ (n + length printed, Plain p.closefile) ∷ [];
      read = private_again n printed p.closefile r.all r.read;
      same = map-append (λ x. x.1) r.all ((n + length printed, Plain p.closefile) ∷ []) ∙ ap (λ t. t ++ Plain p.closefile ∷ []) r.same ∙ sym p.whole;
      lines = ap (flat_map item_lines) p.whole ∙ flat_map-append item_lines p.inner (Plain p.closefile ∷ []);
      are_lines =
          list_all-append is_line printed (p.closefile ∷ [])
          ∙ and_from (list_all is_line printed) (is_line p.closefile && true) (inner_lines printed r.inner) (and_from (is_line p.closefile) true p.line refl);
      ends = inner_place printed p.closefile r.inner p.last;
    }

lines_again : (s : SourceParts) (kept : IsWellFormed s) (inner : List Item) (last : List ℕ) → Private s inner last
    → reads_lines ((s.clear ++ (flat_map item_lines inner ++ last ∷ [])) ++ s.tail) ≡ Ok s
unfolding reads_lines
lines_again s kept inner last p =
    let parts = parts_again s.clear (flat_map item_lines inner ++ last ∷ []) s.tail kept.clear.1 p.ends in
    let whole = whole_again p.all (ap (list_any is_glyphs_line) p.same ∙ kept.items.section) (ap says_lead_well p.same ∙ kept.items.lead) in
    let items : raised (unnumbered p.all) ≡ s.items = ap raised p.same ∙ kept.items.counts in
    rw (parts, kept.clear.2, p.read, whole, items, kept.tail) refl

-- a source that is kept, and whose counts have at most nine digits, is read from its text
pub source_again : (s : SourceParts) → IsWellFormed s → list_all is_counted s.items ≡ true → reads (text s) ≡ Ok s
unfolding reads
source_again s kept small =
    let p = private_of s kept.items small in
    let printed = flat_map item_lines kept.items.inner ++ kept.items.closefile ∷ [] in
    let whole : text_lines s ≡ (s.clear ++ printed) ++ s.tail = ap (λ ls. (s.clear ++ ls) ++ s.tail) p.lines in
    let front = list_all-append is_line s.clear printed ∙ and_from (list_all is_line s.clear) (list_all is_line printed) kept.clear.0 p.are_lines in
    let are_lines : list_all is_line (text_lines s) ≡ true =
    ap (list_all is_line) whole ∙ list_all-append is_line (s.clear ++ printed) s.tail ∙ and_from (list_all is_line (s.clear ++ printed)) (list_all is_line s.tail) front kept.lines in
    ap reads_lines (lines_joined (text_lines s) are_lines ∙ whole) ∙ lines_again s kept kept.items.inner kept.items.closefile p
