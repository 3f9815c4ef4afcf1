-- A fault of reading names a line of the source, and the source has the word that is told there.
use Rattle.std.proofs.Common.{◌≡◌, ◌∙◌, ℕ, zero, suc, Bool, true, false, not, ◌||◌, ◌&&◌, ◌+◌, ◌-◌, ◌<◌, ◌≤◌, if◌then◌else◌, List, [], ◌∷◌, ◌++◌, length, take, drop, reverse, map, Option, None, Some, Result, Ok, Err, ok_or, option_map, filter_map, position, slice_index_or, refl, sym, ap, subst, arith, length-append, length-drop, length-take-le, take-append-drop}
use Rattle.std.specs.List.{AllByRecursion, list_any, position_or_len, prefix_len}
use Rattle.std.proofs.lemmas.List.{drop_more, reverse-append, reverse-reverse}
use Rattle.std.proofs.lemmas.List.Folds.{length-prefix_len}
use Rattle.std.proofs.lemmas.List.Sums.{prefix_len-le-length}
use Rattle.t1_frac.specs.Outcome.{fault_at, reported_at, ◌>>=◌}
use Rattle.t1_frac.proofs.OutcomeLaws.{bind_ok}
use Rattle.t1_frac.specs.Words.{is_blank}
use Rattle.t1_frac.specs.declared.fault.Code.{Code}
use Rattle.t1_frac.specs.declared.fault.Code.TheVariants.{F1, F2, F3, F5, F11}
use Rattle.t1_frac.specs.declared.fault.Fault.{Fault}
use Rattle.t1_frac.specs.declared.fault.Place.{Place}
use Rattle.t1_frac.specs.declared.fault.Place.TheVariants as places
use Rattle.t1_text.specs.Lines.{lines, trimmed}
use Rattle.t1_text.specs.Tokens.{tokens}
use Rattle.t1_parts.specs.declared.item.Item.TheVariants.{Plain}
use Rattle.t1_parts.specs.Counts.{raised}
use Rattle.t1_parts.specs.Encoding.{array_check, array_lines, clear_check, encoding_check, ends_array, is_array, is_standard, later_check, lines_check, opening_check, opens_encoding}
use Rattle.t1_parts.specs.Entries.{NumberedItem, Taken, has_numbered}
use Rattle.t1_parts.specs.LenIV.{lead_check, lead_of_token, said_lead, said_with_line}
use Rattle.t1_parts.specs.Parts.{ThreeParts, is_closefile, is_eexec, parts_of, tail_of}
use Rattle.t1_parts.specs.Private.{item_in_front, items_after, items_of, private_items}
use Rattle.t1_parts.specs.Reading.{reads, reads_lines, unnumbered, whole_check}
use Rattle.t1_parts.specs.Sections.{is_glyphs_line}
use Rattle.t1_parts.specs.SourceParts.{SourceParts}
use Rattle.t1_faults.specs.Reading.{fault_on_line, placed_reading}
use Rattle.t1_faults.specs.Telling.{TellsWord}
use Rattle.t1_faults.proofs.PlacedLaws.{all_append}

-- ---- a place among some lines

-- a place is a line from this number on and in front of that one, or no line
abbrev pub IsIn : ℕ → ℕ → Place → Type 0
IsIn low high (places.Line n) = (low ≤ n) × (n < high)
IsIn low high places.Nowhere = Unit {0}
IsIn low high (places.Subr n) = Unit {0}
IsIn low high (places.Glyph g) = Unit {0}

-- a fault, where there is one, stands at such a place
abbrev pub FaultsIn : {X : Type 0} → ℕ → ℕ → Result X Fault → Type 0
FaultsIn low high (Ok x) = Unit {0}
FaultsIn low high (Err fault) = IsIn low high fault.place

wider_place : (low high least most : ℕ) → least ≤ low → high ≤ most → (place : Place) → IsIn low high place → IsIn least most place
wider_place low high least most below above places.Nowhere h = tt
wider_place low high least most below above (places.Line n) h = (omega (arith, below, h.0), omega (arith, above, h.1))
wider_place low high least most below above (places.Subr n) h = tt
wider_place low high least most below above (places.Glyph g) h = tt

wider : {X : Type 0} (low high least most : ℕ) → least ≤ low → high ≤ most → (r : Result X Fault) → FaultsIn low high r → FaultsIn least most r
wider low high least most below above (Ok x) h = tt
wider low high least most below above (Err fault) h = wider_place low high least most below above fault.place h

-- a step, and one after it
pub then_in : {A B : Type 0} (low high : ℕ) (r : Result A Fault) (f : A → Result B Fault) → FaultsIn low high r → ((a : A) → r ≡ Ok a → FaultsIn low high (f a)) → FaultsIn low high (r >>= f)
then_in low high (Ok a) f h later = later a refl
then_in low high (Err fault) f h later = h

pub line_in : {X : Type 0} (low high n : ℕ) → low ≤ n → n < high → (r : Result X Code) → FaultsIn low high (reported_at (places.Line n) r)
line_in low high n below above (Ok x) = tt
line_in low high n below above (Err code) = (below, above)

value_in : {X : Type 0} (low high n : ℕ) (code : Code) → low ≤ n → n < high → (o : Option X) → FaultsIn low high (ok_or o (fault_at (places.Line n) code))
value_in low high n code below above (Some x) = tt
value_in low high n code below above None = (below, above)

nowhere_in : {X : Type 0} (low high : ℕ) (code : Code) (o : Option X) → FaultsIn low high (ok_or o (fault_at places.Nowhere code))
nowhere_in low high code (Some x) = tt
nowhere_in low high code None = tt

-- ---- the clear part

lines_in : (check : List ℕ → Result (Unit {0}) Code) (low high n : ℕ) (ls : List (List ℕ)) → low ≤ n → n + length ls ≤ high → FaultsIn low high (lines_check check n ls)
lines_in check low high n [] below above = tt
lines_in check low high n (l ∷ ls) below above =
    then_in low high (reported_at (places.Line n) (check l)) (λ fine. lines_check check (n + 1) ls) (line_in low high n below (omega (arith, above)) (check l))
    (λ fine. λ e. lines_in check low high (n + 1) ls (omega (arith, below)) (omega (arith, above)))

opening_in : (low high n : ℕ) (opening : List ℕ) (later : List (List ℕ)) → low ≤ n → n < high → FaultsIn low high (opening_check n opening later)
unfolding opening_check
opening_in low high n opening later below above = by (is_standard (tokens opening) || (is_array (tokens opening) && list_any ends_array later)) where
  by : (b : Bool) → FaultsIn {X = Unit {0}} low high (if b then Ok tt else Err (fault_at (places.Line n) F5))
  by true = tt
  by false = (below, above)

-- an array has no more lines than follow the one that opens it
array_short : (opening : List ℕ) (later : List (List ℕ)) → length (array_lines (opening ∷ later)) ≤ length later
array_short opening later = by (is_standard (tokens opening)) where
  by : (b : Bool) → length (if b then [] else take (position_or_len ends_array later) later) ≤ length later
  by true = let none : 0 ≤ length later = omega arith in none
  by false =
      let within : position_or_len ends_array later ≤ length later = prefix_len-le-length (λ l. not (ends_array l)) later in
      let few : length (take (position_or_len ends_array later) later) ≤ length later = omega (arith, within, length-take-le (position_or_len ends_array later) later within) in
      few

encoding_in : (low high n : ℕ) (ls : List (List ℕ)) → low ≤ n → n + length ls ≤ high → FaultsIn low high (encoding_check n ls)
encoding_in low high n [] below above = tt
encoding_in low high n (opening ∷ later) below above =
    let array = array_lines (opening ∷ later) in
    let short : length array ≤ length later = array_short opening later in
    let left : length (drop (length array) later) ≡ length later - length array = length-drop (length array) later in
    then_in low high (opening_check n opening later) (λ opened. lines_check array_check (n + 1) array >>= λ filled. lines_check later_check (n + 1 + length array) (drop (length array) later))
    (opening_in low high n opening later below (omega (arith, above)))
    (λ opened. λ e. then_in low high (lines_check array_check (n + 1) array) (λ filled. lines_check later_check (n + 1 + length array) (drop (length array) later))
    (lines_in array_check low high (n + 1) array (omega (arith, below)) (omega (arith, above, short)))
    (λ filled. λ f. lines_in later_check low high (n + 1 + length array) (drop (length array) later) (omega (arith, below)) (omega (arith, above, short, left))))

clear_in : (clear : List (List ℕ)) → FaultsIn 1 (1 + length clear) (clear_check clear)
unfolding clear_check
clear_in clear =
    let k = position_or_len opens_encoding clear in
    let within : k ≤ length clear = prefix_len-le-length (λ l. not (opens_encoding l)) clear in
    let left : length (drop k clear) ≡ length clear - k = length-drop k clear in
    encoding_in 1 (1 + length clear) (k + 1) (drop k clear) (omega arith) (omega (arith, within, left))

-- ---- the private part

-- the number of an item is one of these
abbrev IsNumberedIn : ℕ → ℕ → NumberedItem → Type 0
IsNumberedIn low high i = (low ≤ i.0) × (i.0 < high)

-- so are those of all items, or their fault stands at such a place
abbrev ItemsIn : ℕ → ℕ → Result (List NumberedItem) Fault → Type 0
ItemsIn low high (Ok items) = AllByRecursion (IsNumberedIn low high) items
ItemsIn low high (Err fault) = IsIn low high fault.place

fault_of_items : (low high : ℕ) (r : Result (List NumberedItem) Fault) → ItemsIn low high r → FaultsIn low high r
fault_of_items low high (Ok items) h = tt
fault_of_items low high (Err fault) h = h

after_in : (low high : ℕ) (earlier : List NumberedItem) (n more : ℕ) (ls : List (List ℕ)) → low ≤ n → n + length ls ≤ high → AllByRecursion (IsNumberedIn low high) earlier
    → ItemsIn low high (items_after earlier n more ls)
after_in low high earlier n more [] below above h = h
after_in low high earlier n (suc more) (l ∷ ls) below above h = after_in low high earlier (n + 1) more ls (omega (arith, below)) (omega (arith, above)) h
after_in low high earlier n zero (l ∷ ls) below above h =
    by (λ taken. λ inside. after_in low high (earlier ++ (n, taken.0) ∷ []) (n + 1) taken.1 ls (omega (arith, below)) (omega (arith, above))
    (all_append (IsNumberedIn low high) earlier ((n, taken.0) ∷ []) h ((below, inside), tt))) (item_in_front earlier l ls)
  where
    by : ((taken : Taken) → n < high → ItemsIn low high (items_after (earlier ++ (n, taken.0) ∷ []) (n + 1) taken.1 ls)) → (r : Result Taken Code)
        → ItemsIn low high (reported_at (places.Line n) r >>= λ taken. items_after (earlier ++ (n, taken.0) ∷ []) (n + 1) taken.1 ls)
    by later (Ok taken) = later taken (omega (arith, above))
    by later (Err code) = (below, omega (arith, above))

alike_in : (low high n : ℕ) (ls : List (List ℕ)) → low ≤ n → (0 < length ls → n < high) → AllByRecursion (IsNumberedIn low high) (map (λ l. (n, Plain l)) ls)
alike_in low high n [] below above = tt
alike_in low high n (l ∷ ls) below above =
    let inside : n < high = above (omega arith) in
    ((below, inside), alike_in low high n ls below (λ some. inside))

private_in : (low high n : ℕ) (ls : List (List ℕ)) → low ≤ n → n + length ls ≤ high → ItemsIn low high (private_items n ls)
unfolding private_items
private_in low high n ls below above =
    let within : length ls - 1 ≤ length ls = omega arith in
    let size : length (take (length ls - 1) ls) ≡ length ls - 1 = length-take-le (length ls - 1) ls within in
    let left : length (drop (length ls - 1) ls) ≡ length ls - (length ls - 1) = length-drop (length ls - 1) ls in
    by (items_of n (take (length ls - 1) ls)) (after_in low high [] n 0 (take (length ls - 1) ls) below (omega (arith, above, size)) tt)
    (alike_in low high (n + (length ls - 1)) (drop (length ls - 1) ls) (omega (arith, below)) (λ some. omega (arith, above, some, left)))
  where
    by : (r : Result (List NumberedItem) Fault) → ItemsIn low high r → AllByRecursion (IsNumberedIn low high) (map (λ l. (n + (length ls - 1), Plain l)) (drop (length ls - 1) ls))
        → ItemsIn low high (r >>= λ items. Ok (items ++ map (λ l. (n + (length ls - 1), Plain l)) (drop (length ls - 1) ls)))
    by (Ok items) h last = all_append (IsNumberedIn low high) items (map (λ l. (n + (length ls - 1), Plain l)) (drop (length ls - 1) ls)) h last
    by (Err fault) h last = h

-- what is said on a line
abbrev Said : Type 0
Said = ℕ × Option (List ℕ)

abbrev IsSaidIn : ℕ → ℕ → Said → Type 0
IsSaidIn low high said = (low ≤ said.0) × (said.0 < high)

numbered_as : (n : ℕ) (o : Option (Option (List ℕ))) (said : Said) → option_map (λ t. (n, t)) o ≡ Some said → n ≡ said.0
numbered_as n None said e = absurd (cc)
numbered_as n (Some t) said e =
    let given : ◌≡◌ {A = Option Said} (Some (n, t)) (Some said) = e in
    let same : ◌≡◌ {A = Said} (n, t) said = cc in
    ap (λ (s : Said). s.0) same

said_in : (low high : ℕ) (test : NumberedItem → Option Said) → ((i : NumberedItem) (said : Said) → test i ≡ Some said → i.0 ≡ said.0) → (items : List NumberedItem)
    → AllByRecursion (IsNumberedIn low high) items → AllByRecursion (IsSaidIn low high) (filter_map test items)
said_in low high test keeps [] h = tt
said_in low high test keeps (i ∷ items) h = by (said_in low high test keeps items h.1) (test i) refl where
  by : AllByRecursion (IsSaidIn low high) (filter_map test items) → (o : Option Said) → test i ≡ o → AllByRecursion (IsSaidIn low high) (filter_map test (i ∷ items))
  by below None e = rw e below
  by below (Some said) e =
      let same = keeps i said e in
      rw e ((omega (arith, same, h.0.0), omega (arith, same, h.0.1)), below)

lead_in : (low high : ℕ) (said : List Said) → AllByRecursion (IsSaidIn low high) said → FaultsIn low high (lead_check said)
lead_in low high [] h = tt
lead_in low high (s ∷ more) h = value_in low high s.0 F11 h.0.0 h.0.1 (lead_of_token s.1)

whole_in : (low high : ℕ) (items : List NumberedItem) → AllByRecursion (IsNumberedIn low high) items → FaultsIn low high (whole_check items)
unfolding whole_check
whole_in low high items h =
    by (lead_in low high (filter_map said_with_line items) (said_in low high said_with_line (λ i. λ said. λ e. numbered_as i.0 (said_lead i.1) said e) items h)) (has_numbered is_glyphs_line items)
  where
    by : FaultsIn low high (lead_check (filter_map said_with_line items)) → (b : Bool)
        → FaultsIn {X = Unit {0}} low high (if b then (lead_check (filter_map said_with_line items) >>= λ lead. Ok tt) else Err (fault_at places.Nowhere F3))
    by fine true = then_in {B = Unit {0}} low high (lead_check (filter_map said_with_line items)) (λ lead. Ok tt) fine (λ lead. λ e. tt)
    by fine false = tt

-- ---- a source

-- the parts of some lines are all of them
pub parts_whole : (ls : List (List ℕ)) (p : ThreeParts) → parts_of ls ≡ Ok p → ls ≡ p.clear ++ (p.private ++ p.tail)
unfolding parts_of
parts_whole ls p e =
    let a = bind_ok (ok_or (position is_eexec ls) (fault_at places.Nowhere F1)) (λ (eexec : ℕ). ok_or (position is_closefile (drop (eexec + 1) ls)) (fault_at places.Nowhere F2) >>= λ (closefile : ℕ).
    Ok (record {
      clear = take (eexec + 1) ls;
      private = take (closefile + 1) (drop (eexec + 1) ls);
      tail = drop (closefile + 1) (drop (eexec + 1) ls);
    })) p e in
    let after = drop (a.0 + 1) ls in
    let b = bind_ok (ok_or (position is_closefile after) (fault_at places.Nowhere F2)) (λ (closefile : ℕ). Ok (record { clear = take (a.0 + 1) ls; private = take (closefile + 1) after; tail = drop (closefile + 1) after })) p a.2 in
    let made : ThreeParts = record { clear = take (a.0 + 1) ls; private = take (b.0 + 1) after; tail = drop (b.0 + 1) after } in
    let last : ◌≡◌ {A = Result ThreeParts Fault} (Ok made) (Ok p) = b.2 in
    let same : made ≡ p = cc in
    subst (λ (q : ThreeParts). ls ≡ q.clear ++ (q.private ++ q.tail)) same
    (sym (take-append-drop (a.0 + 1) ls) ∙ ap (λ t. take (a.0 + 1) ls ++ t) (sym (take-append-drop (b.0 + 1) after)))

parts_in : (low high : ℕ) (ls : List (List ℕ)) → FaultsIn low high (parts_of ls)
unfolding parts_of
parts_in low high ls =
    then_in {B = ThreeParts} low high (ok_or (position is_eexec ls) (fault_at places.Nowhere F1)) (λ (eexec : ℕ). ok_or (position is_closefile (drop (eexec + 1) ls)) (fault_at places.Nowhere F2) >>= λ (closefile : ℕ).
    Ok (record {
      clear = take (eexec + 1) ls;
      private = take (closefile + 1) (drop (eexec + 1) ls);
      tail = drop (closefile + 1) (drop (eexec + 1) ls);
    })) (nowhere_in low high F1 (position is_eexec ls)) (λ eexec. λ e.
    then_in {B = ThreeParts} low high (ok_or (position is_closefile (drop (eexec + 1) ls)) (fault_at places.Nowhere F2)) (λ (closefile : ℕ).
    Ok (record {
      clear = take (eexec + 1) ls;
      private = take (closefile + 1) (drop (eexec + 1) ls);
      tail = drop (closefile + 1) (drop (eexec + 1) ls);
    })) (nowhere_in low high F2 (position is_closefile (drop (eexec + 1) ls))) (λ closefile. λ f. tt))

source_in : (ls : List (List ℕ)) → FaultsIn 1 (1 + length ls) (reads_lines ls)
unfolding reads_lines
source_in ls =
    then_in {B = SourceParts} 1 (1 + length ls) (parts_of ls) (λ parts. clear_check parts.clear >>= λ encoded. private_items (length parts.clear + 1) parts.private >>= λ items. whole_check items >>= λ whole.
    Ok (record { clear = parts.clear; items = raised (unnumbered items); tail = tail_of parts.tail })) (parts_in 1 (1 + length ls) ls) cut
  where
    cut : (p : ThreeParts) → parts_of ls ≡ Ok p → FaultsIn {X = SourceParts} 1 (1 + length ls) (clear_check p.clear >>= λ encoded. private_items (length p.clear + 1) p.private >>= λ items. whole_check items >>= λ whole.
        Ok (record { clear = p.clear; items = raised (unnumbered items); tail = tail_of p.tail }))
    cut p e =
        let high = 1 + length ls in
        let size : length ls ≡ length p.clear + (length p.private + length p.tail) =
        ap length (parts_whole ls p e) ∙ length-append p.clear (p.private ++ p.tail) ∙ ap (λ k. length p.clear + k) (length-append p.private p.tail) in
        let own = private_in 1 high (length p.clear + 1) p.private (omega arith) (omega (arith, size)) in
        then_in {B = SourceParts} 1 high (clear_check p.clear) (λ encoded. private_items (length p.clear + 1) p.private >>= λ items. whole_check items >>= λ whole.
        Ok (record { clear = p.clear; items = raised (unnumbered items); tail = tail_of p.tail })) (wider 1 (1 + length p.clear) 1 high (omega arith) (omega (arith, size)) (clear_check p.clear) (clear_in p.clear))
        (λ encoded. λ f. then_in {B = SourceParts} 1 high (private_items (length p.clear + 1) p.private) (λ items. whole_check items >>= λ whole.
        Ok (record { clear = p.clear; items = raised (unnumbered items); tail = tail_of p.tail })) (fault_of_items 1 high (private_items (length p.clear + 1) p.private) own)
        (λ items. λ g. then_in {B = SourceParts} 1 high (whole_check items) (λ whole. Ok (record { clear = p.clear; items = raised (unnumbered items); tail = tail_of p.tail }))
        (whole_in 1 high items (subst (ItemsIn 1 high) g own)) (λ whole. λ k. tt)))

-- a fault of reading some bytes is on one of their lines, or on none
pub reading_in : (bytes : List ℕ) → FaultsIn 1 (1 + length (lines bytes)) (reads bytes)
unfolding reads
reading_in bytes = source_in (lines bytes)

-- ---- the word

line_tells : (ls : List (List ℕ)) (code : Code) (n : ℕ) → 1 ≤ n → n < 1 + length ls → TellsWord ls (fault_on_line ls code n)
line_tells ls code n first last =
    let k = n - 1 in
    let inside : k < length ls = omega (arith, first, last) in
    let within : k ≤ length ls = omega (arith, inside) in
    let l = slice_index_or ls k [] in
    let p = prefix_len is_blank l in
    let s = drop p l in
    let q = prefix_len is_blank (reverse s) in
    let back = reverse (take q (reverse s)) in
    let ended : s ≡ trimmed l ++ back = sym (reverse-reverse s) ∙ ap reverse (sym (take-append-drop q (reverse s))) ∙ reverse-append (take q (reverse s)) (drop q (reverse s)) in
    let begun : l ≡ take p l ++ (trimmed l ++ back) = sym (take-append-drop p l) ∙ ap (λ t. take p l ++ t) ended in
    let whole : ls ≡ take k ls ++ (take p l ++ (trimmed l ++ back)) ∷ drop (k + 1) ls =
    sym (take-append-drop k ls) ∙ ap (λ t. take k ls ++ t) (drop_more ls k [] inside) ∙ ap (λ t. take k ls ++ t ∷ drop (k + 1) ls) begun in
    let number : n ≡ length (take k ls) + 1 = omega (arith, first, length-take-le k ls within) in
    let column : p + 1 ≡ length (take p l) + 1 = ap (λ i. i + 1) (sym (length-prefix_len is_blank l)) in
    (take k ls, drop (k + 1) ls, take p l, back, whole, number, column)

-- some lines have the word of a fault on one of them
pub placed_tells : (ls : List (List ℕ)) (code : Code) (place : Place) → IsIn 1 (1 + length ls) place → TellsWord ls (placed_reading ls code place)
placed_tells ls code places.Nowhere h = tt
placed_tells ls code (places.Line n) h = line_tells ls code n h.0 h.1
placed_tells ls code (places.Subr n) h = tt
placed_tells ls code (places.Glyph g) h = tt
