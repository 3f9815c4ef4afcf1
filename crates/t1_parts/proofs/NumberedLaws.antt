-- Stretches with the numbers of their first lines.
use Rattle.std.proofs.Common.{◌≡◌, ℕ, zero, suc, ◌+◌, ◌<◌, ◌≤◌, Bool, true, false, ◌||◌, Some, None, List, [], ◌∷◌, ◌++◌, length, take, drop, map, refl, sym, ◌∙◌, ap, arith}
use Rattle.std.specs.Borrow.{Bor}
use Rattle.std.specs.List.{find, slice_index_or}
use Rattle.std.proofs.lemmas.List.{append_assoc, append-nil, length-append}
use Rattle.std.proofs.lemmas.List.Folds.{list_any-append}
use Rattle.std.proofs.lemmas.Bool.{or_parts}
use Rattle.std.proofs.Math.Bool.{or-false}
use Rattle.std.specs.declared.alloc.Global.{Global}
use Rattle.std.specs.declared.vec.Vec.{Vec}
use Rattle.t1_parts.specs.declared.item.Item.{Item}
use Rattle.t1_parts.specs.declared.item.Item.TheVariants.{Plain}
use Rattle.t1_parts.specs.declared.stretch.Stretch.{Stretch}
use Rattle.t1_parts.specs.declared.stretch.Stretch.TheVariants.{One, Lines}
use Rattle.t1_parts.specs.Entries.{NumberedItem, has_numbered, is_subr, is_glyph}
use Rattle.t1_parts.specs.Gathered.{HasNumbers, AreGlyphsNames}
use Rattle.t1_parts.specs.Items.{items_in, line_items, stretch_items}
use Rattle.t1_parts.specs.Stretches.{line_says, lines_say, stretches_in}
use Rattle.t1_parts.specs.LenIV.{says_lead}
use Rattle.t1_parts.specs.NumberedStretches.{numbered_lines, numbered_items, numbered_in}
use Rattle.t1_parts.specs.Reading.{unnumbered}

-- a further stretch
pub with_more : (ns : List ℕ) (ss : List Stretch) (n : ℕ) (s : Stretch) → length ns ≡ length ss → numbered_in (ns ++ n ∷ []) (ss ++ s ∷ []) ≡ numbered_in ns ss ++ numbered_items n s
with_more [] [] n s h = append-nil (numbered_items n s)
with_more [] (t ∷ ss) n s h = absurd (omega (arith, h))
with_more (m ∷ ns) [] n s h = absurd (omega (arith, h))
with_more (m ∷ ns) (t ∷ ss) n s h =
    ap (λ u. numbered_items m t ++ u) (with_more ns ss n s (omega (arith, h))) ∙ sym (append_assoc (numbered_items m t) (numbered_in ns ss) (numbered_items n s))

pub with_one : (ns : List ℕ) (ss : List Stretch) (n : ℕ) (item : Item) → length ns ≡ length ss → numbered_in (ns ++ n ∷ []) (ss ++ One item ∷ []) ≡ numbered_in ns ss ++ (n, item) ∷ []
with_one ns ss n item h = with_more ns ss n (One item) h

pub same_pushed : (ns : List ℕ) (ss : List Stretch) (n : ℕ) (s : Stretch) → length ns ≡ length ss → length (ns ++ n ∷ []) ≡ length (ss ++ s ∷ [])
same_pushed ns ss n s h = length-append ns (n ∷ []) ∙ ap (λ k. k + 1) h ∙ sym (length-append ss (s ∷ []))

-- no plain line passes a test that no plain item passes
pub none_of_lines : (test : Item → Bool) (n : ℕ) (ls : List (List ℕ)) → ((l : List ℕ) → test (Plain l) ≡ false) → has_numbered test (numbered_lines n ls) ≡ false
none_of_lines test n [] off = refl
none_of_lines test n (l ∷ ls) off = rw (off l) (none_of_lines test (n + 1) ls off)

-- and so no more items pass it with plain lines
pub same_with_lines : (test : Item → Bool) (items : List NumberedItem) (n : ℕ) (ls : List (List ℕ)) → ((l : List ℕ) → test (Plain l) ≡ false) → has_numbered test items ≡ has_numbered test (items ++ numbered_lines n ls)
same_with_lines test items n ls off =
    sym (list_any-append (λ i. test i.1) items (numbered_lines n ls) ∙ ap (λ b. has_numbered test items || b) (none_of_lines test n ls off) ∙ or-false (has_numbered test items))

pub numbers_with_lines : (ks : List ℕ) (items : List NumberedItem) (n : ℕ) (ls : List (List ℕ)) → HasNumbers ks items → HasNumbers ks (items ++ numbered_lines n ls)
numbers_with_lines ks items n ls h m = h m ∙ same_with_lines (is_subr m) items n ls (λ l. refl)

pub names_with_lines : (ks : List (Bor (List ℕ))) (items : List NumberedItem) (n : ℕ) (ls : List (List ℕ)) → AreGlyphsNames ks items → AreGlyphsNames ks (items ++ numbered_lines n ls)
names_with_lines ks items n ls h g = h g ∙ same_with_lines (is_glyph g) items n ls (λ l. refl)

-- ---- without numbers

lines_unnumbered : (n : ℕ) (ls : List (List ℕ)) → unnumbered (numbered_lines n ls) ≡ line_items ls
lines_unnumbered n [] = refl
lines_unnumbered n (l ∷ ls) = ap (λ t. Plain l ∷ t) (lines_unnumbered (n + 1) ls)

items_unnumbered : (n : ℕ) (s : Stretch) → unnumbered (numbered_items n s) ≡ stretch_items s
items_unnumbered n (One item) = refl
items_unnumbered n (Lines ls) = lines_unnumbered n ls

map_append : {A B : Type 0} (f : A → B) (xs ys : List A) → map f (xs ++ ys) ≡ map f xs ++ map f ys
map_append f [] ys = refl
map_append f (x ∷ xs) ys = ap (λ t. f x ∷ t) (map_append f xs ys)

-- the items of the stretches
pub unnumbered_in : (ns : List ℕ) (ss : List Stretch) → length ns ≡ length ss → items_in ss ≡ unnumbered (numbered_in ns ss)
unnumbered_in [] [] h = refl
unnumbered_in [] (s ∷ ss) h = absurd (omega (arith, h))
unnumbered_in (n ∷ ns) [] h = absurd (omega (arith, h))
unnumbered_in (n ∷ ns) (s ∷ ss) h =
    sym (
    map_append (λ i. i.1) (numbered_items n s) (numbered_in ns ss) ∙ ap (λ t. t ++ unnumbered (numbered_in ns ss)) (items_unnumbered n s)
    ∙ ap (λ t. stretch_items s ++ t) (sym (unnumbered_in ns ss (omega (arith, h))))
    )

-- ---- what says lenIV

-- lines that say nothing
pub silent_lines : (ls : List (List ℕ)) → lines_say ls ≡ false → find says_lead (line_items ls) ≡ None
unfolding line_says
silent_lines [] h = refl
silent_lines (l ∷ ls) h = let off = or_parts (line_says l) (lines_say ls) h in rw off.0 (silent_lines ls off.1)

from_numbered : (i : ℕ) (ns : List ℕ) (ss : List Stretch) (e : ℕ) (d : Stretch) → length ns ≡ length ss → i < length ss
    → numbered_in (drop i ns) (drop i ss) ≡ numbered_items (slice_index_or ns i e) (slice_index_or ss i d) ++ numbered_in (drop (i + 1) ns) (drop (i + 1) ss)
from_numbered i ns [] e d same h = absurd (omega (arith, h))
from_numbered i [] (s ∷ ss) e d same h = absurd (omega (arith, same))
from_numbered zero (n ∷ ns) (s ∷ ss) e d same h = refl
from_numbered (suc i) (n ∷ ns) (s ∷ ss) e d same h =
    let next : suc i + 1 ≡ suc (i + 1) = omega arith in
    from_numbered i ns ss e d (omega (arith, same)) (omega (arith, h))
    ∙ ap (λ k. numbered_items (slice_index_or ns i e) (slice_index_or ss i d) ++ numbered_in (drop k (n ∷ ns)) (drop k (s ∷ ss))) (sym next)

-- the stretch there is an item that says it
pub said_there : (i : ℕ) (ns : List ℕ) (ss : List Stretch) (s : Stretch) (item : Item) → length ns ≡ length ss → i < length ss → s ≡ slice_index_or ss i s → s ≡ One item → says_lead item ≡ true
    → find (λ i. says_lead i.1) (numbered_in (drop i ns) (drop i ss)) ≡ Some (slice_index_or ns i 0, item)
said_there i ns ss s item same h is one says =
    let n = slice_index_or ns i 0 in
    ap (find (λ i. says_lead i.1)) (from_numbered i ns ss 0 s same h ∙ ap (λ t. numbered_items n t ++ numbered_in (drop (i + 1) ns) (drop (i + 1) ss)) (sym is ∙ one)) ∙ (rw says refl)

none_numbered : (n : ℕ) (s : Stretch) (more : List NumberedItem) → find says_lead (stretch_items s) ≡ None → find (λ i. says_lead i.1) (numbered_items n s ++ more) ≡ find (λ i. says_lead i.1) more
none_numbered n (One item) more h = by (says_lead item) refl h where
  by : (b : Bool) → says_lead item ≡ b → find says_lead (item ∷ []) ≡ None → find (λ i. says_lead i.1) ((n, item) ∷ more) ≡ find (λ i. says_lead i.1) more
  by true is k = let there : Some item ≡ None = rw is at k in absurd (cc)
  by false is k = rw is refl
none_numbered n (Lines ls) more h = lines_none n ls h where
  lines_none : (n : ℕ) (ls : List (List ℕ)) → find says_lead (line_items ls) ≡ None → find (λ i. says_lead i.1) (numbered_lines n ls ++ more) ≡ find (λ i. says_lead i.1) more
  lines_none n [] k = refl
  lines_none n (l ∷ ls) k = by (says_lead (Plain l)) refl k (lines_none (n + 1) ls) where
    by : (b : Bool) → says_lead (Plain l) ≡ b → find says_lead (line_items (l ∷ ls)) ≡ None
        → (find says_lead (line_items ls) ≡ None → find (λ i. says_lead i.1) (numbered_lines (n + 1) ls ++ more) ≡ find (λ i. says_lead i.1) more)
        → find (λ i. says_lead i.1) (numbered_lines n (l ∷ ls) ++ more) ≡ find (λ i. says_lead i.1) more
    by true is k rest = let there : Some (Plain l) ≡ None = rw is at k in absurd (cc)
    by false is k rest = rw is (rest (rw is at k))

-- the stretch there says nothing of it
pub said_later : (i : ℕ) (ns : List ℕ) (ss : List Stretch) (s : Stretch) → length ns ≡ length ss → i < length ss → s ≡ slice_index_or ss i s → find says_lead (stretch_items s) ≡ None
    → find (λ i. says_lead i.1) (numbered_in (drop i ns) (drop i ss)) ≡ find (λ i. says_lead i.1) (numbered_in (drop (i + 1) ns) (drop (i + 1) ss))
said_later i ns ss s same h is none =
    let n = slice_index_or ns i 0 in
    let more = numbered_in (drop (i + 1) ns) (drop (i + 1) ss) in
    ap (find (λ i. says_lead i.1)) (from_numbered i ns ss 0 s same h ∙ ap (λ t. numbered_items n t ++ more) (sym is)) ∙ none_numbered n s more none

-- ---- in lists one after another

-- of some stretches and others, the numbers stand in front and behind
numbered_cut : (ns : List ℕ) (ss ts : List Stretch) → length ss ≤ length ns → numbered_in ns (ss ++ ts) ≡ numbered_in (take (length ss) ns) ss ++ numbered_in (drop (length ss) ns) ts
numbered_cut ns [] ts h = refl
numbered_cut [] (s ∷ ss) ts h = absurd (omega (arith, h))
numbered_cut (n ∷ ns) (s ∷ ss) ts h =
    ap (λ t. numbered_items n s ++ t) (numbered_cut ns ss ts (omega (arith, h)))
    ∙ sym (append_assoc (numbered_items n s) (numbered_in (take (length ss) ns) ss) (numbered_in (drop (length ss) ns) ts))

found_before : (xs ys : List NumberedItem) (found : NumberedItem) → find (λ i. says_lead i.1) xs ≡ Some found → find (λ i. says_lead i.1) (xs ++ ys) ≡ Some found
found_before [] ys found is = absurd (cc)
found_before (x ∷ xs) ys found is = by (says_lead x.1) refl is (found_before xs ys found) where
  by : (b : Bool) → says_lead x.1 ≡ b → find (λ i. says_lead i.1) (x ∷ xs) ≡ Some found
      → (find (λ i. says_lead i.1) xs ≡ Some found → find (λ i. says_lead i.1) (xs ++ ys) ≡ Some found)
      → find (λ i. says_lead i.1) (x ∷ xs ++ ys) ≡ Some found
  by true says h rest = let here : Some x ≡ Some found = rw says at h in rw says here
  by false silent h rest = rw silent (rest (rw silent at h))

found_behind : (xs ys : List NumberedItem) → find (λ i. says_lead i.1) xs ≡ None → find (λ i. says_lead i.1) (xs ++ ys) ≡ find (λ i. says_lead i.1) ys
found_behind [] ys is = refl
found_behind (x ∷ xs) ys is = by (says_lead x.1) refl is (found_behind xs ys) where
  by : (b : Bool) → says_lead x.1 ≡ b → find (λ i. says_lead i.1) (x ∷ xs) ≡ None
      → (find (λ i. says_lead i.1) xs ≡ None → find (λ i. says_lead i.1) (xs ++ ys) ≡ find (λ i. says_lead i.1) ys)
      → find (λ i. says_lead i.1) (x ∷ xs ++ ys) ≡ find (λ i. says_lead i.1) ys
  by true says h rest = let there : Some x ≡ None = rw says at h in absurd (cc)
  by false silent h rest = rw silent (rest (rw silent at h))

-- what is found in the first list is found first
pub said_in_list : (ns : List ℕ) (ss ts : List Stretch) (found : NumberedItem) → length ss ≤ length ns → find (λ i. says_lead i.1) (numbered_in (take (length ss) ns) ss) ≡ Some found
    → find (λ i. says_lead i.1) (numbered_in ns (ss ++ ts)) ≡ Some found
said_in_list ns ss ts found h is =
    ap (find (λ i. says_lead i.1)) (numbered_cut ns ss ts h)
    ∙ found_before (numbered_in (take (length ss) ns) ss) (numbered_in (drop (length ss) ns) ts) found is

-- where it says nothing, the others are looked at
pub said_in_others : (ns : List ℕ) (ss ts : List Stretch) → length ss ≤ length ns → find (λ i. says_lead i.1) (numbered_in (take (length ss) ns) ss) ≡ None
    → find (λ i. says_lead i.1) (numbered_in ns (ss ++ ts)) ≡ find (λ i. says_lead i.1) (numbered_in (drop (length ss) ns) ts)
said_in_others ns ss ts h is =
    ap (find (λ i. says_lead i.1)) (numbered_cut ns ss ts h)
    ∙ found_behind (numbered_in (take (length ss) ns) ss) (numbered_in (drop (length ss) ns) ts) is

-- the list of a place, in front of the later ones
pub lists_from : (i : ℕ) (lists : List (Vec Stretch Global)) (list : Vec Stretch Global) (last : List Stretch) → i < length lists → list ≡ slice_index_or lists i list
    → stretches_in (drop i lists) ++ last ≡ list.items ++ (stretches_in (drop (i + 1) lists) ++ last)
lists_from i [] list last h is = absurd (omega (arith, h))
lists_from zero (v ∷ lists) list last h is =
    ap (λ (w : Vec Stretch Global). (w.items ++ stretches_in lists) ++ last) (sym is) ∙ append_assoc list.items (stretches_in lists) last
lists_from (suc i) (v ∷ lists) list last h is =
    let next : suc i + 1 ≡ suc (i + 1) = omega arith in
    lists_from i lists list last (omega (arith, h)) is
    ∙ ap (λ k. list.items ++ (stretches_in (drop k (v ∷ lists)) ++ last)) (sym next)
