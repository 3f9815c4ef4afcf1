-- Items by their stretches.
use Rattle.std.proofs.Common.{◌≡◌, ◌≤◌, ◌<◌, ◌+◌, true, false, suc, zero, ℕ, List, [], ◌∷◌, ◌++◌, length, take, drop, map, Some, None, refl, sym, ◌∙◌, ap, arith}
use Rattle.std.specs.List.{slice_index_or, slice_set, slice_get, insert, remove}
use Rattle.std.proofs.lemmas.List.{append_assoc, append-nil, drop_all, length-append, length-take-le, take_all, take_more}
use Rattle.std.proofs.lemmas.Bool.{or_parts}
use Rattle.t1_parts.specs.declared.item.Item.{Item}
use Rattle.t1_parts.specs.declared.item.Item.TheVariants.{Plain}
use Rattle.t1_parts.specs.declared.stretch.Stretch.{Stretch}
use Rattle.t1_parts.specs.declared.stretch.Stretch.TheVariants.{One, Lines}
use Rattle.t1_parts.specs.Counts.{raised_item}
use Rattle.t1_parts.specs.Items.{line_items, stretch_items, items_in}
use Rattle.t1_parts.specs.Stretches.{line_says, lines_say, stands_alone, raised_stretch, IsPlaceOfItem, StandsAloneAt}

-- ---- the items of lines

pub taken_lines : (n : ℕ) (ls : List (List ℕ)) → line_items (take n ls) ≡ take n (line_items ls)
taken_lines zero ls = refl
taken_lines (suc n) [] = refl
taken_lines (suc n) (l ∷ ls) = ap (λ t. Plain l ∷ t) (taken_lines n ls)

pub dropped_lines : (n : ℕ) (ls : List (List ℕ)) → line_items (drop n ls) ≡ drop n (line_items ls)
dropped_lines zero ls = refl
dropped_lines (suc n) [] = refl
dropped_lines (suc n) (l ∷ ls) = dropped_lines n ls

pub line_item_at : (n : ℕ) (ls : List (List ℕ)) (d : Item) (line : List ℕ) → n < length (line_items ls) → ((e : List ℕ) → slice_index_or ls n e ≡ line) → slice_index_or (line_items ls) n d ≡ Plain line
line_item_at n [] d line within h = absurd (omega (arith, within))
line_item_at zero (l ∷ ls) d line within h = ap Plain (h [])
line_item_at (suc n) (l ∷ ls) d line within h = line_item_at n ls d line (omega (arith, within)) h

-- a line that says nothing doesn't stand alone
pub silent_at : (n : ℕ) (ls : List (List ℕ)) (d : Item) → n < length (line_items ls) → lines_say ls ≡ false → stands_alone (slice_index_or (line_items ls) n d) ≡ false
unfolding stands_alone
silent_at n [] d within h = absurd (omega (arith, within))
silent_at zero (l ∷ ls) d within h = (or_parts (line_says l) (lines_say ls) h).0
silent_at (suc n) (l ∷ ls) d within h = silent_at n ls d (omega (arith, within)) (or_parts (line_says l) (lines_say ls) h).1

-- ---- stretches in parts

-- the items of stretches are those in front of an index, and those from it on
pub in_two : (i : ℕ) (ss : List Stretch) → items_in ss ≡ items_in (take i ss) ++ items_in (drop i ss)
in_two zero ss = refl
in_two (suc i) [] = refl
in_two (suc i) (s ∷ ss) = ap (λ t. stretch_items s ++ t) (in_two i ss) ∙ sym (append_assoc (stretch_items s) (items_in (take i ss)) (items_in (drop i ss)))

-- and the first of these are those of the stretch there
pub from_index : (i : ℕ) (ss : List Stretch) (d : Stretch) → i < length ss → items_in (drop i ss) ≡ stretch_items (slice_index_or ss i d) ++ items_in (drop (suc i) ss)
from_index i [] d h = absurd (omega (arith, h))
from_index zero (s ∷ ss) d h = refl
from_index (suc i) (s ∷ ss) d h = from_index i ss d (omega (arith, h))

-- a stretch put in the place of another
pub set_in_two : (i : ℕ) (ss : List Stretch) (t : Stretch) → i < length ss → items_in (slice_set ss i t) ≡ items_in (take i ss) ++ (stretch_items t ++ items_in (drop (suc i) ss))
set_in_two i [] t h = absurd (omega (arith, h))
set_in_two zero (s ∷ ss) t h = refl
set_in_two (suc i) (s ∷ ss) t h = ap (λ u. stretch_items s ++ u) (set_in_two i ss t (omega (arith, h)))
    ∙ sym (append_assoc (stretch_items s) (items_in (take i ss)) (stretch_items t ++ items_in (drop (suc i) ss)))

-- one put in
pub insert_in_two : (i : ℕ) (ss : List Stretch) (t : Stretch) → i ≤ length ss → items_in (insert ss i t) ≡ items_in (take i ss) ++ (stretch_items t ++ items_in (drop i ss))
insert_in_two zero ss t h = refl
insert_in_two (suc i) [] t h = absurd (omega (arith, h))
insert_in_two (suc i) (s ∷ ss) t h = ap (λ u. stretch_items s ++ u) (insert_in_two i ss t (omega (arith, h)))
    ∙ sym (append_assoc (stretch_items s) (items_in (take i ss)) (stretch_items t ++ items_in (drop i ss)))

-- one taken out
pub remove_in_two : (i : ℕ) (ss : List Stretch) → items_in (remove ss i) ≡ items_in (take i ss) ++ items_in (drop (suc i) ss)
remove_in_two zero [] = refl
remove_in_two zero (s ∷ ss) = refl
remove_in_two (suc i) [] = refl
remove_in_two (suc i) (s ∷ ss) = ap (λ u. stretch_items s ++ u) (remove_in_two i ss) ∙ sym (append_assoc (stretch_items s) (items_in (take i ss)) (items_in (drop (suc i) ss)))

-- ---- lists by a place in them

-- what stands in front of a place
pub set_at : {X : Type 0} (n : ℕ) (xs ys : List X) (x : X) → length xs ≡ n → n < length (xs ++ ys) → slice_set (xs ++ ys) n x ≡ xs ++ (x ∷ drop 1 ys)
set_at n [] [] x e h = absurd (omega (arith, h))
set_at n [] (y ∷ ys) x e h = ap (λ k. slice_set (y ∷ ys) k x) (sym e)
set_at zero (z ∷ xs) ys x e h = absurd (omega (arith, e))
set_at (suc n) (z ∷ xs) ys x e h = ap (λ t. z ∷ t) (set_at n xs ys x (omega (arith, e)) (omega (arith, h)))

pub insert_at : {X : Type 0} (n : ℕ) (xs ys : List X) (x : X) → length xs ≡ n → insert (xs ++ ys) n x ≡ xs ++ (x ∷ ys)
insert_at n [] ys x e = ap (λ k. insert ys k x) (sym e)
insert_at zero (z ∷ xs) ys x e = absurd (omega (arith, e))
insert_at (suc n) (z ∷ xs) ys x e = ap (λ t. z ∷ t) (insert_at n xs ys x (omega (arith, e)))

pub remove_at : {X : Type 0} (n : ℕ) (xs ys : List X) → length xs ≡ n → remove (xs ++ ys) n ≡ xs ++ drop 1 ys
remove_at n [] ys e = ap (remove ys) (sym e)
remove_at zero (z ∷ xs) ys e = absurd (omega (arith, e))
remove_at (suc n) (z ∷ xs) ys e = ap (λ t. z ∷ t) (remove_at n xs ys (omega (arith, e)))

pub found_past : {X : Type 0} (n k : ℕ) (xs ys : List X) (d : X) → length xs + k ≡ n → slice_index_or (xs ++ ys) n d ≡ slice_index_or ys k d
found_past n k [] ys d e = let same : n ≡ k = omega (arith, e) in ap (λ m. slice_index_or ys m d) same
found_past zero k (z ∷ xs) ys d e = absurd (omega (arith, e))
found_past (suc n) k (z ∷ xs) ys d e = found_past n k xs ys d (omega (arith, e))

pub found_within : {X : Type 0} (k : ℕ) (xs ys : List X) (d : X) → k < length xs → slice_index_or (xs ++ ys) k d ≡ slice_index_or xs k d
found_within k [] ys d h = absurd (omega (arith, h))
found_within zero (x ∷ xs) ys d h = refl
found_within (suc k) (x ∷ xs) ys d h = found_within k xs ys d (omega (arith, h))

pub got_at : {X : Type 0} (n : ℕ) (xs : List X) (x : X) → n < length xs → ((d : X) → slice_index_or xs n d ≡ x) → slice_get xs n ≡ Some x
got_at n [] x h e = absurd (omega (arith, h))
got_at zero (y ∷ xs) x h e = ap Some (e x)
got_at (suc n) (y ∷ xs) x h e = got_at n xs x (omega (arith, h)) e

pub got_past : {X : Type 0} (n : ℕ) (xs : List X) → length xs ≤ n → slice_get xs n ≡ None
got_past n [] h = refl
got_past zero (x ∷ xs) h = absurd (omega (arith, h))
got_past (suc n) (x ∷ xs) h = got_past n xs (omega (arith, h))

pub drop_append : {X : Type 0} (n : ℕ) (xs ys : List X) → n ≤ length xs → drop n (xs ++ ys) ≡ drop n xs ++ ys
drop_append zero xs ys h = refl
drop_append (suc n) [] ys h = absurd (omega (arith, h))
drop_append (suc n) (x ∷ xs) ys h = drop_append n xs ys (omega (arith, h))

pub take_append : {X : Type 0} (n : ℕ) (xs ys : List X) → n ≤ length xs → take n (xs ++ ys) ≡ take n xs
take_append zero xs ys h = refl
take_append (suc n) [] ys h = absurd (omega (arith, h))
take_append (suc n) (x ∷ xs) ys h = ap (λ t. x ∷ t) (take_append n xs ys (omega (arith, h)))

pub take_past : {X : Type 0} (n k : ℕ) (xs ys : List X) → length xs + k ≡ n → take n (xs ++ ys) ≡ xs ++ take k ys
take_past n k [] ys e = let same : n ≡ k = omega (arith, e) in ap (λ m. take m ys) same
take_past zero k (x ∷ xs) ys e = absurd (omega (arith, e))
take_past (suc n) k (x ∷ xs) ys e = ap (λ t. x ∷ t) (take_past n k xs ys (omega (arith, e)))

pub drop_past : {X : Type 0} (n k : ℕ) (xs ys : List X) → length xs + k ≡ n → drop n (xs ++ ys) ≡ drop k ys
drop_past n k [] ys e = let same : n ≡ k = omega (arith, e) in ap (λ m. drop m ys) same
drop_past zero k (x ∷ xs) ys e = absurd (omega (arith, e))
drop_past (suc n) k (x ∷ xs) ys e = drop_past n k xs ys (omega (arith, e))

pub halves : {X : Type 0} (n : ℕ) (xs : List X) → take n xs ++ drop n xs ≡ xs
halves zero xs = refl
halves (suc n) [] = refl
halves (suc n) (x ∷ xs) = ap (λ t. x ∷ t) (halves n xs)

-- ---- the item of a place

-- it is that of its stretch
pub place_item : (at i k : ℕ) (ss : List Stretch) (d : Stretch) (e : Item) → i < length ss → length (items_in (take i ss)) + k ≡ at → k < length (stretch_items (slice_index_or ss i d))
    → slice_index_or (items_in ss) at e ≡ slice_index_or (stretch_items (slice_index_or ss i d)) k e
place_item at i k ss d e h size within =
    ap (λ t. slice_index_or t at e) (in_two i ss ∙ ap (λ t. items_in (take i ss) ++ t) (from_index i ss d h))
    ∙ found_past at k (items_in (take i ss)) (stretch_items (slice_index_or ss i d) ++ items_in (drop (suc i) ss)) e size
    ∙ found_within k (stretch_items (slice_index_or ss i d)) (items_in (drop (suc i) ss)) e within

-- ---- a stretch cut in two

-- the stretches with the two in the place of the one
abbrev pub cut_in_two : ℕ → List Stretch → Stretch → Stretch → List Stretch
cut_in_two i ss front back = slice_set (insert ss i front) (i + 1) back

next : (i : ℕ) → suc i + 1 ≡ suc (i + 1)
next i = omega arith

pub cut_taken : (i : ℕ) (ss : List Stretch) (front back : Stretch) → i < length ss → items_in (take (i + 1) (cut_in_two i ss front back)) ≡ items_in (take i ss) ++ stretch_items front
cut_taken i [] front back h = absurd (omega (arith, h))
cut_taken zero (s ∷ ss) front back h = append-nil (stretch_items front)
cut_taken (suc i) (s ∷ ss) front back h =
    ap (λ k. items_in (take k (slice_set (insert (s ∷ ss) (suc i) front) k back))) (next i)
    ∙ ap (λ t. stretch_items s ++ t) (cut_taken i ss front back (omega (arith, h)))
    ∙ sym (append_assoc (stretch_items s) (items_in (take i ss)) (stretch_items front))

pub cut_all : (i : ℕ) (ss : List Stretch) (front back : Stretch) (k : ℕ) (d : Stretch) → i < length ss
    → stretch_items front ≡ take k (stretch_items (slice_index_or ss i d)) → stretch_items back ≡ drop k (stretch_items (slice_index_or ss i d))
    → items_in (cut_in_two i ss front back) ≡ items_in ss
cut_all i [] front back k d h f b = absurd (omega (arith, h))
cut_all zero (s ∷ ss) front back k d h f b =
    sym (append_assoc (stretch_items front) (stretch_items back) (items_in ss))
    ∙ ap (λ t. (t ++ stretch_items back) ++ items_in ss) f ∙ ap (λ t. (take k (stretch_items s) ++ t) ++ items_in ss) b
    ∙ ap (λ t. t ++ items_in ss) (halves k (stretch_items s))
cut_all (suc i) (s ∷ ss) front back k d h f b =
    ap (λ n. items_in (slice_set (insert (s ∷ ss) (suc i) front) n back)) (next i)
    ∙ ap (λ t. stretch_items s ++ t) (cut_all i ss front back k d (omega (arith, h)) f b)

-- ---- the first item of a stretch taken out

-- the stretch has no other
pub first_removed : (i : ℕ) (ss : List Stretch) (d : Stretch) → i < length ss → length (stretch_items (slice_index_or ss i d)) ≡ 1
    → items_in (remove ss i) ≡ items_in (take i ss) ++ drop 1 (items_in (drop i ss))
first_removed i ss d h size =
    remove_in_two i ss ∙ ap (λ t. items_in (take i ss) ++ t) (sym (ap (drop 1) (from_index i ss d h) ∙ alone (stretch_items (slice_index_or ss i d)) (items_in (drop (suc i) ss)) size)) where
      alone : (xs ys : List Item) → length xs ≡ 1 → drop 1 (xs ++ ys) ≡ ys
      alone [] ys e = absurd (omega (arith, e))
      alone (x ∷ []) ys e = refl
      alone (x ∷ y ∷ xs) ys e = absurd (omega (arith, e))

-- it has others
pub first_dropped : (i : ℕ) (ss : List Stretch) (rest d : Stretch) → i < length ss → 1 < length (stretch_items (slice_index_or ss i d)) → stretch_items rest ≡ drop 1 (stretch_items (slice_index_or ss i d))
    → items_in (slice_set ss i rest) ≡ items_in (take i ss) ++ drop 1 (items_in (drop i ss))
first_dropped i ss rest d h size e =
    set_in_two i ss rest h
    ∙ ap (λ t. items_in (take i ss) ++ t) (ap (λ u. u ++ items_in (drop (suc i) ss)) e ∙ sym (ap (drop 1) (from_index i ss d h) ∙ drop_append 1 (stretch_items (slice_index_or ss i d)) (items_in (drop (suc i) ss)) (omega (arith, size))))

-- ---- an item put in the place of the first of a stretch

-- the stretch has no other
pub first_put : (i : ℕ) (ss : List Stretch) (t d : Stretch) (item : Item) → i < length ss → length (stretch_items (slice_index_or ss i d)) ≡ 1 → stretch_items t ≡ item ∷ []
    → items_in (slice_set ss i t) ≡ items_in (take i ss) ++ (item ∷ drop 1 (items_in (drop i ss)))
first_put i ss t d item h size e =
    set_in_two i ss t h
    ∙ ap (λ u. items_in (take i ss) ++ (u ++ items_in (drop (suc i) ss))) e
    ∙ ap (λ u. items_in (take i ss) ++ (item ∷ u)) (sym (ap (drop 1) (from_index i ss d h) ∙ alone (stretch_items (slice_index_or ss i d)) (items_in (drop (suc i) ss)) size)) where
      alone : (xs ys : List Item) → length xs ≡ 1 → drop 1 (xs ++ ys) ≡ ys
      alone [] ys e = absurd (omega (arith, e))
      alone (x ∷ []) ys e = refl
      alone (x ∷ y ∷ xs) ys e = absurd (omega (arith, e))

-- it has others
pub first_split : (i : ℕ) (ss : List Stretch) (t rest d : Stretch) (item : Item) → i < length ss → 0 < length (stretch_items (slice_index_or ss i d)) → stretch_items t ≡ item ∷ []
    → stretch_items rest ≡ drop 1 (stretch_items (slice_index_or ss i d)) → items_in (cut_in_two i ss t rest) ≡ items_in (take i ss) ++ (item ∷ drop 1 (items_in (drop i ss)))
first_split i [] t rest d item h some e f = absurd (omega (arith, h))
first_split zero (s ∷ ss) t rest d item h some e f =
    ap (λ u. u ++ (stretch_items rest ++ items_in ss)) e
    ∙ ap (λ u. item ∷ (u ++ items_in ss)) f
    ∙ ap (λ u. item ∷ u) (sym (drop_append 1 (stretch_items s) (items_in ss) (omega (arith, some))))
first_split (suc i) (s ∷ ss) t rest d item h some e f =
    ap (λ n. items_in (slice_set (insert (s ∷ ss) (suc i) t) n rest)) (next i)
    ∙ ap (λ u. stretch_items s ++ u) (first_split i ss t rest d item (omega (arith, h)) some e f)
    ∙ sym (append_assoc (stretch_items s) (items_in (take i ss)) (item ∷ drop 1 (items_in (drop i ss))))

-- ---- the steps of an edit

-- a stretch cut so that the item of a place is the first of its stretch
pub cut_there : (at : ℕ) (ss new : List Stretch) (p : ℕ × ℕ) (s front back : Stretch) → IsPlaceOfItem at ss p → p.0 < length ss → s ≡ slice_index_or ss p.0 s
    → stretch_items front ≡ take p.1 (stretch_items s) → stretch_items back ≡ drop p.1 (stretch_items s) → new ≡ cut_in_two p.0 ss front back
    → (items_in new ≡ items_in ss) × (length (items_in (take (p.0 + 1) new)) ≡ at)
cut_there at ss new p s front back place h is f b made =
    let there = ap stretch_items is in
    let within = place.2 s h in
    let size = ap length (f ∙ ap (take p.1) there) ∙ length-take-le p.1 (stretch_items (slice_index_or ss p.0 s)) (omega (arith, within)) in
    let taken = ap length (ap (λ n. items_in (take (p.0 + 1) n)) made ∙ cut_taken p.0 ss front back h) ∙ length-append (items_in (take p.0 ss)) (stretch_items front) in (
      ap items_in made ∙ cut_all p.0 ss front back p.1 s h (f ∙ ap (take p.1) there) (b ∙ ap (drop p.1) there),
      omega (arith, taken, size, place.1),
    )

-- no stretch of more than one item has one that stands alone
pub alone_there : (at : ℕ) (ss : List Stretch) (p : ℕ × ℕ) (s : Stretch) → p.0 < length ss → s ≡ slice_index_or ss p.0 s → IsPlaceOfItem at ss p
    → 0 < p.1 → ((k : ℕ) (d : Item) → k < length (stretch_items s) → 1 < length (stretch_items s) → stands_alone (slice_index_or (stretch_items s) k d) ≡ false) → StandsAloneAt (items_in ss) at → ⊥
alone_there at ss p s h is place some silent alone =
    let within = place.2 s h in
    let there = ap stretch_items is in
    let same = place_item at p.0 p.1 ss s (Plain []) h place.1 within in
    let size = ap length there in
    let off = silent p.1 (Plain []) (omega (arith, within, size)) (omega (arith, within, size, some)) in
    let on = alone (Plain []) in
    let both : true ≡ false = sym on ∙ ap stands_alone (same ∙ ap (λ t. slice_index_or t p.1 (Plain [])) (sym there)) ∙ off in
    absurd (cc)

pub inserted : (at i : ℕ) (old mid new : List Stretch) (t : Stretch) (item : Item) → items_in mid ≡ items_in old → i ≤ length mid → length (items_in (take i mid)) ≡ at → stretch_items t ≡ item ∷ [] → new ≡ insert mid i t
    → items_in new ≡ insert (items_in old) at item
inserted at i old mid new t item same h size e made =
    ap items_in made ∙ insert_in_two i mid t h ∙ ap (λ u. items_in (take i mid) ++ (u ++ items_in (drop i mid))) e
    ∙ sym (insert_at at (items_in (take i mid)) (items_in (drop i mid)) item size) ∙ ap (λ xs. insert xs at item) (sym (in_two i mid) ∙ same)

pub removed : (at i : ℕ) (old mid new : List Stretch) → items_in mid ≡ items_in old → length (items_in (take i mid)) ≡ at → items_in new ≡ items_in (take i mid) ++ drop 1 (items_in (drop i mid))
    → items_in new ≡ remove (items_in old) at
removed at i old mid new same size made =
    made ∙ sym (remove_at at (items_in (take i mid)) (items_in (drop i mid)) size) ∙ ap (λ xs. remove xs at) (sym (in_two i mid) ∙ same)

pub replaced : (at i : ℕ) (old mid new : List Stretch) (item : Item) → items_in mid ≡ items_in old → length (items_in (take i mid)) ≡ at → at < length (items_in old)
    → items_in new ≡ items_in (take i mid) ++ (item ∷ drop 1 (items_in (drop i mid))) → items_in new ≡ slice_set (items_in old) at item
replaced at i old mid new item same size h made =
    let whole = sym same ∙ in_two i mid in
    let within = ap length whole in
    made ∙ sym (set_at at (items_in (take i mid)) (items_in (drop i mid)) item size (omega (arith, within, h))) ∙ ap (λ xs. slice_set xs at item) (sym whole)

pub length_set : {X : Type 0} (n : ℕ) (xs : List X) (x : X) → length (slice_set xs n x) ≡ length xs
length_set n [] x = refl
length_set zero (y ∷ xs) x = refl
length_set (suc n) (y ∷ xs) x = ap suc (length_set n xs x)

-- where the items in front of a place are those of some stretches, a stretch comes behind them
pub stretch_left : (at i : ℕ) (ss : List Stretch) → length (items_in (take i ss)) ≡ at → at < length (items_in ss) → i < length ss
stretch_left at i [] size h = absurd (omega (arith, h))
stretch_left at zero (s ∷ ss) size h = omega arith
stretch_left at (suc i) (s ∷ ss) size h =
    let front = length-append (stretch_items s) (items_in (take i ss)) in
    let all = length-append (stretch_items s) (items_in ss) in
    let more = stretch_left (length (items_in (take i ss))) i ss refl (omega (arith, front, all, size, h)) in
    omega (arith, more)

pub place_left : (at : ℕ) (ss : List Stretch) (p : ℕ × ℕ) → IsPlaceOfItem at ss p → at < length (items_in ss) → p.0 < length ss
place_left at ss p place h = stretch_left (length (items_in (take p.0 ss))) p.0 ss refl (omega (arith, place.1, h))

pub first_alone : (i : ℕ) (ss : List Stretch) (s : Stretch) → i < length ss → s ≡ slice_index_or ss i s → 0 < length (stretch_items s)
    → ((d : Item) → stands_alone (slice_index_or (stretch_items s) 0 d) ≡ false) → StandsAloneAt (items_in (drop i ss)) 0 → ⊥
first_alone i ss s h is some silent alone =
    let there = ap stretch_items is in
    let whole = from_index i ss s h ∙ ap (λ t. t ++ items_in (drop (suc i) ss)) (sym there) in
    let first = found_within 0 (stretch_items s) (items_in (drop (suc i) ss)) (Plain []) some in
    let both : true ≡ false = sym (alone (Plain [])) ∙ ap (λ t. stands_alone (slice_index_or t 0 (Plain []))) whole ∙ ap stands_alone first ∙ silent (Plain []) in
    absurd (cc)

pub alone_past : (at i : ℕ) (old mid : List Stretch) → items_in mid ≡ items_in old → length (items_in (take i mid)) ≡ at → StandsAloneAt (items_in old) at → StandsAloneAt (items_in (drop i mid)) 0
alone_past at i old mid same size alone d =
    let there = ap (λ t. slice_index_or t at d) (sym same ∙ in_two i mid) ∙ found_past at 0 (items_in (take i mid)) (items_in (drop i mid)) d (omega (arith, size)) in
    ap stands_alone (sym there) ∙ alone d

pub length_lines : (ls : List (List ℕ)) → length (line_items ls) ≡ length ls
length_lines [] = refl
length_lines (l ∷ ls) = ap suc (length_lines ls)

-- ---- items in two parts at a place

-- a place within a stretch
pub split_front : (at : ℕ) (ss before : List Stretch) (p : ℕ × ℕ) (s : Stretch) (front : List Item) → IsPlaceOfItem at ss p → (p.0 ≡ length ss → ⊥) → s ≡ slice_index_or ss p.0 s → before ≡ take p.0 ss
    → front ≡ take p.1 (stretch_items s) → items_in before ++ front ≡ take at (items_in ss)
split_front at ss before p s front place inside is b f =
    let here : p.0 < length ss = omega (arith, place.0, inside) in
    let there = ap stretch_items is in
    let within = place.2 s here in
    let all = in_two p.0 ss ∙ ap (λ t. items_in (take p.0 ss) ++ t) (from_index p.0 ss s here ∙ ap (λ t. t ++ items_in (drop (suc p.0) ss)) (sym there)) in
    let size = ap length there in
    ap (λ t. items_in t ++ front) b
    ∙ sym (
    ap (take at) all ∙ take_past at p.1 (items_in (take p.0 ss)) (stretch_items s ++ items_in (drop (suc p.0) ss)) place.1
    ∙ ap (λ t. items_in (take p.0 ss) ++ t) (take_append p.1 (stretch_items s) (items_in (drop (suc p.0) ss)) (omega (arith, size, within)) ∙ sym f)
    )

pub split_back : (at : ℕ) (ss after : List Stretch) (p : ℕ × ℕ) (s : Stretch) (back : List Item) → IsPlaceOfItem at ss p → (p.0 ≡ length ss → ⊥) → s ≡ slice_index_or ss p.0 s → after ≡ drop (p.0 + 1) ss
    → back ≡ drop p.1 (stretch_items s) → back ++ (items_in after ++ []) ≡ drop at (items_in ss)
split_back at ss after p s back place inside is a b =
    let here : p.0 < length ss = omega (arith, place.0, inside) in
    let there = ap stretch_items is in
    let within = place.2 s here in
    let all = in_two p.0 ss ∙ ap (λ t. items_in (take p.0 ss) ++ t) (from_index p.0 ss s here ∙ ap (λ t. t ++ items_in (drop (suc p.0) ss)) (sym there)) in
    let size = ap length there in
    let behind : p.0 + 1 ≡ suc p.0 = omega arith in
    ap (λ t. back ++ t) (append-nil (items_in after) ∙ ap items_in (a ∙ ap (λ k. drop k ss) behind))
    ∙ sym (
    ap (drop at) all ∙ drop_past at p.1 (items_in (take p.0 ss)) (stretch_items s ++ items_in (drop (suc p.0) ss)) place.1
    ∙ drop_append p.1 (stretch_items s) (items_in (drop (suc p.0) ss)) (omega (arith, size, within)) ∙ ap (λ t. t ++ items_in (drop (suc p.0) ss)) (sym b)
    )

-- ---- section lines with raised counts

raised_append : (f : Item → Item) (xs ys : List Item) → map f (xs ++ ys) ≡ map f xs ++ map f ys
raised_append f [] ys = refl
raised_append f (x ∷ xs) ys = ap (λ t. f x ∷ t) (raised_append f xs ys)

pub raised_lines : (s g : ℕ) (ls : List (List ℕ)) → map (raised_item s g) (line_items ls) ≡ line_items ls
raised_lines s g [] = refl
raised_lines s g (l ∷ ls) = ap (λ t. Plain l ∷ t) (raised_lines s g ls)

raised_stretch_items : (s g : ℕ) (t : Stretch) → stretch_items (raised_stretch s g t) ≡ map (raised_item s g) (stretch_items t)
raised_stretch_items s g (One item) = refl
raised_stretch_items s g (Lines ls) = sym (raised_lines s g ls)

pub raised_in : (s g : ℕ) (ss : List Stretch) → items_in (map (raised_stretch s g) ss) ≡ map (raised_item s g) (items_in ss)
raised_in s g [] = refl
raised_in s g (t ∷ ss) =
    ap (λ u. u ++ items_in (map (raised_stretch s g) ss)) (raised_stretch_items s g t)
    ∙ ap (λ u. map (raised_item s g) (stretch_items t) ++ u) (raised_in s g ss)
    ∙ sym (raised_append (raised_item s g) (stretch_items t) (items_in ss))

-- all stretches with raised counts
pub all_raised : (s g : ℕ) (ss new : List Stretch) {end : ℕ} → end ≡ length ss → new ≡ map (raised_stretch s g) (take end ss) ++ drop end ss → items_in new ≡ map (raised_item s g) (items_in ss)
all_raised s g ss new {end} e made =
    ap items_in (made ∙ ap (λ n. map (raised_stretch s g) (take n ss) ++ drop n ss) e ∙ ap (λ t. map (raised_stretch s g) t ++ drop (length ss) ss) (take_all (length ss) ss (omega arith))
    ∙ ap (λ t. map (raised_stretch s g) ss ++ t) (drop_all (length ss) ss (omega arith)) ∙ append-nil (map (raised_stretch s g) ss))
    ∙ raised_in s g ss

-- and one more
pub raised_more : (s g i : ℕ) (ss : List Stretch) (t : Stretch) → i < length ss → t ≡ slice_index_or ss i t → map (raised_item s g) (items_in (take i ss)) ≡ items_in (take i ss)
    → map (raised_item s g) (stretch_items t) ≡ stretch_items t → map (raised_item s g) (items_in (take (i + 1) ss)) ≡ items_in (take (i + 1) ss)
raised_more s g i ss t h is before here =
    let whole = ap items_in (take_more ss i t h) ∙ in_parts (take i ss) (slice_index_or ss i t) in
    let there = ap stretch_items is in
    ap (map (raised_item s g)) whole ∙ raised_append (raised_item s g) (items_in (take i ss)) (stretch_items (slice_index_or ss i t))
    ∙ ap (λ u. u ++ map (raised_item s g) (stretch_items (slice_index_or ss i t))) before
    ∙ ap (λ u. items_in (take i ss) ++ u) (ap (map (raised_item s g)) (sym there) ∙ here ∙ there)
    ∙ sym whole where
      in_parts : (ts : List Stretch) (u : Stretch) → items_in (ts ++ u ∷ []) ≡ items_in ts ++ stretch_items u
      in_parts [] u = append-nil (stretch_items u)
      in_parts (v ∷ ts) u = ap (λ k. stretch_items v ++ k) (in_parts ts u) ∙ sym (append_assoc (stretch_items v) (items_in ts) (stretch_items u))
