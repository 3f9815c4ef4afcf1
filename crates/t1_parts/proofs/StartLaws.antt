-- How many items stand before each of some stretches.
use Rattle.std.proofs.Common.{◌≡◌, ◌≤◌, ◌<◌, ◌+◌, ◌-◌, Bool, true, false, suc, zero, ℕ, List, [], ◌∷◌, ◌++◌, length, take, drop, map, nat_lt, if◌then◌else◌, refl, sym, ◌∙◌, ap, inl, inr, arith}
use Rattle.std.specs.List.{slice_index_or, slice_set, insert, remove}
use Rattle.std.proofs.lemmas.Bool.{cases_Bool, ltb-true, ltb-false}
use Rattle.std.proofs.lemmas.List.{append-nil, drop_all, get_or_default, length-append, take_all, take_more}
use Rattle.t1_parts.specs.declared.entry_key.EntryKey.{EntryKey}
use Rattle.t1_parts.specs.declared.item.Item.{Item}
use Rattle.t1_parts.specs.declared.stretch.Stretch.{Stretch}
use Rattle.t1_parts.specs.declared.stretch.Stretch.TheVariants.{One, Lines}
use Rattle.t1_parts.specs.EntryKeys.{is_entry_of}
use Rattle.t1_parts.specs.Items.{stretch_items, items_in}
use Rattle.t1_parts.specs.Starts.{starts_from, raised_from, lowered_from, AreStarts, IsLastStart, IsEntryOnIts}
use Rattle.t1_parts.specs.Stretches.{raised_stretch, AreSingle, IsPlaceOfItem}
use Rattle.t1_parts.proofs.EntryPlaceLaws.{taken_length, passed_within}
use Rattle.t1_parts.proofs.SingleLaws.{single_at}
use Rattle.t1_parts.proofs.StretchLaws.{place_item}

-- ---- the starts

pub starts_length : (n : ℕ) (ss : List Stretch) → length (starts_from n ss) ≡ length ss
starts_length n [] = refl
starts_length n (s ∷ ss) = ap suc (starts_length (n + length (stretch_items s)) ss)

pub start_at : (n i : ℕ) (ss : List Stretch) (d : ℕ) → i < length ss → slice_index_or (starts_from n ss) i d ≡ n + length (items_in (take i ss))
start_at n i [] d h = absurd (omega (arith, h))
start_at n zero (s ∷ ss) d h = omega arith
start_at n (suc i) (s ∷ ss) d h =
    let front = length-append (stretch_items s) (items_in (take i ss)) in
    let same : n + length (stretch_items s) + length (items_in (take i ss)) ≡ n + length (stretch_items s ++ items_in (take i ss)) = omega (arith, front) in
    start_at (n + length (stretch_items s)) i ss d (omega (arith, h)) ∙ same

-- what is read there
pub start_read : (i d : ℕ) (starts : List ℕ) (ss : List Stretch) → starts ≡ starts_from 0 ss → i < length ss → slice_index_or starts i d ≡ length (items_in (take i ss))
start_read i d starts ss e h =
    let whole : 0 + length (items_in (take i ss)) ≡ length (items_in (take i ss)) = omega arith in
    ap (λ xs. slice_index_or xs i d) e ∙ start_at 0 i ss d h ∙ whole

pub first_start : (d : ℕ) (starts : List ℕ) (ss : List Stretch) → starts ≡ starts_from 0 ss → 0 < length ss → slice_index_or starts 0 d ≡ 0
first_start d starts ss e h = start_read 0 d starts ss e h

-- what is kept of them, where each is one item and where not
pub single_kept : (single : Bool) (starts : List ℕ) (ss : List Stretch) → single ≡ true → AreSingle ss → AreStarts single starts ss
single_kept single starts ss on h = (λ same. h, λ off. (let both : true ≡ false = sym on ∙ off in absurd (cc)))

pub starts_kept : (single : Bool) (starts : List ℕ) (ss : List Stretch) → single ≡ false → starts ≡ starts_from 0 ss → AreStarts single starts ss
starts_kept single starts ss off e = (λ on. (let both : true ≡ false = sym on ∙ off in absurd (cc)), λ same. e)

-- no stretch is cut where each is one item
pub not_single : (single : Bool) (i m n : ℕ) (starts : List ℕ) (ss : List Stretch) (d : Stretch) → AreStarts single starts ss → i < length ss → length (stretch_items (slice_index_or ss i d)) ≡ m + n → 0 < m → 0 < n
    → single ≡ false
not_single false i m n starts ss d kept h size front back = refl
not_single true i m n starts ss d kept h size front back = let one = single_at i ss d (kept.0 refl) h in absurd (omega (arith, one, size, front, back))

-- what was put in where room was made
pub room_kept : (is_in : Bool) (xs made old : List ℕ) → is_in ≡ true → xs ≡ (if is_in then made else old) → xs ≡ made
room_kept true xs made old room e = e
room_kept false xs made old room e = absurd (cc)

-- ---- a stretch at the end

pushed_from : (n : ℕ) (ss : List Stretch) (s : Stretch) → starts_from n ss ++ (n + length (items_in ss)) ∷ [] ≡ starts_from n (ss ++ s ∷ [])
pushed_from n [] s = let same : n + 0 ≡ n = omega arith in ap (λ k. k ∷ []) same
pushed_from n (t ∷ ss) s =
    let front = length-append (stretch_items t) (items_in ss) in
    let same : n + length (stretch_items t ++ items_in ss) ≡ n + length (stretch_items t) + length (items_in ss) = omega (arith, front) in
    ap (λ k. n ∷ (starts_from (n + length (stretch_items t)) ss ++ k ∷ [])) same ∙ ap (λ u. n ∷ u) (pushed_from (n + length (stretch_items t)) ss s)

pub starts_pushed : (len : ℕ) (starts : List ℕ) (ss : List Stretch) (s : Stretch) → starts ≡ starts_from 0 ss → len ≡ length (items_in ss) → starts ++ len ∷ [] ≡ starts_from 0 (ss ++ s ∷ [])
starts_pushed len starts ss s e size =
    let same : len ≡ 0 + length (items_in ss) = omega (arith, size) in
    ap (λ xs. xs ++ len ∷ []) e ∙ ap (λ k. starts_from 0 ss ++ k ∷ []) same ∙ pushed_from 0 ss s

-- those of the stretches through an index
pub starts_further : (i n : ℕ) (starts : List ℕ) (ss : List Stretch) (d : Stretch) → i < length ss → starts ≡ starts_from 0 (take i ss) → n ≡ length (items_in (take i ss)) → starts ++ n ∷ [] ≡ starts_from 0 (take (i + 1) ss)
starts_further i n starts ss d h e size = starts_pushed n starts (take i ss) (slice_index_or ss i d) e size ∙ ap (starts_from 0) (sym (take_more ss i d h))

-- ---- one item put in

raised_all : (n : ℕ) (ss : List Stretch) → raised_from zero (starts_from n ss) ≡ starts_from (n + 1) ss
raised_all n [] = refl
raised_all n (s ∷ ss) =
    let same : n + length (stretch_items s) + 1 ≡ n + 1 + length (stretch_items s) = omega arith in
    ap (λ u. (n + 1) ∷ u) (raised_all (n + length (stretch_items s)) ss ∙ ap (λ k. starts_from k ss) same)

inserted_from : (n i : ℕ) (ss : List Stretch) (s : Stretch) → i ≤ length ss → length (stretch_items s) ≡ 1
    → raised_from (suc i) (insert (starts_from n ss) i (n + length (items_in (take i ss)))) ≡ starts_from n (insert ss i s)
inserted_from n zero ss s h one =
    let here : n + 0 ≡ n = omega arith in
    let more : n + 1 ≡ n + length (stretch_items s) = omega (arith, one) in
    ap (λ k. k ∷ raised_from zero (starts_from n ss)) here ∙ ap (λ u. n ∷ u) (raised_all n ss ∙ ap (λ k. starts_from k ss) more)
inserted_from n (suc i) [] s h one = absurd (omega (arith, h))
inserted_from n (suc i) (t ∷ ss) s h one =
    let m = n + length (stretch_items t) in
    let front = length-append (stretch_items t) (items_in (take i ss)) in
    let same : n + length (stretch_items t ++ items_in (take i ss)) ≡ m + length (items_in (take i ss)) = omega (arith, front) in
    ap (λ k. n ∷ raised_from (suc i) (insert (starts_from m ss) i k)) same ∙ ap (λ u. n ∷ u) (inserted_from m i ss s (omega (arith, h)) one)

pub starts_inserted : (i at : ℕ) (starts : List ℕ) (ss : List Stretch) (s : Stretch) → starts ≡ starts_from 0 ss → i ≤ length ss → at ≡ length (items_in (take i ss)) → length (stretch_items s) ≡ 1
    → raised_from (i + 1) (insert starts i at) ≡ starts_from 0 (insert ss i s)
starts_inserted i at starts ss s e h size one =
    let next : i + 1 ≡ suc i = omega arith in
    let same : at ≡ 0 + length (items_in (take i ss)) = omega (arith, size) in
    ap (λ k. raised_from k (insert starts i at)) next
    ∙ ap (λ xs. raised_from (suc i) (insert xs i at)) e
    ∙ ap (λ k. raised_from (suc i) (insert (starts_from 0 ss) i k)) same
    ∙ inserted_from 0 i ss s h one

-- the starts with one put in are small enough to be raised
insert_bound : (i j m n : ℕ) (xs : List ℕ) → i ≤ length xs → m < n → ((k : ℕ) → k < length xs → slice_index_or xs k 0 < n) → j < length (insert xs i m) → slice_index_or (insert xs i m) j 0 < n
insert_bound zero zero m n xs h here all within = here
insert_bound zero (suc j) m n xs h here all within = all j (omega (arith, within))
insert_bound (suc i) j m n [] h here all within = absurd (omega (arith, h))
insert_bound (suc i) zero m n (x ∷ xs) h here all within = all 0 (omega arith)
insert_bound (suc i) (suc j) m n (x ∷ xs) h here all within = insert_bound i j m n xs (omega (arith, h)) here (λ k inside. all (suc k) (omega (arith, inside))) (omega (arith, within))

taken_within : (i : ℕ) (ss : List Stretch) → length (items_in (take i ss)) ≤ length (items_in ss)
taken_within zero ss = omega arith
taken_within (suc i) [] = omega arith
taken_within (suc i) (s ∷ ss) =
    let front = length-append (stretch_items s) (items_in (take i ss)) in
    let all = length-append (stretch_items s) (items_in ss) in
    let more = taken_within i ss in
    omega (arith, front, all, more)

pub starts_small : (i at n j : ℕ) (starts made : List ℕ) (ss : List Stretch) → starts ≡ starts_from 0 ss → made ≡ insert starts i at → i ≤ length ss → at ≡ length (items_in (take i ss)) → length (items_in ss) < n
    → j < length made → slice_index_or made j 0 < n
starts_small i at n j starts made ss e is h size small within =
    let same = is ∙ ap (λ xs. insert xs i at) e in
    let size_of = starts_length 0 ss in
    let below = taken_within i ss in
    let each : (k : ℕ) → k < length (starts_from 0 ss) → slice_index_or (starts_from 0 ss) k 0 < n = λ k inside. (
    let read = start_at 0 k ss 0 (omega (arith, inside, size_of)) in
    let most = taken_within k ss in
    omega (arith, read, most, small)
    ) in
    let long = ap length same in
    let bound = insert_bound i j at n (starts_from 0 ss) (omega (arith, h, size_of)) (omega (arith, size, below, small)) each (omega (arith, long, within)) in
    let there = ap (λ xs. slice_index_or xs j 0) same in
    omega (arith, bound, there)

-- ---- one item taken out

lowered_all : (n : ℕ) (ss : List Stretch) → lowered_from zero (starts_from (n + 1) ss) ≡ starts_from n ss
lowered_all n [] = refl
lowered_all n (s ∷ ss) =
    let less : n + 1 - 1 ≡ n = omega arith in
    let same : n + 1 + length (stretch_items s) ≡ n + length (stretch_items s) + 1 = omega arith in
    ap (λ k. k ∷ lowered_from zero (starts_from (n + 1 + length (stretch_items s)) ss)) less
    ∙ ap (λ k. n ∷ lowered_from zero (starts_from k ss)) same
    ∙ ap (λ u. n ∷ u) (lowered_all (n + length (stretch_items s)) ss)

removed_from : (n i : ℕ) (ss : List Stretch) (d : Stretch) → i < length ss → length (stretch_items (slice_index_or ss i d)) ≡ 1 → lowered_from i (remove (starts_from n ss) i) ≡ starts_from n (remove ss i)
removed_from n i [] d h one = absurd (omega (arith, h))
removed_from n zero (s ∷ ss) d h one =
    let same : n + length (stretch_items s) ≡ n + 1 = omega (arith, one) in
    ap (λ k. lowered_from zero (starts_from k ss)) same ∙ lowered_all n ss
removed_from n (suc i) (s ∷ ss) d h one = ap (λ u. n ∷ u) (removed_from (n + length (stretch_items s)) i ss d (omega (arith, h)) one)

pub starts_removed : (i : ℕ) (starts : List ℕ) (ss : List Stretch) (d : Stretch) → starts ≡ starts_from 0 ss → i < length ss → length (stretch_items (slice_index_or ss i d)) ≡ 1
    → lowered_from i (remove starts i) ≡ starts_from 0 (remove ss i)
starts_removed i starts ss d e h one = ap (λ xs. lowered_from i (remove xs i)) e ∙ removed_from 0 i ss d h one

shortened_from : (n i : ℕ) (ss : List Stretch) (rest d : Stretch) → i < length ss → length (stretch_items (slice_index_or ss i d)) ≡ length (stretch_items rest) + 1
    → lowered_from (suc i) (starts_from n ss) ≡ starts_from n (slice_set ss i rest)
shortened_from n i [] rest d h more = absurd (omega (arith, h))
shortened_from n zero (s ∷ ss) rest d h more =
    let same : n + length (stretch_items s) ≡ n + length (stretch_items rest) + 1 = omega (arith, more) in
    ap (λ k. n ∷ lowered_from zero (starts_from k ss)) same ∙ ap (λ u. n ∷ u) (lowered_all (n + length (stretch_items rest)) ss)
shortened_from n (suc i) (s ∷ ss) rest d h more = ap (λ u. n ∷ u) (shortened_from (n + length (stretch_items s)) i ss rest d (omega (arith, h)) more)

pub starts_shortened : (i : ℕ) (starts : List ℕ) (ss : List Stretch) (rest d : Stretch) → starts ≡ starts_from 0 ss → i < length ss → length (stretch_items (slice_index_or ss i d)) ≡ length (stretch_items rest) + 1
    → lowered_from (i + 1) starts ≡ starts_from 0 (slice_set ss i rest)
starts_shortened i starts ss rest d e h more =
    let next : i + 1 ≡ suc i = omega arith in
    ap (λ k. lowered_from k starts) next ∙ ap (lowered_from (suc i)) e ∙ shortened_from 0 i ss rest d h more

-- none of those behind a stretch with an item is 0
taken_more : (i j : ℕ) (ss : List Stretch) → i ≤ j → length (items_in (take i ss)) ≤ length (items_in (take j ss))
taken_more zero j ss h = omega arith
taken_more (suc i) zero ss h = absurd (omega (arith, h))
taken_more (suc i) (suc j) [] h = omega arith
taken_more (suc i) (suc j) (s ∷ ss) h =
    let front = length-append (stretch_items s) (items_in (take i ss)) in
    let further = length-append (stretch_items s) (items_in (take j ss)) in
    let more = taken_more i j ss (omega (arith, h)) in
    omega (arith, front, further, more)

pub starts_some : (i j : ℕ) (starts : List ℕ) (ss : List Stretch) (d : Stretch) → starts ≡ starts_from 0 ss → i < length ss → 0 < length (stretch_items (slice_index_or ss i d)) → i + 1 ≤ j → j < length starts
    → 0 < slice_index_or starts j 0
starts_some i j starts ss d e h some past within =
    let size = ap length e ∙ starts_length 0 ss in
    let read = ap (λ xs. slice_index_or xs j 0) e ∙ start_at 0 j ss 0 (omega (arith, within, size)) in
    let more = taken_more (i + 1) j ss past in
    let here = taken_length i ss d h in
    omega (arith, read, more, here, some)

remove_past : (i j : ℕ) (xs : List ℕ) → i ≤ j → i < length xs → slice_index_or (remove xs i) j 0 ≡ slice_index_or xs (suc j) 0
remove_past i j [] h within = absurd (omega (arith, within))
remove_past zero j (x ∷ xs) h within = refl
remove_past (suc i) zero (x ∷ xs) h within = absurd (omega (arith, h))
remove_past (suc i) (suc j) (x ∷ xs) h within = remove_past i j xs (omega (arith, h)) (omega (arith, within))

remove_length : (i : ℕ) (xs : List ℕ) → i < length xs → length (remove xs i) + 1 ≡ length xs
remove_length i [] h = absurd (omega (arith, h))
remove_length zero (x ∷ xs) h = omega arith
remove_length (suc i) (x ∷ xs) h = let less = remove_length i xs (omega (arith, h)) in omega (arith, less)

pub starts_some_left : (i j : ℕ) (starts made : List ℕ) (ss : List Stretch) (d : Stretch) → starts ≡ starts_from 0 ss → made ≡ remove starts i → i < length ss → 0 < length (stretch_items (slice_index_or ss i d)) → i ≤ j → j < length made
    → 0 < slice_index_or made j 0
starts_some_left i j starts made ss d e is h some past within =
    let size = ap length e ∙ starts_length 0 ss in
    let left = ap length is in
    let less = remove_length i starts (omega (arith, h, size)) in
    let there = ap (λ xs. slice_index_or xs j 0) is ∙ remove_past i j starts past (omega (arith, h, size)) in
    let some_there = starts_some i (suc j) starts ss d e h some (omega (arith, past)) (omega (arith, within, left, less)) in
    omega (arith, there, some_there)

-- ---- one in the place of another, and two in the place of one

set_from : (n i : ℕ) (ss : List Stretch) (s d : Stretch) → i < length ss → length (stretch_items (slice_index_or ss i d)) ≡ length (stretch_items s) → starts_from n ss ≡ starts_from n (slice_set ss i s)
set_from n i [] s d h same = absurd (omega (arith, h))
set_from n zero (t ∷ ss) s d h same = ap (λ k. n ∷ starts_from (n + k) ss) same
set_from n (suc i) (t ∷ ss) s d h same = ap (λ u. n ∷ u) (set_from (n + length (stretch_items t)) i ss s d (omega (arith, h)) same)

pub starts_set : (i : ℕ) (starts : List ℕ) (ss : List Stretch) (s d : Stretch) → starts ≡ starts_from 0 ss → i < length ss → length (stretch_items (slice_index_or ss i d)) ≡ length (stretch_items s)
    → starts ≡ starts_from 0 (slice_set ss i s)
starts_set i starts ss s d e h same = e ∙ set_from 0 i ss s d h same

split_from : (n i : ℕ) (ss : List Stretch) (front back d : Stretch) → i < length ss → length (stretch_items (slice_index_or ss i d)) ≡ length (stretch_items front) + length (stretch_items back)
    → insert (starts_from n ss) (suc i) (n + length (items_in (take i ss)) + length (stretch_items front)) ≡ starts_from n (slice_set (insert ss i front) (suc i) back)
split_from n i [] front back d h both = absurd (omega (arith, h))
split_from n zero (s ∷ ss) front back d h both =
    let here : n + 0 + length (stretch_items front) ≡ n + length (stretch_items front) = omega arith in
    let past : n + length (stretch_items s) ≡ n + length (stretch_items front) + length (stretch_items back) = omega (arith, both) in
    ap (λ k. n ∷ (k ∷ starts_from (n + length (stretch_items s)) ss)) here ∙ ap (λ k. n ∷ ((n + length (stretch_items front)) ∷ starts_from k ss)) past
split_from n (suc i) (s ∷ ss) front back d h both =
    let m = n + length (stretch_items s) in
    let before = length-append (stretch_items s) (items_in (take i ss)) in
    let same : n + length (stretch_items s ++ items_in (take i ss)) + length (stretch_items front) ≡ m + length (items_in (take i ss)) + length (stretch_items front) = omega (arith, before) in
    ap (λ k. n ∷ insert (starts_from m ss) (suc i) k) same ∙ ap (λ u. n ∷ u) (split_from m i ss front back d (omega (arith, h)) both)

pub starts_split : (i cut : ℕ) (starts : List ℕ) (ss : List Stretch) (front back d : Stretch) → starts ≡ starts_from 0 ss → i < length ss
    → length (stretch_items (slice_index_or ss i d)) ≡ length (stretch_items front) + length (stretch_items back) → cut ≡ length (items_in (take i ss)) + length (stretch_items front)
    → insert starts (i + 1) cut ≡ starts_from 0 (slice_set (insert ss i front) (i + 1) back)
starts_split i cut starts ss front back d e h both size =
    let next : i + 1 ≡ suc i = omega arith in
    let same : cut ≡ 0 + length (items_in (take i ss)) + length (stretch_items front) = omega (arith, size) in
    ap (λ k. insert starts k cut) next
    ∙ ap (λ xs. insert xs (suc i) cut) e
    ∙ ap (λ k. insert (starts_from 0 ss) (suc i) k) same
    ∙ split_from 0 i ss front back d h both
    ∙ ap (λ k. starts_from 0 (slice_set (insert ss i front) k back)) (sym next)

-- raised counts move none
pub starts_raised : (s g n end : ℕ) (ss : List Stretch) → starts_from n ss ≡ starts_from n (map (raised_stretch s g) (take end ss) ++ drop end ss)
starts_raised s g n zero ss = refl
starts_raised s g n (suc end) [] = refl
starts_raised s g n (suc end) (One item ∷ ss) = ap (λ u. n ∷ u) (starts_raised s g (n + 1) end ss)
starts_raised s g n (suc end) (Lines ls ∷ ss) = ap (λ u. n ∷ u) (starts_raised s g (n + length (stretch_items (Lines ls))) end ss)

-- ---- loops over starts

pub raise_none : (i : ℕ) (xs : List ℕ) → raised_from i (take i xs) ++ drop i xs ≡ xs
raise_none zero xs = refl
raise_none (suc i) [] = refl
raise_none (suc i) (x ∷ xs) = ap (λ u. x ∷ u) (raise_none i xs)

raise_read : (from i : ℕ) (xs : List ℕ) (d : ℕ) → i < length xs → slice_index_or (raised_from from (take i xs) ++ drop i xs) i d ≡ slice_index_or xs i d
raise_read from i [] d h = absurd (omega (arith, h))
raise_read zero zero (x ∷ xs) d h = refl
raise_read (suc from) zero (x ∷ xs) d h = refl
raise_read zero (suc i) (x ∷ xs) d h = raise_read zero i xs d (omega (arith, h))
raise_read (suc from) (suc i) (x ∷ xs) d h = raise_read from i xs d (omega (arith, h))

raise_step : (from i : ℕ) (xs : List ℕ) (x : ℕ) → from ≤ i → i < length xs → x ≡ slice_index_or xs i 0 → slice_set (raised_from from (take i xs) ++ drop i xs) i (x + 1) ≡ raised_from from (take (suc i) xs) ++ drop (suc i) xs
raise_step from i [] x past h is = absurd (omega (arith, h))
raise_step zero zero (y ∷ xs) x past h is = ap (λ k. (k + 1) ∷ xs) is
raise_step (suc from) zero (y ∷ xs) x past h is = absurd (omega (arith, past))
raise_step zero (suc i) (y ∷ xs) x past h is = ap (λ u. (y + 1) ∷ u) (raise_step zero i xs x (omega arith) (omega (arith, h)) is)
raise_step (suc from) (suc i) (y ∷ xs) x past h is = ap (λ u. y ∷ u) (raise_step from i xs x (omega (arith, past)) (omega (arith, h)) is)

pub raise_more : (from i : ℕ) (xs some : List ℕ) → from ≤ i → i < length xs → some ≡ raised_from from (take i xs) ++ drop i xs
    → (slice_index_or some i 0 ≡ slice_index_or xs i 0) × (slice_set some i (slice_index_or some i 0 + 1) ≡ raised_from from (take (i + 1) xs) ++ drop (i + 1) xs)
raise_more from i xs some past h e =
    let next : i + 1 ≡ suc i = omega arith in
    let x = slice_index_or some i 0 in
    let there = ap (λ ys. slice_index_or ys i 0) e ∙ raise_read from i xs 0 h in
    (there, ap (λ ys. slice_set ys i (x + 1)) e ∙ raise_step from i xs x past h there ∙ ap (λ k. raised_from from (take k xs) ++ drop k xs) (sym next))

pub lower_none : (i : ℕ) (xs : List ℕ) → lowered_from i (take i xs) ++ drop i xs ≡ xs
lower_none zero xs = refl
lower_none (suc i) [] = refl
lower_none (suc i) (x ∷ xs) = ap (λ u. x ∷ u) (lower_none i xs)

lower_read : (from i : ℕ) (xs : List ℕ) (d : ℕ) → i < length xs → slice_index_or (lowered_from from (take i xs) ++ drop i xs) i d ≡ slice_index_or xs i d
lower_read from i [] d h = absurd (omega (arith, h))
lower_read zero zero (x ∷ xs) d h = refl
lower_read (suc from) zero (x ∷ xs) d h = refl
lower_read zero (suc i) (x ∷ xs) d h = lower_read zero i xs d (omega (arith, h))
lower_read (suc from) (suc i) (x ∷ xs) d h = lower_read from i xs d (omega (arith, h))

lower_step : (from i : ℕ) (xs : List ℕ) (x : ℕ) → from ≤ i → i < length xs → x ≡ slice_index_or xs i 0 → slice_set (lowered_from from (take i xs) ++ drop i xs) i (x - 1) ≡ lowered_from from (take (suc i) xs) ++ drop (suc i) xs
lower_step from i [] x past h is = absurd (omega (arith, h))
lower_step zero zero (y ∷ xs) x past h is = ap (λ k. (k - 1) ∷ xs) is
lower_step (suc from) zero (y ∷ xs) x past h is = absurd (omega (arith, past))
lower_step zero (suc i) (y ∷ xs) x past h is = ap (λ u. (y - 1) ∷ u) (lower_step zero i xs x (omega arith) (omega (arith, h)) is)
lower_step (suc from) (suc i) (y ∷ xs) x past h is = ap (λ u. y ∷ u) (lower_step from i xs x (omega (arith, past)) (omega (arith, h)) is)

pub lower_more : (from i : ℕ) (xs some : List ℕ) → from ≤ i → i < length xs → some ≡ lowered_from from (take i xs) ++ drop i xs
    → (slice_index_or some i 0 ≡ slice_index_or xs i 0) × (slice_set some i (slice_index_or some i 0 - 1) ≡ lowered_from from (take (i + 1) xs) ++ drop (i + 1) xs)
lower_more from i xs some past h e =
    let next : i + 1 ≡ suc i = omega arith in
    let x = slice_index_or some i 0 in
    let there = ap (λ ys. slice_index_or ys i 0) e ∙ lower_read from i xs 0 h in
    (there, ap (λ ys. slice_set ys i (x - 1)) e ∙ lower_step from i xs x past h there ∙ ap (λ k. lowered_from from (take k xs) ++ drop k xs) (sym next))

-- ---- a vector whose elements were changed through a slice

written : (n : ℕ) (xs ys : List ℕ) → length xs ≡ length ys → n ≡ length ys → take n (xs ++ drop (length xs) ys) ≡ xs
written n xs ys same size =
    ap (λ zs. take n (xs ++ zs)) (drop_all (length xs) ys (omega (arith, same))) ∙ ap (take n) (append-nil xs) ∙ take_all n xs (omega (arith, same, size))

raised_length : (i : ℕ) (xs : List ℕ) → length (raised_from i xs) ≡ length xs
raised_length zero [] = refl
raised_length (suc i) [] = refl
raised_length zero (x ∷ xs) = ap suc (raised_length zero xs)
raised_length (suc i) (x ∷ xs) = ap suc (raised_length i xs)

pub raised_over : (i n : ℕ) (xs slice ys : List ℕ) → xs ≡ raised_from i slice → slice ≡ ys → n ≡ length ys → take n (xs ++ drop (length xs) ys) ≡ raised_from i ys
raised_over i n xs slice ys e same size =
    let made = e ∙ ap (raised_from i) same in
    written n xs ys (ap length made ∙ raised_length i ys) size ∙ made

lowered_length : (i : ℕ) (xs : List ℕ) → length (lowered_from i xs) ≡ length xs
lowered_length zero [] = refl
lowered_length (suc i) [] = refl
lowered_length zero (x ∷ xs) = ap suc (lowered_length zero xs)
lowered_length (suc i) (x ∷ xs) = ap suc (lowered_length i xs)

pub lowered_over : (i n : ℕ) (xs slice ys : List ℕ) → xs ≡ lowered_from i slice → slice ≡ ys → n ≡ length ys → take n (xs ++ drop (length xs) ys) ≡ lowered_from i ys
lowered_over i n xs slice ys e same size =
    let made = e ∙ ap (lowered_from i) same in
    written n xs ys (ap length made ∙ lowered_length i ys) size ∙ made

-- ---- places by starts

pub started_within : (at i : ℕ) (starts : List ℕ) (ss : List Stretch) (s : Stretch) → starts ≡ starts_from 0 ss → IsLastStart at starts i → s ≡ slice_index_or ss i s
    → at - slice_index_or starts i 0 < length (stretch_items s) → IsPlaceOfItem at ss (i, at - slice_index_or starts i 0)
started_within at i starts ss s e last is within =
    let size = ap length e ∙ starts_length 0 ss in
    let here : i < length ss = omega (arith, last.0, size) in
    let start = start_read i 0 starts ss e here in
    let most = last.1 0 in (
      omega (arith, here),
      omega (arith, start, most),
      λ d inside. (let same = ap (λ t. length (stretch_items t)) (is ∙ get_or_default ss i s d here) in omega (arith, within, same)),
      λ past. absurd (omega (arith, past, here)),
    )

pub started_past : (at i : ℕ) (starts : List ℕ) (ss : List Stretch) (s : Stretch) → starts ≡ starts_from 0 ss → IsLastStart at starts i → s ≡ slice_index_or ss i s
    → at ≤ length (items_in ss) → length (stretch_items s) ≤ at - slice_index_or starts i 0 → IsPlaceOfItem at ss (i + 1, 0)
started_past at i starts ss s e last is within past =
    let size = ap length e ∙ starts_length 0 ss in
    let here : i < length ss = omega (arith, last.0, size) in
    let start = start_read i 0 starts ss e here in
    let most = last.1 0 in
    let there = ap (λ t. length (stretch_items t)) is in
    let more = taken_length i ss s here in
    elim (cases_Bool (nat_lt (i + 1) (length ss))) [
      | inl inside ↦ (
          let h = ltb-true (i + 1) (length ss) inside in
          let after = last.2 0 (omega (arith, h, size)) in
          let behind = ap (λ xs. slice_index_or xs (i + 1) 0) e ∙ start_at 0 (i + 1) ss 0 h in
          absurd (omega (arith, after, behind, more, there, start, most, past))
          )
      | inr outside ↦ (
          let h = ltb-false (i + 1) (length ss) outside in
          let all = ap (λ ts. length (items_in ts)) (take_all (i + 1) ss (omega (arith, h))) in (
            omega (arith, here),
            omega (arith, more, there, start, most, past, all, within),
            λ d inside. absurd (omega (arith, inside, h)),
            λ behind. refl,
          )
          )
    ]

pub no_place : (at : ℕ) (ss : List Stretch) → length ss ≡ 0 → at ≤ length (items_in ss) → IsPlaceOfItem at ss (0, 0)
no_place at [] none within = (omega arith, omega (arith, within), λ d inside. absurd (omega (arith, inside)), λ past. refl)
no_place at (s ∷ ss) none within = absurd (omega (arith, none))

-- an entry stands where its stretch starts
pub entry_on : (key : EntryKey) (i : ℕ) (ss : List Stretch) (d : Stretch) (item : Item) → i < length ss → slice_index_or ss i d ≡ One item → is_entry_of key item ≡ true → IsEntryOnIts key ss i
entry_on key i ss d item here is on =
    let one = ap (λ s. length (stretch_items s)) is in
    let all = passed_within i ss d here in (
      here,
      λ n e. (
        omega (arith, e, all, one),
        λ f. ap (is_entry_of key) (place_item n i 0 ss d f here (omega (arith, e)) (omega (arith, one)) ∙ ap (λ s. slice_index_or (stretch_items s) 0 f) is) ∙ on,
      ),
    )
