-- Where no section line stands from a place on, after an edit.
use Rattle.std.proofs.Common.{◌≡◌, ◌≤◌, ◌<◌, ◌+◌, ◌-◌, ◌||◌, Bool, false, max, ℕ, zero, suc, List, [], ◌∷◌, ◌++◌, length, take, drop, map, refl, sym, ◌∙◌, ap, arith}
use Rattle.std.specs.List.{insert, list_any, remove, slice_set}
use Rattle.std.proofs.lemmas.Bool.{or_parts}
use Rattle.std.proofs.lemmas.List.{append_assoc, length-append, length-map, length-take-le}
use Rattle.std.proofs.lemmas.List.Edits.{length-insert, length-remove}
use Rattle.std.proofs.lemmas.List.Folds.{list_any-append}
use Rattle.t1_parts.specs.declared.item.Item.{Item}
use Rattle.t1_parts.specs.declared.item.Item.TheVariants.{Plain, Section, Subr, Glyph}
use Rattle.t1_parts.specs.declared.stretch.Stretch.{Stretch}
use Rattle.t1_parts.specs.Counts.{raised_item}
use Rattle.t1_parts.specs.EntryKeys.{is_section, AreSectionsBefore}
use Rattle.t1_parts.specs.declared.stretch.Stretch.TheVariants.{One, Lines}
use Rattle.t1_parts.specs.Items.{items_in, stretch_items}
use Rattle.t1_parts.specs.Stretches.{raised_stretch, AreSingle}
use Rattle.t1_parts.proofs.StretchLaws.{length_set}

-- ---- the rest of a list after an edit, where a test finds none in the rest

both : (test : Item → Bool) (i : Item) (xs : List Item) → test i ≡ false → list_any test xs ≡ false → list_any test (i ∷ xs) ≡ false
both test i xs off none = rw off none

later : (test : Item → Bool) (n : ℕ) (xs : List Item) → list_any test xs ≡ false → list_any test (drop n xs) ≡ false
later test zero xs none = none
later test (suc n) [] none = refl
later test (suc n) (x ∷ xs) none = later test n xs (or_parts (test x) (list_any test xs) none).1

pub later_still : (test : Item → Bool) (n k : ℕ) (xs : List Item) → n ≤ k → list_any test (drop n xs) ≡ false → list_any test (drop k xs) ≡ false
later_still test zero k xs h none = later test k xs none
later_still test (suc n) zero xs h none = absurd (omega (arith, h))
later_still test (suc n) (suc k) [] h none = refl
later_still test (suc n) (suc k) (x ∷ xs) h none = later_still test n k xs (omega (arith, h)) none

-- an item put in before the rest
put_before : (test : Item → Bool) (n at : ℕ) (xs : List Item) (i : Item) → at ≤ n → list_any test (drop n xs) ≡ false → list_any test (drop (suc n) (insert xs at i)) ≡ false
put_before test n zero xs i h none = none
put_before test zero (suc at) xs i h none = absurd (omega (arith, h))
put_before test (suc n) (suc at) [] i h none = refl
put_before test (suc n) (suc at) (x ∷ xs) i h none = put_before test n at xs i (omega (arith, h)) none

-- one put in among it
put_among : (test : Item → Bool) (n at : ℕ) (xs : List Item) (i : Item) → n ≤ at → test i ≡ false → list_any test (drop n xs) ≡ false → list_any test (drop n (insert xs at i)) ≡ false
put_among test zero zero xs i h off none = both test i xs off none
put_among test zero (suc at) [] i h off none = both test i [] off refl
put_among test zero (suc at) (x ∷ xs) i h off none =
    let parts = or_parts (test x) (list_any test xs) none in
    both test x (insert xs at i) parts.0 (put_among test zero at xs i (omega arith) off parts.1)
put_among test (suc n) zero xs i h off none = absurd (omega (arith, h))
put_among test (suc n) (suc at) [] i h off none = later test n [] refl
put_among test (suc n) (suc at) (x ∷ xs) i h off none = put_among test n at xs i (omega (arith, h)) off none

-- one taken out before the rest
gone_before : (test : Item → Bool) (n at : ℕ) (xs : List Item) → at ≤ n → list_any test (drop (suc n) xs) ≡ false → list_any test (drop n (remove xs at)) ≡ false
gone_before test n zero [] h none = later test n [] refl
gone_before test n zero (x ∷ xs) h none = none
gone_before test zero (suc at) xs h none = absurd (omega (arith, h))
gone_before test (suc n) (suc at) [] h none = refl
gone_before test (suc n) (suc at) (x ∷ xs) h none = gone_before test n at xs (omega (arith, h)) none

-- one taken out of it
gone_among : (test : Item → Bool) (n at : ℕ) (xs : List Item) → n ≤ at → list_any test (drop n xs) ≡ false → list_any test (drop n (remove xs at)) ≡ false
gone_among test zero zero [] h none = none
gone_among test zero (suc at) [] h none = none
gone_among test zero zero (x ∷ xs) h none = (or_parts (test x) (list_any test xs) none).1
gone_among test zero (suc at) (x ∷ xs) h none =
    let parts = or_parts (test x) (list_any test xs) none in
    both test x (remove xs at) parts.0 (gone_among test zero at xs (omega arith) parts.1)
gone_among test (suc n) zero xs h none = absurd (omega (arith, h))
gone_among test (suc n) (suc at) [] h none = refl
gone_among test (suc n) (suc at) (x ∷ xs) h none = gone_among test n at xs (omega (arith, h)) none

-- one in the place of another
set_before : (test : Item → Bool) (n at : ℕ) (xs : List Item) (i : Item) → at < n → list_any test (drop n xs) ≡ false → list_any test (drop n (slice_set xs at i)) ≡ false
set_before test zero at xs i h none = absurd (omega (arith, h))
set_before test (suc n) zero [] i h none = refl
set_before test (suc n) (suc at) [] i h none = refl
set_before test (suc n) zero (x ∷ xs) i h none = none
set_before test (suc n) (suc at) (x ∷ xs) i h none = set_before test n at xs i (omega (arith, h)) none

set_any : (test : Item → Bool) (n at : ℕ) (xs : List Item) (i : Item) → test i ≡ false → list_any test (drop n xs) ≡ false → list_any test (drop n (slice_set xs at i)) ≡ false
set_any test zero zero [] i off none = refl
set_any test zero (suc at) [] i off none = refl
set_any test (suc n) zero [] i off none = refl
set_any test (suc n) (suc at) [] i off none = refl
set_any test zero zero (x ∷ xs) i off none = both test i xs off (or_parts (test x) (list_any test xs) none).1
set_any test zero (suc at) (x ∷ xs) i off none =
    let parts = or_parts (test x) (list_any test xs) none in
    both test x (slice_set xs at i) parts.0 (set_any test zero at xs i off parts.1)
set_any test (suc n) zero (x ∷ xs) i off none = none
set_any test (suc n) (suc at) (x ∷ xs) i off none = set_any test n at xs i off none

-- ---- the section lines

pub pushed_some : (n : ℕ) (xs ys : List Item) → n ≡ length xs + length ys → AreSectionsBefore n (xs ++ ys)
pushed_some n xs ys e = let size = length-append xs ys in (omega (arith, e, size), ends n (xs ++ ys) (omega (arith, e, size)))
  where
    ends : (n : ℕ) (zs : List Item) → length zs ≤ n → list_any is_section (drop n zs) ≡ false
    ends zero [] h = refl
    ends (suc n) [] h = refl
    ends zero (z ∷ zs) h = absurd (omega (arith, h))
    ends (suc n) (z ∷ zs) h = ends n zs (omega (arith, h))

pub pushed_none : (n : ℕ) (xs ys : List Item) → list_any is_section ys ≡ false → AreSectionsBefore n xs → AreSectionsBefore n (xs ++ ys)
pushed_none n xs ys none h = let size = length-append xs ys in (omega (arith, h.0, size), more n xs h.0 h.1)
  where
    more : (n : ℕ) (zs : List Item) → n ≤ length zs → list_any is_section (drop n zs) ≡ false → list_any is_section (drop n (zs ++ ys)) ≡ false
    more zero zs within off = list_any-append is_section zs ys ∙ (rw (off, none) refl)
    more (suc n) [] within off = absurd (omega (arith, within))
    more (suc n) (z ∷ zs) within off = more n zs (omega (arith, within)) off

-- one item more, which is no section line
pub pushed_other : (n : ℕ) (xs : List Item) (i : Item) → is_section i ≡ false → AreSectionsBefore n xs → AreSectionsBefore n (xs ++ i ∷ [])
pushed_other n xs i off h = pushed_none n xs (i ∷ []) (both is_section i [] off refl) h

pub inserted_section : (n at most : ℕ) (xs : List Item) (i : Item) → most ≡ max n at → at ≤ length xs → AreSectionsBefore n xs → AreSectionsBefore (most + 1) (insert xs at i)
inserted_section n at most xs i e within h =
    let size = length-insert xs at i within in
    let next : most + 1 ≡ suc most = omega arith in (
      omega (arith, size, within, h.0, e),
      ap (λ k. list_any is_section (drop k (insert xs at i))) next ∙ put_before is_section most at xs i (omega (arith, e)) (later_still is_section n most xs (omega (arith, e)) h.1),
    )

pub inserted_before : (n at : ℕ) (xs : List Item) (i : Item) → at ≤ length xs → at < n → AreSectionsBefore n xs → AreSectionsBefore (n + 1) (insert xs at i)
inserted_before n at xs i within before h =
    let size = length-insert xs at i within in
    let next : n + 1 ≡ suc n = omega arith in (
      omega (arith, size, h.0),
      ap (λ k. list_any is_section (drop k (insert xs at i))) next ∙ put_before is_section n at xs i (omega (arith, before)) h.1,
    )

pub inserted_among : (n at : ℕ) (xs : List Item) (i : Item) → at ≤ length xs → n ≤ at → is_section i ≡ false → AreSectionsBefore n xs → AreSectionsBefore n (insert xs at i)
inserted_among n at xs i within behind off h =
    let size = length-insert xs at i within in
    (omega (arith, size, h.0), put_among is_section n at xs i behind off h.1)

pub removed_before : (n at : ℕ) (xs : List Item) → at < length xs → at < n → AreSectionsBefore n xs → AreSectionsBefore (n - 1) (remove xs at)
removed_before zero at xs within before h = absurd (omega (arith, before))
removed_before (suc n) at xs within before h =
    let size = length-remove xs at within in
    let less : suc n - 1 ≡ n = omega arith in (
      omega (arith, size, h.0, within),
      ap (λ k. list_any is_section (drop k (remove xs at))) less ∙ gone_before is_section n at xs (omega (arith, before)) h.1,
    )

pub removed_among : (n at : ℕ) (xs : List Item) → at < length xs → n ≤ at → AreSectionsBefore n xs → AreSectionsBefore n (remove xs at)
removed_among n at xs within behind h =
    let size = length-remove xs at within in
    (omega (arith, size, within, behind), gone_among is_section n at xs behind h.1)

pub set_section : (n at most : ℕ) (xs : List Item) (i : Item) → most ≡ max n (at + 1) → at < length xs → AreSectionsBefore n xs → AreSectionsBefore most (slice_set xs at i)
set_section n at most xs i e within h =
    let size = length_set at xs i in
    (omega (arith, size, within, h.0, e), set_before is_section most at xs i (omega (arith, e)) (later_still is_section n most xs (omega (arith, e)) h.1))

pub set_other : (n at : ℕ) (xs : List Item) (i : Item) → is_section i ≡ false → AreSectionsBefore n xs → AreSectionsBefore n (slice_set xs at i)
set_other n at xs i off h =
    let size = length_set at xs i in
    (omega (arith, size, h.0), set_any is_section n at xs i off h.1)

-- the items through such a place
pub front_is : (n : ℕ) (items front : List Item) → n ≤ length items → front ≡ take n items → (front ≡ take (length front) items) × (length front ≡ n)
front_is n items front h e =
    let size = ap length e ∙ length-take-le n items h in
    (e ∙ ap (λ k. take k items) (sym size), size)

-- raised counts move no section line
same_section : (s g : ℕ) (i : Item) → is_section (raised_item s g i) ≡ is_section i
same_section s g (Plain l) = refl
same_section s g (Section before n after) = refl
same_section s g (Subr n ws closing) = refl
same_section s g (Glyph h ws closing) = refl

same_any : (s g n : ℕ) (xs : List Item) → list_any is_section (drop n (map (raised_item s g) xs)) ≡ list_any is_section (drop n xs)
same_any s g zero [] = refl
same_any s g (suc n) [] = refl
same_any s g zero (x ∷ xs) = let here = same_section s g x in rw here (ap (λ t. is_section x || t) (same_any s g zero xs))
same_any s g (suc n) (x ∷ xs) = same_any s g n xs

pub raised_before : (s g n : ℕ) (xs ys : List Item) → ys ≡ map (raised_item s g) xs → AreSectionsBefore n xs → AreSectionsBefore n ys
raised_before s g n xs ys made h =
    let size = ap length made ∙ length-map xs (raised_item s g) in
    (omega (arith, size, h.0), ap (λ t. list_any is_section (drop n t)) made ∙ same_any s g n xs ∙ h.1)

-- ---- counts raised among the first stretches alone

raised_none : (s g : ℕ) (xs : List Item) → list_any is_section xs ≡ false → map (raised_item s g) xs ≡ xs
raised_none s g [] h = refl
raised_none s g (Plain l ∷ xs) h = ap (λ t. Plain l ∷ t) (raised_none s g xs h)
raised_none s g (Section before n after ∷ xs) h = absurd (cc)
raised_none s g (Subr n ws closing ∷ xs) h = ap (λ t. Subr n ws closing ∷ t) (raised_none s g xs h)
raised_none s g (Glyph f ws closing ∷ xs) h = ap (λ t. Glyph f ws closing ∷ t) (raised_none s g xs h)

past : {X : Type 0} (n : ℕ) (xs ys : List X) → n ≡ length xs → drop n (xs ++ ys) ≡ ys
past zero [] ys e = refl
past (suc n) [] ys e = absurd (omega (arith, e))
past zero (x ∷ xs) ys e = absurd (omega (arith, e))
past (suc n) (x ∷ xs) ys e = past n xs ys (omega (arith, e))

mapped_both : (f : Item → Item) (xs ys : List Item) → map f (xs ++ ys) ≡ map f xs ++ map f ys
mapped_both f [] ys = refl
mapped_both f (x ∷ xs) ys = ap (λ t. f x ∷ t) (mapped_both f xs ys)

items_both : (ss more : List Stretch) → items_in (ss ++ more) ≡ items_in ss ++ items_in more
items_both [] more = refl
items_both (s ∷ ss) more = ap (λ u. stretch_items s ++ u) (items_both ss more) ∙ sym (append_assoc (stretch_items s) (items_in ss) (items_in more))

-- the stretches behind have no section line
pub raised_front : (s g n : ℕ) (all front back new : List Item) → all ≡ front ++ back → AreSectionsBefore n all → n ≤ length front → new ≡ map (raised_item s g) front ++ back → new ≡ map (raised_item s g) all
raised_front s g n all front back new whole h covered made =
    let none : list_any is_section back ≡ false =
    sym (ap (λ t. list_any is_section (drop (length front) t)) whole ∙ ap (list_any is_section) (past (length front) front back refl))
    ∙ later_still is_section n (length front) all covered h.1 in
    made
    ∙ ap (λ t. map (raised_item s g) front ++ t) (sym (raised_none s g back none))
    ∙ sym (ap (map (raised_item s g)) whole ∙ mapped_both (raised_item s g) front back)

-- and stretches of one item each stay such
pub single_front : (s g end : ℕ) (ss new : List Stretch) → AreSingle ss → new ≡ map (raised_stretch s g) (take end ss) ++ drop end ss → AreSingle new
single_front s g end ss new single made = rw made (by end ss single)
  where
    by : (end : ℕ) (ss : List Stretch) → AreSingle ss → AreSingle (map (raised_stretch s g) (take end ss) ++ drop end ss)
    by zero ss h = h
    by (suc end) [] h = tt
    by (suc end) (One item ∷ ss) h = (refl, by end ss h.1)
    by (suc end) (Lines ls ∷ ss) h = (h.0, by end ss h.1)
