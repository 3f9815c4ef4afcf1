-- Where the entry of a key stands, and through which item its section goes.
use Rattle.std.proofs.Common.{◌≡◌, ◌≤◌, ◌<◌, ◌+◌, Bool, true, false, ℕ, zero, suc, Some, None, is_some, List, [], ◌∷◌, ◌++◌, length, take, drop, nat_lt, refl, sym, ◌∙◌, ap, inl, inr, arith}
use Rattle.std.specs.List.{list_any, position, position_or_len, slice_index_or}
use Rattle.std.proofs.lemmas.Bool.{cases_Bool, ltb-true, ltb-false}
use Rattle.std.proofs.lemmas.List.{append_assoc, append-nil, length-append}
use Rattle.std.proofs.lemmas.List.Folds.{list_any-append}
use Rattle.t1_parts.specs.declared.entry_key.EntryKey.{EntryKey}
use Rattle.t1_parts.specs.declared.entry_key.EntryKey.TheVariants.{Number, Name}
use Rattle.t1_parts.specs.declared.entry_key.ItemKind.{ItemKind}
use Rattle.t1_parts.specs.declared.entry_key.ItemKind.TheVariants as kinds
use Rattle.t1_parts.specs.declared.item.Item.{Item}
use Rattle.t1_parts.specs.declared.item.Item.TheVariants.{Plain}
use Rattle.t1_parts.specs.declared.stretch.Stretch.{Stretch}
use Rattle.t1_parts.specs.declared.stretch.Stretch.TheVariants.{One, Lines}
use Rattle.t1_parts.specs.EntryKeys.{is_entry_of, is_of_kind, IsThrough}
use Rattle.t1_parts.specs.Items.{items_in, stretch_items, line_items}
use Rattle.t1_parts.specs.Stretches.{IsPlaceOfItem}
use Rattle.t1_parts.proofs.PartLaws.{no_position, cut_position}
use Rattle.t1_parts.proofs.PlaceLaws.{any_below}
use Rattle.t1_parts.proofs.StretchLaws.{in_two, from_index, place_item}

-- ---- no plain line is an entry or a section line

line_entry : (key : EntryKey) (l : List ℕ) → is_entry_of key (Plain l) ≡ false
line_entry (Number n) l = refl
line_entry (Name g) l = refl

pub lines_entry : (key : EntryKey) (ls : List (List ℕ)) → list_any (is_entry_of key) (line_items ls) ≡ false
lines_entry key [] = refl
lines_entry key (l ∷ ls) = let off = line_entry key l in rw off (lines_entry key ls)

line_kind : (kind : ItemKind) (l : List ℕ) → is_of_kind kind (Plain l) ≡ false
line_kind kinds.Subrs l = refl
line_kind kinds.Glyphs l = refl
line_kind kinds.Sections l = refl

pub lines_kind : (kind : ItemKind) (ls : List (List ℕ)) → list_any (is_of_kind kind) (line_items ls) ≡ false
lines_kind kind [] = refl
lines_kind kind (l ∷ ls) = let off = line_kind kind l in rw off (lines_kind kind ls)

-- ---- stretch after stretch

-- the items of one stretch more
taken_further : (i : ℕ) (ss : List Stretch) (d : Stretch) → i < length ss → items_in (take (suc i) ss) ≡ items_in (take i ss) ++ stretch_items (slice_index_or ss i d)
taken_further i [] d h = absurd (omega (arith, h))
taken_further zero (s ∷ ss) d h = append-nil (stretch_items s)
taken_further (suc i) (s ∷ ss) d h =
    ap (λ t. stretch_items s ++ t) (taken_further i ss d (omega (arith, h)))
    ∙ sym (append_assoc (stretch_items s) (items_in (take i ss)) (stretch_items (slice_index_or ss i d)))

pub taken_length : (i : ℕ) (ss : List Stretch) (d : Stretch) → i < length ss → length (items_in (take (i + 1) ss)) ≡ length (items_in (take i ss)) + length (stretch_items (slice_index_or ss i d))
taken_length i ss d h =
    let next : i + 1 ≡ suc i = omega arith in
    ap (λ k. length (items_in (take k ss))) next ∙ ap length (taken_further i ss d h) ∙ length-append (items_in (take i ss)) (stretch_items (slice_index_or ss i d))

-- so are those of the stretches through the one in which a place stands
pub place_covered : (at : ℕ) (ss : List Stretch) (p : ℕ × ℕ) → IsPlaceOfItem at ss p → (p.1 ≡ 0 → ⊥) → at ≤ length (items_in (take (p.0 + 1) ss))
place_covered at ss p place some =
    elim (cases_Bool (nat_lt p.0 (length ss))) [
      | inl there ↦
          let h = ltb-true p.0 (length ss) there in
          let within = place.2 (Lines []) h in
          let more = taken_length p.0 ss (Lines []) h in
          omega (arith, place.1, within, more)
      | inr past ↦ absurd (some (place.3 (ltb-false p.0 (length ss) past)))
    ]

-- they are within all items
pub passed_within : (i : ℕ) (ss : List Stretch) (d : Stretch) → i < length ss → length (items_in (take i ss)) + length (stretch_items (slice_index_or ss i d)) ≤ length (items_in ss)
passed_within i ss d h =
    let all = ap length (in_two i ss) ∙ length-append (items_in (take i ss)) (items_in (drop i ss)) in
    let here = ap length (from_index i ss d h) ∙ length-append (stretch_items (slice_index_or ss i d)) (items_in (drop (suc i) ss)) in
    omega (arith, all, here)

-- none among them, and none in a further stretch
pub none_further : (test : Item → Bool) (i : ℕ) (ss : List Stretch) (d : Stretch) → i < length ss → list_any test (items_in (take i ss)) ≡ false → list_any test (stretch_items (slice_index_or ss i d)) ≡ false
    → list_any test (items_in (take (i + 1) ss)) ≡ false
none_further test i ss d h none off =
    let next : i + 1 ≡ suc i = omega arith in
    ap (λ k. list_any test (items_in (take k ss))) next
    ∙ ap (list_any test) (taken_further i ss d h)
    ∙ list_any-append test (items_in (take i ss)) (stretch_items (slice_index_or ss i d))
    ∙ (rw (none, off) refl)

-- the first one stands where the stretches passed have none
pub found_here : (test : Item → Bool) (i : ℕ) (ss : List Stretch) (d : Stretch) (item : Item) → i < length ss → list_any test (items_in (take i ss)) ≡ false → slice_index_or ss i d ≡ One item → test item ≡ true
    → position test (items_in ss) ≡ Some (length (items_in (take i ss)))
found_here test i ss d item h none is on =
    ap (position test) (in_two i ss ∙ ap (λ t. items_in (take i ss) ++ t) (from_index i ss d h ∙ ap (λ s. stretch_items s ++ items_in (drop (suc i) ss)) is))
    ∙ cut_position test (items_in (take i ss)) item (items_in (drop (suc i) ss)) none on

all_taken : (i : ℕ) (ss : List Stretch) → length ss ≤ i → take i ss ≡ ss
all_taken zero [] h = refl
all_taken (suc i) [] h = refl
all_taken zero (s ∷ ss) h = absurd (omega (arith, h))
all_taken (suc i) (s ∷ ss) h = ap (λ t. s ∷ t) (all_taken i ss (omega (arith, h)))

-- there is none where all were passed
pub found_nowhere : (test : Item → Bool) (i : ℕ) (ss : List Stretch) → length ss ≤ i → list_any test (items_in (take i ss)) ≡ false → position test (items_in ss) ≡ None
found_nowhere test i ss h none = no_position test (items_in ss) (ap (λ t. list_any test (items_in t)) (sym (all_taken i ss h)) ∙ none)

-- a place is found exactly where one is there
pub found_any : {X : Type 0} (test : X → Bool) (xs : List X) → is_some (position test xs) ≡ list_any test xs
found_any test xs = elim (cases_Bool (nat_lt (position_or_len test xs) (length xs))) [
  | inl there ↦ (let any = any_below test xs in rw there (sym there ∙ any))
  | inr nowhere ↦ (let any = any_below test xs in rw nowhere (sym nowhere ∙ any))
]

-- ---- from the end

drop_front : {X : Type 0} (n : ℕ) (xs ys : List X) → n ≡ length xs → drop n (xs ++ ys) ≡ ys
drop_front zero [] ys e = refl
drop_front (suc n) [] ys e = absurd (omega (arith, e))
drop_front zero (x ∷ xs) ys e = absurd (omega (arith, e))
drop_front (suc n) (x ∷ xs) ys e = drop_front n xs ys (omega (arith, e))

-- none in a stretch, and none behind it
pub none_behind : (test : Item → Bool) (i : ℕ) (ss : List Stretch) (d : Stretch) → i < length ss → list_any test (stretch_items (slice_index_or ss i d)) ≡ false → list_any test (items_in (drop (i + 1) ss)) ≡ false
    → list_any test (items_in (drop i ss)) ≡ false
none_behind test i ss d h off none =
    let next : i + 1 ≡ suc i = omega arith in
    let behind = ap (λ k. list_any test (items_in (drop k ss))) (sym next) ∙ none in
    ap (list_any test) (from_index i ss d h)
    ∙ list_any-append test (stretch_items (slice_index_or ss i d)) (items_in (drop (suc i) ss))
    ∙ (rw (off, behind) refl)

-- the items that are left, without those of the last stretch
pub left_before : (i n : ℕ) (ss : List Stretch) (d : Stretch) → i < length ss → n ≡ length (items_in (take (i + 1) ss)) → n ≡ length (items_in (take i ss)) + length (stretch_items (slice_index_or ss i d))
left_before i n ss d h e =
    let next : i + 1 ≡ suc i = omega arith in
    e ∙ ap (λ k. length (items_in (take k ss))) next ∙ ap length (taken_further i ss d h) ∙ length-append (items_in (take i ss)) (stretch_items (slice_index_or ss i d))

-- the last one is the item of a stretch behind which none is
pub through_here : (test : Item → Bool) (i n : ℕ) (ss : List Stretch) (d : Stretch) (item : Item) → i < length ss → n ≡ length (items_in (take (i + 1) ss)) → list_any test (items_in (drop (i + 1) ss)) ≡ false
    → slice_index_or ss i d ≡ One item → test item ≡ true → IsThrough test (items_in ss) n
through_here test i n ss d item h e none is on =
    let whole = in_two (i + 1) ss in
    let size = ap length whole ∙ length-append (items_in (take (i + 1) ss)) (items_in (drop (i + 1) ss)) in
    let before = left_before i n ss d h e in
    let one = ap (λ s. length (stretch_items s)) is in (
      omega (arith, size, e),
      ap (λ t. list_any test (drop n t)) whole ∙ ap (list_any test) (drop_front n (items_in (take (i + 1) ss)) (items_in (drop (i + 1) ss)) e) ∙ none,
      λ m e2 last.
          ap test (place_item m i 0 ss d e2 h (omega (arith, before, one, last)) (omega (arith, one)) ∙ ap (λ s. slice_index_or (stretch_items s) 0 e2) is) ∙ on,
    )

-- there is none at all
pub through_none : (test : Item → Bool) (items : List Item) → list_any test items ≡ false → IsThrough test items 0
through_none test items none = (omega arith, none, λ m d last. absurd (omega (arith, last)))
