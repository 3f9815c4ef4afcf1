-- Items by their blocks.
use Rattle.std.proofs.Common.{◌≡◌, ◌<◌, ◌≤◌, ◌+◌, ℕ, zero, suc, Option, Some, None, MatchOption, List, [], ◌∷◌, ◌++◌, length, map, take, drop, refl, sym, ◌∙◌, ap, arith}
use Rattle.std.specs.Borrow.{Bor}
use Rattle.std.specs.List.{slice_index_or, slice_set}
use Rattle.std.specs.declared.alloc.Global.{Global}
use Rattle.std.specs.declared.rc.Rc.{Rc}
use Rattle.std.proofs.lemmas.List.{append_assoc, drop-map, get_or_default, length-append, length-drop, length-map, length-take-le, map-append, take-map}
use Rattle.std.proofs.lemmas.List.Edits.{map_over_more}
use Rattle.std.proofs.lemmas.Grind.{flat_map-append}
use Rattle.t1_buckets.specs.Buckets.{Shared, bucket_at, buckets_joined, lists_of, shared_joined}
use Rattle.t1_buckets.specs.BucketPlaces.{IsPlaceInBuckets}
use Rattle.t1_buckets.proofs.JoinLaws.{one_more}
use Rattle.t1_buckets.proofs.SharedLaws.{around, bucket_here, index_within, lists_length, lists_taken, offset_within}
use Rattle.t1_parts.specs.declared.item.Item.{Item}
use Rattle.t1_parts.specs.declared.stretch.Stretch.{Stretch}
use Rattle.t1_parts.specs.Counts.{raised_item}
use Rattle.t1_parts.specs.Items.{stretch_items}
use Rattle.t1_parts.proofs.StretchLaws.{drop_append, drop_past, take_append, take_past}

-- ---- the stretches that are left

-- the first of a part is taken off
abbrev pub IsTakenOff : Option (Bor Stretch) → List Item → List Item → Type 0
IsTakenOff o old new = MatchOption o ((old ≡ []) × (new ≡ [])) (λ s. (old ≡ stretch_items s.now ++ new) × (0 < length (stretch_items s.now)))

-- that part is a block, before others
pub taken_in_block : (o : Option (Bor Stretch)) (block left rest last old new : List Item) → IsTakenOff o block left → 0 < length block → old ≡ (block ++ rest) ++ last → new ≡ left ++ (rest ++ last) → IsTakenOff o old new
taken_in_block None block left rest last old new taken some before after = let none = ap length taken.0 in absurd (omega (arith, none, some))
taken_in_block (Some s) block left rest last old new taken some before after = (
  before ∙ append_assoc block rest last ∙ ap (λ t. t ++ (rest ++ last)) taken.0 ∙ append_assoc (stretch_items s.now) left (rest ++ last) ∙ ap (λ t. stretch_items s.now ++ t) (sym after),
  taken.1,
)

-- ---- raised counts

pub raised_further : (s g i : ℕ) (old mid new : Shared Item) → i < length old → lists_of mid ≡ map (map (raised_item s g)) (take i (lists_of old)) ++ drop i (lists_of old)
    → lists_of new ≡ slice_set (lists_of mid) i (map (raised_item s g) (bucket_at i mid)) → lists_of new ≡ map (map (raised_item s g)) (take (i + 1) (lists_of old)) ++ drop (i + 1) (lists_of old)
raised_further s g i old mid new h inv made =
    let same = lists_length old in
    let within : i < length (lists_of mid) = over_length i (map (raised_item s g)) (lists_of old) (lists_of mid) (omega (arith, h, same)) inv in
    made ∙ map_over_more (map (raised_item s g)) (lists_of old) (lists_of mid) i (bucket_at i mid) (omega (arith, h, same)) inv (get_or_default (lists_of mid) i [] (bucket_at i mid) within) where
      over_length : {X : Type 0} (i : ℕ) (f : X → X) (xs ys : List X) → i < length xs → ys ≡ map f (take i xs) ++ drop i xs → i < length ys
      over_length i f xs ys h e =
          let size = ap length e ∙ length-append (map f (take i xs)) (drop i xs) in
          let front = length-map (take i xs) f ∙ length-take-le i xs (omega (arith, h)) in
          let back = length-drop i xs in
          omega (arith, size, front, back, h)

pub raised_through : (s g end : ℕ) (old new : Shared Item) → lists_of new ≡ map (map (raised_item s g)) (take end (lists_of old)) ++ drop end (lists_of old)
    → shared_joined new ≡ map (raised_item s g) (shared_joined (take end old)) ++ shared_joined (drop end old)
raised_through s g end old new made =
    ap buckets_joined made ∙ flat_map-append (λ b. b) (map (map (raised_item s g)) (take end (lists_of old))) (drop end (lists_of old))
    ∙ ap (λ t. t ++ buckets_joined (drop end (lists_of old))) (joined_map (raised_item s g) (take end (lists_of old)) ∙ ap (λ t. map (raised_item s g) (buckets_joined t)) (take-map (λ b. b.value) end old))
    ∙ ap (λ t. map (raised_item s g) (shared_joined (take end old)) ++ buckets_joined t) (drop-map (λ b. b.value) end old) where
      joined_map : (f : Item → Item) (ls : List (List Item)) → buckets_joined (map (map f) ls) ≡ map f (buckets_joined ls)
      joined_map f [] = refl
      joined_map f (l ∷ ls) = ap (λ t. map f l ++ t) (joined_map f ls) ∙ sym (map-append f l (buckets_joined ls))

-- ---- items in two parts at a place

module _ (at : ℕ) (bs : Shared Item) (p : ℕ × ℕ) (place : IsPlaceInBuckets at (lists_of bs) p) (b : Rc (List Item) Global) (is : b ≡ slice_index_or bs p.0 b) where
  here : p.0 < length bs
  here = index_within at bs p place

  pub offset_in : p.1 < length b.value
  offset_in = let same = ap length (bucket_here p.0 bs b here is) in omega (arith, same, offset_within at bs p place)

  taken : length (shared_joined (take p.0 bs)) + p.1 ≡ at
  taken = let same = ap length (lists_taken p.0 bs) in omega (arith, same, place.1)

  pub split_front : (items : List Item) → items ≡ take p.1 b.value → shared_joined (take p.0 bs) ++ items ≡ take at (shared_joined bs)
  split_front items e =
      let whole =
      ap (take at) (around p.0 bs b here is)
      ∙ take_past at p.1 (shared_joined (take p.0 bs)) (b.value ++ shared_joined (drop (p.0 + 1) bs)) taken
      ∙ ap (λ t. shared_joined (take p.0 bs) ++ t) (take_append p.1 b.value (shared_joined (drop (p.0 + 1) bs)) (omega (arith, offset_in)) ∙ sym e) in
      sym whole

  pub split_back : (front back : List Item) → front ++ back ≡ drop p.1 b.value → front ++ (back ++ shared_joined (drop (p.0 + 1) bs)) ≡ drop at (shared_joined bs)
  split_back front back e =
      let whole =
      ap (drop at) (around p.0 bs b here is)
      ∙ drop_past at p.1 (shared_joined (take p.0 bs)) (b.value ++ shared_joined (drop (p.0 + 1) bs)) taken
      ∙ drop_append p.1 b.value (shared_joined (drop (p.0 + 1) bs)) (omega (arith, offset_in)) in
      sym (append_assoc front back (shared_joined (drop (p.0 + 1) bs))) ∙ ap (λ t. t ++ shared_joined (drop (p.0 + 1) bs)) e ∙ sym whole

-- the blocks before one, and those from it on
pub in_two : (n : ℕ) (bs : Shared Item) → shared_joined bs ≡ shared_joined (take n bs) ++ shared_joined (drop n bs)
in_two zero bs = refl
in_two (suc n) [] = refl
in_two (suc n) (b ∷ bs) = ap (λ t. b.value ++ t) (in_two n bs) ∙ sym (append_assoc b.value (shared_joined (take n bs)) (shared_joined (drop n bs)))

-- the items through the block of a place
pub covered : (at : ℕ) (bs : Shared Item) (p : ℕ × ℕ) → IsPlaceInBuckets at (lists_of bs) p → at ≤ length (shared_joined (take (p.0 + 1) bs))
covered at bs p place =
    let same = ap length (lists_taken p.0 bs) in
    let own = one_more p.0 (lists_of bs) [] place.0 in
    let next : p.0 + 1 ≡ suc p.0 = omega arith in
    let through = ap length (ap (λ k. shared_joined (take k bs)) next ∙ sym (lists_taken (suc p.0) bs)) in
    omega (arith, own, through, place.1, place.2 [])
