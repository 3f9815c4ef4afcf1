-- Places in buckets, and what a search of them has passed.
use Rattle.std.specs.Prelude.{◌≡◌, ◌<◌, ◌+◌, ◌-◌, ℕ, Bool, true, false, Option, Some, None, List, [], length, take}
use Rattle.std.specs.Borrow.{Bor}
use Rattle.std.specs.List.{slice_index_or}
use Rattle.std.specs.Ordering.{is_lt}
use Rattle.std.specs.declared.cmp.Ordering.{Ordering}
use Rattle.t1_buckets.specs.Buckets.{buckets_joined}

module _ {T : Type 0} where
  -- word: the elements that are left of a bucket, or none
  abbrev pub in_front : Option (Bor (List T)) → List T
  in_front None = []
  in_front (Some front) = front.now

  -- word: the element of a place stands so many elements into the bucket of an index
  abbrev pub IsPlaceInBuckets : ℕ → List (List T) → ℕ × ℕ → Type 0
  IsPlaceInBuckets at buckets place =
      (place.0 < length buckets)
      × (length (buckets_joined (take place.0 buckets)) + place.1 ≡ at)
      × ((d : List T) → place.1 < length (slice_index_or buckets place.0 d))

  -- word: the last element of a bucket, of which an order answers `Less` or not
  abbrev pub EndsBefore : (T → Ordering) → List T → Bool → Type 0
  EndsBefore order bucket is_before =
      (0 < length bucket) × ((d : T) → is_lt (order (slice_index_or bucket (length bucket - 1) d)) ≡ is_before)

  -- word: the bucket in front of an index ends before what the order looks for
  abbrev pub IsAfter : (T → Ordering) → List (List T) → ℕ → Type 0
  IsAfter order buckets index = (before : ℕ) (d : List T) → before + 1 ≡ index → EndsBefore order (slice_index_or buckets before d) true

  -- word: the bucket of an index, where there is one, doesn't
  abbrev pub IsUpTo : (T → Ordering) → List (List T) → ℕ → Type 0
  IsUpTo order buckets index = (d : List T) → index < length buckets → EndsBefore order (slice_index_or buckets index d) false
