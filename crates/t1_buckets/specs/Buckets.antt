-- Elements that stand in buckets.
use Rattle.std.specs.Prelude.{ℕ, List, [], flat_map, map}
use Rattle.std.specs.List.{slice_index_or}
use Rattle.std.specs.declared.alloc.Global.{Global}
use Rattle.std.specs.declared.rc.Rc.{Rc}

module _ {T : Type 0} where
  -- profile: the elements of some buckets, one bucket after another
  abbrev pub buckets_joined : List (List T) → List T
  buckets_joined buckets = flat_map (λ bucket. bucket) buckets

-- profile: buckets that copies may share
abbrev pub Shared : Type 0 → Type 0
Shared T = List (Rc (List T) Global)

module _ {T : Type 0} where
  -- profile: the elements of each of some buckets
  abbrev pub lists_of : Shared T → List (List T)
  lists_of buckets = map (λ bucket. bucket.value) buckets

  -- profile: the elements of some buckets, which copies may share
  abbrev pub shared_joined : Shared T → List T
  shared_joined buckets = buckets_joined (lists_of buckets)

  -- word: the elements of a bucket, or none
  abbrev pub bucket_at : ℕ → Shared T → List T
  bucket_at index buckets = slice_index_or (lists_of buckets) index []
