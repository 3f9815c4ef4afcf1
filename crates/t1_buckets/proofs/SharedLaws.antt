-- Elements by their buckets, which copies share.
use Rattle.std.proofs.Common.{◌≡◌, ◌<◌, ◌≤◌, ◌+◌, Bool, true, false, if◌then◌else◌, ℕ, zero, suc, ◌⊎◌, inl, inr, Option, Some, None, Result, Ok, Err, OnErr, IfSome, IsOk, List, [], ◌∷◌, ◌++◌, length, take, drop, refl, sym, subst, ◌∙◌, ap, arith}
use Rattle.std.specs.List.{slice_index_or, slice_set, insert, remove}
use Rattle.std.specs.declared.alloc.Global.{Global}
use Rattle.std.specs.declared.rc.Rc.{Rc}
use Rattle.std.proofs.lemmas.List.{append_assoc, append-nil, get_or-map, get_or_default, length-map, map-set, take-map}
use Rattle.std.proofs.lemmas.List.Edits.{insert_end}
use Rattle.std.proofs.lemmas.Option.{same_Some}
use Rattle.std.proofs.Math.Seq.{map-set_same}
use Rattle.t1_buckets.specs.Buckets.{Shared, bucket_at, buckets_joined, lists_of, shared_joined}
use Rattle.t1_buckets.specs.BucketPlaces.{IsPlaceInBuckets}
use Rattle.t1_buckets.proofs.JoinLaws.{bucket_removed, cut_same, element_at, fewer, insert_at, none_past, pushed_last, remove_at, set_at}

-- ---- what an answer says

-- where memory ran out
pub at_err : {T E P : Type 0} (r : Result T E) (x : E) → r ≡ Err x → OnErr r P → P
at_err (Ok t) x e h = absurd (cc)
at_err (Err y) x e h = h

pub on_err_since : {T E P : Type 0} (r : Result T E) → P → OnErr r P
on_err_since (Ok t) p = tt
on_err_since (Err e) p = p

-- where there is one
pub some_at : {X : Type 0} (P : X → Type 0) (o : Option X) (x : X) → o ≡ Some x → IfSome o P → P x
some_at P None x e h = absurd (cc)
some_at P (Some y) x e h = subst P (same_Some y x e) h

-- where it didn't
pub is_ok_at : {T E : Type 0} (r : Result T E) (x : T) → r ≡ Ok x → IsOk r
is_ok_at (Ok t) x e = refl
is_ok_at (Err y) x e = absurd (cc)

-- what is written, or a clone of it
pub either : {X : Type 0} (x y : X) → (x ≡ y) ⊎ (x ≡ y) → x ≡ y
either x y h = elim h [ inl e ↦ e | inr e ↦ e ]

next : (i : ℕ) → suc i + 1 ≡ suc (i + 1)
next i = omega arith

module _ {T : Type 0} where
  -- ---- the lists of buckets

  pub lists_length : (bs : Shared T) → length (lists_of bs) ≡ length bs
  lists_length bs = length-map bs (λ b. b.value)

  pub lists_at : (i : ℕ) (bs : Shared T) (b : Rc (List T) Global) (d : List T) → i < length bs → b ≡ slice_index_or bs i b → slice_index_or (lists_of bs) i d ≡ b.value
  lists_at i bs b d h is = get_or-map (λ b. b.value) bs i b d h ∙ ap (λ b. b.value) (sym is)

  pub lists_taken : (i : ℕ) (bs : Shared T) → buckets_joined (take i (lists_of bs)) ≡ shared_joined (take i bs)
  lists_taken i bs = ap buckets_joined (take-map (λ b. b.value) i bs)

  lists_removed : (i : ℕ) (bs : Shared T) → lists_of (remove bs i) ≡ remove (lists_of bs) i
  lists_removed zero [] = refl
  lists_removed zero (b ∷ bs) = refl
  lists_removed (suc i) [] = refl
  lists_removed (suc i) (b ∷ bs) = ap (λ t. b.value ∷ t) (lists_removed i bs)

  -- ---- places

  pub place_in : (at index left : ℕ) (bs : Shared T) (b : Rc (List T) Global) → index < length bs → b ≡ slice_index_or bs index b → length (shared_joined (take index bs)) + left ≡ at → left < length b.value
      → IsPlaceInBuckets at (lists_of bs) (index, left)
  place_in at index left bs b h is size within = (
    let same = lists_length bs in omega (arith, h, same),
    let before = ap length (lists_taken index bs) in omega (arith, before, size),
    λ d. let here = ap length (lists_at index bs b d h is) in omega (arith, here, within),
  )

  pub place_past : (at left n : ℕ) (bs : Shared T) → at < length (shared_joined bs) → length (shared_joined (take n bs)) + left ≡ at → length bs ≤ n → ⊥
  place_past at left n bs h size past =
      let before = ap length (lists_taken n bs) in
      let same = lists_length bs in
      none_past at left n (lists_of bs) h (omega (arith, before, size)) (omega (arith, past, same))

  -- the elements of one bucket more
  pub more_taken : (i : ℕ) (bs : Shared T) (b : Rc (List T) Global) → i < length bs → b ≡ slice_index_or bs i b → shared_joined (take (i + 1) bs) ≡ shared_joined (take i bs) ++ b.value
  more_taken i [] b h is = absurd (omega (arith, h))
  more_taken zero (c ∷ bs) b h is = append-nil c.value ∙ ap (λ b. b.value) (sym is)
  more_taken (suc i) (c ∷ bs) b h is =
      ap (λ k. shared_joined (take k (c ∷ bs))) (next i) ∙ ap (λ t. c.value ++ t) (more_taken i bs b (omega (arith, h)) is) ∙ sym (append_assoc c.value (shared_joined (take i bs)) b.value)

  -- the elements of all buckets are those before one, its own, and those after it
  pub around : (i : ℕ) (bs : Shared T) (b : Rc (List T) Global) → i < length bs → b ≡ slice_index_or bs i b → shared_joined bs ≡ shared_joined (take i bs) ++ (b.value ++ shared_joined (drop (i + 1) bs))
  around i [] b h is = absurd (omega (arith, h))
  around zero (c ∷ bs) b h is = ap (λ b. b.value ++ shared_joined bs) (sym is)
  around (suc i) (c ∷ bs) b h is =
      ap (λ t. c.value ++ t) (around i bs b (omega (arith, h)) is)
      ∙ sym (append_assoc c.value (shared_joined (take i bs)) (b.value ++ shared_joined (drop (i + 1) bs)))
      ∙ ap (λ k. (c.value ++ shared_joined (take i bs)) ++ (b.value ++ shared_joined (drop k (c ∷ bs)))) (sym (next i))

  pub taken_within : (i : ℕ) (bs : Shared T) → length (shared_joined (take i bs)) ≤ length (shared_joined bs)
  taken_within i bs = let before = ap length (lists_taken i bs) in omega (arith, before, fewer i (lists_of bs))

  -- a bucket that is added
  pub pushed_bucket : (bs : Shared T) (b : Rc (List T) Global) → shared_joined (bs ++ b ∷ []) ≡ shared_joined bs ++ b.value
  pushed_bucket [] b = append-nil b.value
  pushed_bucket (c ∷ bs) b = ap (λ t. c.value ++ t) (pushed_bucket bs b) ∙ sym (append_assoc c.value (shared_joined bs) b.value)

  -- ---- a bucket in the place of another
  pub bucket_here : (i : ℕ) (bs : Shared T) (b : Rc (List T) Global) → i < length bs → b ≡ slice_index_or bs i b → bucket_at i bs ≡ b.value
  bucket_here i bs b h is = lists_at i bs b [] h is

  pub bucket_set : (i : ℕ) (bs : Shared T) (b : Rc (List T) Global) (items : List T) → b.value ≡ items → lists_of (slice_set bs i b) ≡ slice_set (lists_of bs) i items
  bucket_set i bs b items e = map-set (λ b. b.value) bs i b ∙ ap (slice_set (lists_of bs) i) e

  pub bucket_same : (i : ℕ) (bs : Shared T) (b old : Rc (List T) Global) → old ≡ slice_index_or bs i old → b.value ≡ old.value → lists_of (slice_set bs i b) ≡ lists_of bs
  bucket_same i bs b old is e = map-set_same (λ b. b.value) bs i b old (e ∙ ap (λ b. b.value) is)

  -- ---- a bucket cut in two

  lists_inserted : (i : ℕ) (bs : Shared T) (b : Rc (List T) Global) → lists_of (insert bs i b) ≡ insert (lists_of bs) i b.value
  lists_inserted zero bs b = refl
  lists_inserted (suc i) [] b = refl
  lists_inserted (suc i) (c ∷ bs) b = ap (λ t. c.value ∷ t) (lists_inserted i bs b)

  pub cut_buckets : (i : ℕ) (old mid new : Shared T) (b f k : Rc (List T) Global) (is_in : Bool) → mid ≡ old → i < length old → b ≡ slice_index_or old i b → f.value ++ k.value ≡ b.value → is_in ≡ true
      → new ≡ (if is_in then insert (slice_set mid i f) (i + 1) k else slice_set mid i f) → shared_joined new ≡ shared_joined old
  cut_buckets i old mid new b f k false same h is e room made = absurd (cc)
  cut_buckets i old mid new b f k true same h is e room made =
      let size = lists_length old in
      ap shared_joined (made ∙ ap (λ bs. insert (slice_set bs i f) (i + 1) k) same)
      ∙ ap buckets_joined (lists_inserted (i + 1) (slice_set old i f) k ∙ ap (λ t. insert t (i + 1) k.value) (map-set (λ b. b.value) old i f))
      ∙ cut_same i (lists_of old) b.value f.value k.value (omega (arith, h, size)) (sym (lists_at i old b b.value h is)) e

  -- ---- an element of a place

  module _ (at : ℕ) (bs : Shared T) (p : ℕ × ℕ) (place : IsPlaceInBuckets at (lists_of bs) p) where
    own : bucket_at p.0 bs ≡ slice_index_or (lists_of bs) p.0 (bucket_at p.0 bs)
    own = get_or_default (lists_of bs) p.0 [] (bucket_at p.0 bs) place.0

    pub index_within : p.0 < length bs
    index_within = let same = lists_length bs in omega (arith, same, place.0)

    pub offset_within : p.1 < length (bucket_at p.0 bs)
    offset_within = place.2 []

    pub item_there : (d : T) → slice_index_or (shared_joined bs) at d ≡ slice_index_or (bucket_at p.0 bs) p.1 d
    item_there d = element_at at (lists_of bs) p (bucket_at p.0 bs) place own d

    pub put_there : (new : Shared T) (item : T) → lists_of new ≡ slice_set (lists_of bs) p.0 (slice_set (bucket_at p.0 bs) p.1 item) → shared_joined new ≡ slice_set (shared_joined bs) at item
    put_there new item e = ap buckets_joined e ∙ set_at at (lists_of bs) p (bucket_at p.0 bs) place own item

    pub inserted_there : (new : Shared T) (item : T) → lists_of new ≡ slice_set (lists_of bs) p.0 (insert (bucket_at p.0 bs) p.1 item) → shared_joined new ≡ insert (shared_joined bs) at item
    inserted_there new item e = ap buckets_joined e ∙ insert_at at (lists_of bs) p (bucket_at p.0 bs) place own item

    pub taken_there : (new : Shared T) → lists_of new ≡ slice_set (lists_of bs) p.0 (remove (bucket_at p.0 bs) p.1) → shared_joined new ≡ remove (shared_joined bs) at
    taken_there new e = ap buckets_joined e ∙ remove_at at (lists_of bs) p (bucket_at p.0 bs) place own

    pub gone_there : (new : Shared T) → new ≡ remove bs p.0 → length (bucket_at p.0 bs) ≡ 1 → shared_joined new ≡ remove (shared_joined bs) at
    gone_there new e one = ap shared_joined e ∙ ap buckets_joined (lists_removed p.0 bs) ∙ bucket_removed at (lists_of bs) p (bucket_at p.0 bs) place own one

  -- an element put in at the end
  pub added_last : (i end : ℕ) (bs new : Shared T) (item : T) → i + 1 ≡ length bs → end ≡ length (bucket_at i bs) → lists_of new ≡ slice_set (lists_of bs) i (insert (bucket_at i bs) end item)
      → shared_joined new ≡ shared_joined bs ++ item ∷ []
  added_last i end bs new item last e made =
      let same = lists_length bs in
      ap buckets_joined (made ∙ ap (slice_set (lists_of bs) i) (ap (λ n. insert (bucket_at i bs) n item) e ∙ insert_end (bucket_at i bs) item))
      ∙ pushed_last i (lists_of bs) (bucket_at i bs) item (omega (arith, last, same)) (get_or_default (lists_of bs) i [] (bucket_at i bs) (omega (arith, last, same)))
