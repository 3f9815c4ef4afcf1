-- Elements by their buckets.
use Rattle.std.proofs.Common.{◌≡◌, ◌≤◌, ◌<◌, ◌+◌, suc, zero, ℕ, Bool, true, false, true≢false, if◌then◌else◌, List, [], ◌∷◌, ◌++◌, length, take, drop, refl, sym, ◌∙◌, ap, arith}
use Rattle.std.specs.List.{slice_index_or, slice_set, insert, remove}
use Rattle.std.proofs.lemmas.List.{append_assoc, append-nil, length-append, get_or_append_left, get_or-append-add, set-append_left, take_all}
use Rattle.std.proofs.lemmas.List.Edits.{insert-append_left, remove-append_left}
use Rattle.t1_buckets.specs.Buckets.{buckets_joined}
use Rattle.t1_buckets.specs.BucketPlaces.{IsPlaceInBuckets}

next : (i : ℕ) → suc i + 1 ≡ suc (i + 1)
next i = omega arith

module _ {T : Type 0} where
  -- ---- a place in the middle one of three lists

  set_within : (at k : ℕ) (xs ys zs : List T) (x : T) → length xs + k ≡ at → k < length ys → slice_set (xs ++ (ys ++ zs)) at x ≡ xs ++ (slice_set ys k x ++ zs)
  set_within at k [] ys zs x e h = let same : at ≡ k = omega (arith, e) in ap (λ n. slice_set (ys ++ zs) n x) same ∙ set-append_left ys zs k x h
  set_within zero k (y ∷ xs) ys zs x e h = absurd (omega (arith, e))
  set_within (suc at) k (y ∷ xs) ys zs x e h = ap (λ t. y ∷ t) (set_within at k xs ys zs x (omega (arith, e)) h)

  insert_within : (at k : ℕ) (xs ys zs : List T) (x : T) → length xs + k ≡ at → k ≤ length ys → insert (xs ++ (ys ++ zs)) at x ≡ xs ++ (insert ys k x ++ zs)
  insert_within at k [] ys zs x e h = let same : at ≡ k = omega (arith, e) in ap (λ n. insert (ys ++ zs) n x) same ∙ insert-append_left ys zs k x h
  insert_within zero k (y ∷ xs) ys zs x e h = absurd (omega (arith, e))
  insert_within (suc at) k (y ∷ xs) ys zs x e h = ap (λ t. y ∷ t) (insert_within at k xs ys zs x (omega (arith, e)) h)

  remove_within : (at k : ℕ) (xs ys zs : List T) → length xs + k ≡ at → k < length ys → remove (xs ++ (ys ++ zs)) at ≡ xs ++ (remove ys k ++ zs)
  remove_within at k [] ys zs e h = let same : at ≡ k = omega (arith, e) in ap (λ n. remove (ys ++ zs) n) same ∙ remove-append_left ys zs k h
  remove_within zero k (y ∷ xs) ys zs e h = absurd (omega (arith, e))
  remove_within (suc at) k (y ∷ xs) ys zs e h = ap (λ t. y ∷ t) (remove_within at k xs ys zs (omega (arith, e)) h)

  found_within : (at k : ℕ) (xs ys zs : List T) (d : T) → length xs + k ≡ at → k < length ys → slice_index_or (xs ++ (ys ++ zs)) at d ≡ slice_index_or ys k d
  found_within at k xs ys zs d e h =
      ap (λ n. slice_index_or (xs ++ (ys ++ zs)) n d) (sym e) ∙ get_or-append-add xs (ys ++ zs) k d ∙ get_or_append_left ys zs d k h

  -- ---- buckets in parts

  -- the elements are those in front of a bucket, its own, and those behind it
  in_three : (i : ℕ) (bs : List (List T)) (d : List T) → i < length bs → buckets_joined bs ≡ buckets_joined (take i bs) ++ (slice_index_or bs i d ++ buckets_joined (drop (suc i) bs))
  in_three i [] d h = absurd (omega (arith, h))
  in_three zero (b ∷ bs) d h = refl
  in_three (suc i) (b ∷ bs) d h =
      ap (λ t. b ++ t) (in_three i bs d (omega (arith, h))) ∙ sym (append_assoc b (buckets_joined (take i bs)) (slice_index_or bs i d ++ buckets_joined (drop (suc i) bs)))

  -- where the bucket is known
  around : (i : ℕ) (bs : List (List T)) (b : List T) → i < length bs → b ≡ slice_index_or bs i b → buckets_joined bs ≡ buckets_joined (take i bs) ++ (b ++ buckets_joined (drop (suc i) bs))
  around i bs b h is = in_three i bs b h ∙ ap (λ t. buckets_joined (take i bs) ++ (t ++ buckets_joined (drop (suc i) bs))) (sym is)

  -- a bucket put in the place of another
  set_in_three : (i : ℕ) (bs : List (List T)) (b : List T) → i < length bs → buckets_joined (slice_set bs i b) ≡ buckets_joined (take i bs) ++ (b ++ buckets_joined (drop (suc i) bs))
  set_in_three i [] b h = absurd (omega (arith, h))
  set_in_three zero (c ∷ bs) b h = refl
  set_in_three (suc i) (c ∷ bs) b h =
      ap (λ t. c ++ t) (set_in_three i bs b (omega (arith, h))) ∙ sym (append_assoc c (buckets_joined (take i bs)) (b ++ buckets_joined (drop (suc i) bs)))

  -- one taken out
  removed_in_two : (i : ℕ) (bs : List (List T)) → buckets_joined (remove bs i) ≡ buckets_joined (take i bs) ++ buckets_joined (drop (suc i) bs)
  removed_in_two zero [] = refl
  removed_in_two zero (b ∷ bs) = refl
  removed_in_two (suc i) [] = refl
  removed_in_two (suc i) (b ∷ bs) = ap (λ t. b ++ t) (removed_in_two i bs) ∙ sym (append_assoc b (buckets_joined (take i bs)) (buckets_joined (drop (suc i) bs)))

  -- one put in behind all others
  pub pushed : (bs : List (List T)) (b : List T) → buckets_joined (bs ++ b ∷ []) ≡ buckets_joined bs ++ b
  pushed [] b = append-nil b
  pushed (c ∷ bs) b = ap (λ t. c ++ t) (pushed bs b) ∙ sym (append_assoc c (buckets_joined bs) b)

  -- no more stand in front of a bucket than there are
  pub fewer : (i : ℕ) (bs : List (List T)) → length (buckets_joined (take i bs)) ≤ length (buckets_joined bs)
  fewer zero bs = omega arith
  fewer (suc i) [] = omega arith
  fewer (suc i) (b ∷ bs) =
      let front = length-append b (buckets_joined (take i bs)) in
      let all = length-append b (buckets_joined bs) in
      omega (arith, front, all, fewer i bs)

  -- and its own stand in front of the next one too
  pub one_more : (i : ℕ) (bs : List (List T)) (d : List T) → i < length bs → length (buckets_joined (take (suc i) bs)) ≡ length (buckets_joined (take i bs)) + length (slice_index_or bs i d)
  one_more i [] d h = absurd (omega (arith, h))
  one_more zero (b ∷ bs) d h = omega (arith, ap length (append-nil b))
  one_more (suc i) (b ∷ bs) d h =
      let more = length-append b (buckets_joined (take (suc i) bs)) in
      let less = length-append b (buckets_joined (take i bs)) in
      omega (arith, more, less, one_more i bs d (omega (arith, h)))

  -- both together are no more than there are
  pub bounded : (i : ℕ) (bs : List (List T)) (b : List T) → i < length bs → b ≡ slice_index_or bs i b → length (buckets_joined (take i bs)) + length b ≤ length (buckets_joined bs)
  bounded i bs b h is =
      let same = ap length is in
      omega (arith, one_more i bs b h, fewer (suc i) bs, same)

  -- ---- the element of a place

  -- it is that of its bucket
  pub element_there : (at i k : ℕ) (bs : List (List T)) (b : List T) (d : T) → i < length bs → b ≡ slice_index_or bs i b → length (buckets_joined (take i bs)) + k ≡ at → k < length b
      → slice_index_or (buckets_joined bs) at d ≡ slice_index_or b k d
  element_there at i k bs b d h is size within =
      ap (λ xs. slice_index_or xs at d) (around i bs b h is) ∙ found_within at k (buckets_joined (take i bs)) b (buckets_joined (drop (suc i) bs)) d size within

  pub set_there : (at i k : ℕ) (bs : List (List T)) (b : List T) (x : T) → i < length bs → b ≡ slice_index_or bs i b → length (buckets_joined (take i bs)) + k ≡ at → k < length b
      → buckets_joined (slice_set bs i (slice_set b k x)) ≡ slice_set (buckets_joined bs) at x
  set_there at i k bs b x h is size within =
      set_in_three i bs (slice_set b k x) h
      ∙ sym (ap (λ xs. slice_set xs at x) (around i bs b h is) ∙ set_within at k (buckets_joined (take i bs)) b (buckets_joined (drop (suc i) bs)) x size within)

  pub insert_there : (at i k : ℕ) (bs : List (List T)) (b : List T) (x : T) → i < length bs → b ≡ slice_index_or bs i b → length (buckets_joined (take i bs)) + k ≡ at → k < length b
      → buckets_joined (slice_set bs i (insert b k x)) ≡ insert (buckets_joined bs) at x
  insert_there at i k bs b x h is size within =
      set_in_three i bs (insert b k x) h
      ∙ sym (ap (λ xs. insert xs at x) (around i bs b h is) ∙ insert_within at k (buckets_joined (take i bs)) b (buckets_joined (drop (suc i) bs)) x size (omega (arith, within)))

  pub remove_there : (at i k : ℕ) (bs : List (List T)) (b : List T) → i < length bs → b ≡ slice_index_or bs i b → length (buckets_joined (take i bs)) + k ≡ at → k < length b
      → buckets_joined (slice_set bs i (remove b k)) ≡ remove (buckets_joined bs) at
  remove_there at i k bs b h is size within =
      set_in_three i bs (remove b k) h
      ∙ sym (ap (λ xs. remove xs at) (around i bs b h is) ∙ remove_within at k (buckets_joined (take i bs)) b (buckets_joined (drop (suc i) bs)) size within)

  none_left : (b : List T) (k : ℕ) → length b ≡ 1 → k < length b → remove b k ≡ []
  none_left [] k one h = absurd (omega (arith, one))
  none_left (x ∷ []) zero one h = refl
  none_left (x ∷ []) (suc k) one h = absurd (omega (arith, h))
  none_left (x ∷ y ∷ b) k one h = absurd (omega (arith, one))

  -- the only one of a bucket
  pub remove_only : (at i k : ℕ) (bs : List (List T)) (b : List T) → i < length bs → b ≡ slice_index_or bs i b → length (buckets_joined (take i bs)) + k ≡ at → k < length b → length b ≡ 1
      → buckets_joined (remove bs i) ≡ remove (buckets_joined bs) at
  remove_only at i k bs b h is size within one =
      removed_in_two i bs
      ∙ ap (λ t. buckets_joined (take i bs) ++ (t ++ buckets_joined (drop (suc i) bs))) (sym (none_left b k one within))
      ∙ sym (ap (λ xs. remove xs at) (around i bs b h is) ∙ remove_within at k (buckets_joined (take i bs)) b (buckets_joined (drop (suc i) bs)) size within)

  -- a bucket put in its own place
  pub set_same : (i : ℕ) (bs : List (List T)) (b : List T) → i < length bs → b ≡ slice_index_or bs i b → buckets_joined (slice_set bs i b) ≡ buckets_joined bs
  set_same i bs b h is = set_in_three i bs b h ∙ sym (around i bs b h is)

  -- ---- a bucket cut in two

  pub cut_same : (i : ℕ) (bs : List (List T)) (b front back : List T) → i < length bs → b ≡ slice_index_or bs i b → front ++ back ≡ b → buckets_joined (insert (slice_set bs i front) (i + 1) back) ≡ buckets_joined bs
  cut_same i [] b front back h is e = absurd (omega (arith, h))
  cut_same zero (c ∷ bs) b front back h is e = sym (append_assoc front back (buckets_joined bs)) ∙ ap (λ t. t ++ buckets_joined bs) (e ∙ is)
  cut_same (suc i) (c ∷ bs) b front back h is e =
      ap (λ k. buckets_joined (insert (slice_set (c ∷ bs) (suc i) front) k back)) (next i) ∙ ap (λ t. c ++ t) (cut_same i bs b front back (omega (arith, h)) is e)

  -- where the back half is put in
  pub cut_made : (i : ℕ) (old bs new : List (List T)) (b front back : List T) (is_in : Bool) → bs ≡ old → i < length old → b ≡ slice_index_or bs i b → front ++ back ≡ b
      → is_in ≡ true → new ≡ (if is_in then insert (slice_set bs i front) (i + 1) back else slice_set bs i front) → buckets_joined new ≡ buckets_joined old
  cut_made i old bs new b front back false same h is e room made = absurd (true≢false (sym room))
  cut_made i old bs new b front back true same h is e room made =
      let size = ap length same in
      ap buckets_joined made ∙ cut_same i bs b front back (omega (arith, size, h)) is e ∙ ap buckets_joined same

  -- where there is no memory for it
  pub cut_failed : (i : ℕ) (old bs : List (List T)) (b front : List T) → bs ≡ old → i < length old → b ≡ slice_index_or bs i b → front ≡ b → buckets_joined (slice_set bs i front) ≡ buckets_joined old
  cut_failed i old bs b front same h is e =
      let size = ap length same in
      ap (λ t. buckets_joined (slice_set bs i t)) e ∙ set_same i bs b (omega (arith, size, h)) is ∙ ap buckets_joined same

  -- an element put behind those of the last bucket
  pub pushed_last : (i : ℕ) (bs : List (List T)) (b : List T) (x : T) → i + 1 ≡ length bs → b ≡ slice_index_or bs i b → buckets_joined (slice_set bs i (b ++ x ∷ [])) ≡ buckets_joined bs ++ x ∷ []
  pushed_last i [] b x e is = absurd (omega (arith, e))
  pushed_last zero (c ∷ []) b x e is = append-nil (b ++ x ∷ []) ∙ ap (λ t. t ++ x ∷ []) (is ∙ sym (append-nil c))
  pushed_last zero (c ∷ c' ∷ bs) b x e is = absurd (omega (arith, e))
  pushed_last (suc i) (c ∷ bs) b x e is = ap (λ t. c ++ t) (pushed_last i bs b x (omega (arith, e)) is) ∙ sym (append_assoc c (buckets_joined bs) (x ∷ []))

-- ---- by a place

-- past all buckets no element is left
pub none_past : {T : Type 0} (at left n : ℕ) (bs : List (List T)) → at < length (buckets_joined bs) → length (buckets_joined (take n bs)) + left ≡ at → length bs ≤ n → ⊥
none_past at left n bs h size past =
    let all = ap (λ t. length (buckets_joined t)) (take_all n bs past) in
    absurd (omega (arith, h, size, all))

module _ {T : Type 0} (at : ℕ) (bs : List (List T)) (p : ℕ × ℕ) (b : List T) (place : IsPlaceInBuckets at bs p) (is : b ≡ slice_index_or bs p.0 b) where
  pub within : p.1 < length b
  within = let same = ap length is in omega (arith, same, place.2 b)

  pub element_at : (d : T) → slice_index_or (buckets_joined bs) at d ≡ slice_index_or b p.1 d
  element_at d = element_there at p.0 p.1 bs b d place.0 is place.1 within

  pub set_at : (x : T) → buckets_joined (slice_set bs p.0 (slice_set b p.1 x)) ≡ slice_set (buckets_joined bs) at x
  set_at x = set_there at p.0 p.1 bs b x place.0 is place.1 within

  pub insert_at : (x : T) → buckets_joined (slice_set bs p.0 (insert b p.1 x)) ≡ insert (buckets_joined bs) at x
  insert_at x = insert_there at p.0 p.1 bs b x place.0 is place.1 within

  pub remove_at : buckets_joined (slice_set bs p.0 (remove b p.1)) ≡ remove (buckets_joined bs) at
  remove_at = remove_there at p.0 p.1 bs b place.0 is place.1 within

  pub bucket_removed : length b ≡ 1 → buckets_joined (remove bs p.0) ≡ remove (buckets_joined bs) at
  bucket_removed one = remove_only at p.0 p.1 bs b place.0 is place.1 within one
