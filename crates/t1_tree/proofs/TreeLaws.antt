-- Elements by the trees that they stand in.
use Rattle.std.proofs.Common.{Bool, true, false, if◌then◌else◌, ◌≡◌, ◌<◌, ◌≤◌, ◌+◌, ℕ, zero, suc, List, [], ◌∷◌, ◌++◌, length, take, drop, refl, sym, ◌∙◌, ap, arith}
use Rattle.std.specs.List.{slice_index_or, slice_set, insert, remove}
use Rattle.std.proofs.lemmas.List.{append_assoc, append-nil, length-append, get_or-map, get_or_default, length-map, map-set, take-map, take_all}
use Rattle.std.proofs.Math.Seq.{map-set_same}
use Rattle.t1_tree.specs.Joins.{joined, IsPlaceIn, IsPlaceUpTo}
use Rattle.t1_tree.specs.Trees.{lists_of, trees_joined}
use Rattle.t1_tree.proofs.JoinLaws.{around, bounded, bucket_removed, cut_same, element_at, none_past, set_at, insert_at, remove_at}

next_one : (i : ℕ) → suc i + 1 ≡ suc (i + 1)
next_one i = omega arith

-- the length with one more
pub length-insert : {T : Type 0} (i : ℕ) (xs : List T) (x : T) → i ≤ length xs → length (insert xs i x) ≡ length xs + 1
length-insert zero xs x h = omega arith
length-insert (suc i) [] x h = absurd (omega (arith, h))
length-insert (suc i) (y ∷ xs) x h = omega (arith, length-insert i xs x (omega (arith, h)))

-- with one less
pub length-remove : {T : Type 0} (i : ℕ) (xs : List T) → i < length xs → length (remove xs i) + 1 ≡ length xs
length-remove i [] h = absurd (omega (arith, h))
length-remove zero (y ∷ xs) h = omega arith
length-remove (suc i) (y ∷ xs) h = omega (arith, length-remove i xs (omega (arith, h)))

module _ {T : Type 0} where
  pub lists_length : (ts : List (List T × ℕ)) → length (lists_of ts) ≡ length ts
  lists_length ts = length-map ts (λ t. t.0)

  pub lists_at : (i : ℕ) (ts : List (List T × ℕ)) (t : List T × ℕ) (d : List T) → i < length ts → t ≡ slice_index_or ts i t → slice_index_or (lists_of ts) i d ≡ t.0
  lists_at i ts t d h is = get_or-map (λ t. t.0) ts i t d h ∙ ap (λ t. t.0) (sym is)

  pub own : (i : ℕ) (ts : List (List T × ℕ)) (t : List T × ℕ) → i < length ts → t ≡ slice_index_or ts i t → t.0 ≡ slice_index_or (lists_of ts) i t.0
  own i ts t h is = sym (lists_at i ts t t.0 h is)

  pub lists_taken : (i : ℕ) (ts : List (List T × ℕ)) → joined (take i (lists_of ts)) ≡ trees_joined (take i ts)
  lists_taken i ts = ap joined (take-map (λ t. t.0) i ts)

  -- ---- places

  pub place_in : (at index left : ℕ) (ts : List (List T × ℕ)) (t : List T × ℕ) → index < length ts → t ≡ slice_index_or ts index t → length (trees_joined (take index ts)) + left ≡ at → left < length t.0
      → IsPlaceIn at (lists_of ts) (index, left)
  place_in at index left ts t h is size within = (
    let same = lists_length ts in omega (arith, h, same),
    let before = ap length (lists_taken index ts) in omega (arith, before, size),
    λ d. let here = ap length (lists_at index ts t d h is) in omega (arith, here, within),
  )

  pub place_up : (at index left : ℕ) (ts : List (List T × ℕ)) (t : List T × ℕ) → index < length ts → t ≡ slice_index_or ts index t → length (trees_joined (take index ts)) + left ≡ at → left ≤ length t.0
      → IsPlaceUpTo at (lists_of ts) (index, left)
  place_up at index left ts t h is size within = (
    let same = lists_length ts in omega (arith, h, same),
    let before = ap length (lists_taken index ts) in omega (arith, before, size),
    λ d. let here = ap length (lists_at index ts t d h is) in omega (arith, here, within),
  )

  pub place_past : (at left n : ℕ) (ts : List (List T × ℕ)) → at < length (trees_joined ts) → length (trees_joined (take n ts)) + left ≡ at → length ts ≤ n → ⊥
  place_past at left n ts h size past =
      let before = ap length (lists_taken n ts) in
      let same = lists_length ts in
      none_past at left n (lists_of ts) h (omega (arith, before, size)) (omega (arith, past, same))

  pub past_end : (at left n : ℕ) (ts : List (List T × ℕ)) → at ≤ length (trees_joined ts) → length (trees_joined (take n ts)) + left ≡ at → 0 < left → length ts ≤ n → ⊥
  past_end at left n ts h size some past =
      let all = ap (λ ts. length (trees_joined ts)) (take_all n ts past) in
      absurd (omega (arith, h, size, some, all))

  -- the elements of one tree more
  pub more_taken : (i : ℕ) (ts : List (List T × ℕ)) (t : List T × ℕ) → i < length ts → t ≡ slice_index_or ts i t → trees_joined (take (i + 1) ts) ≡ trees_joined (take i ts) ++ t.0
  more_taken i [] t h is = absurd (omega (arith, h))
  more_taken zero (c ∷ ts) t h is = append-nil c.0 ∙ ap (λ t. t.0) (sym is)
  more_taken (suc i) (c ∷ ts) t h is =
      ap (λ k. trees_joined (take k (c ∷ ts))) (next_one i) ∙ ap (λ xs. c.0 ++ xs) (more_taken i ts t (omega (arith, h)) is) ∙ sym (append_assoc c.0 (trees_joined (take i ts)) t.0)

  -- ---- a tree in the place of another

  pub lists_set : (i : ℕ) (ts : List (List T × ℕ)) (t : List T × ℕ) (xs : List T) → t.0 ≡ xs → lists_of (slice_set ts i t) ≡ slice_set (lists_of ts) i xs
  lists_set i ts t xs e = map-set (λ t. t.0) ts i t ∙ ap (slice_set (lists_of ts) i) e

  pub lists_same : (i : ℕ) (ts : List (List T × ℕ)) (t old : List T × ℕ) → old ≡ slice_index_or ts i old → t.0 ≡ old.0 → lists_of (slice_set ts i t) ≡ lists_of ts
  lists_same i ts t old is e = map-set_same (λ t. t.0) ts i t old (e ∙ ap (λ t. t.0) is)

  -- ---- an element of a place

  module _ (at : ℕ) (ts : List (List T × ℕ)) (p : ℕ × ℕ) (t : List T × ℕ) (place : IsPlaceIn at (lists_of ts) p) (is : t ≡ slice_index_or ts p.0 t) where
    pub index_within : p.0 < length ts
    index_within = let same = lists_length ts in omega (arith, same, place.0)

    pub offset_within : p.1 < length t.0
    offset_within = let here = ap length (lists_at p.0 ts t t.0 index_within is) in omega (arith, here, place.2 t.0)

    pub element_there : (d : T) → slice_index_or (trees_joined ts) at d ≡ slice_index_or t.0 p.1 d
    element_there d = element_at at (lists_of ts) p t.0 place (own p.0 ts t index_within is) d

    pub set_there : (new : List T × ℕ) (x : T) → new.0 ≡ slice_set t.0 p.1 x → trees_joined (slice_set ts p.0 new) ≡ slice_set (trees_joined ts) at x
    set_there new x e = ap joined (lists_set p.0 ts new _ e) ∙ set_at at (lists_of ts) p t.0 place (own p.0 ts t index_within is) x

    pub removed_there : (new : List T × ℕ) → new.0 ≡ remove t.0 p.1 → trees_joined (slice_set ts p.0 new) ≡ remove (trees_joined ts) at
    removed_there new e = ap joined (lists_set p.0 ts new _ e) ∙ remove_at at (lists_of ts) p t.0 place (own p.0 ts t index_within is)

  module _ (at : ℕ) (ts : List (List T × ℕ)) (p : ℕ × ℕ) (t : List T × ℕ) (place : IsPlaceUpTo at (lists_of ts) p) (is : t ≡ slice_index_or ts p.0 t) where
    pub up_index : p.0 < length ts
    up_index = let same = lists_length ts in omega (arith, same, place.0)

    pub offset_up_to : p.1 ≤ length t.0
    offset_up_to = let here = ap length (lists_at p.0 ts t t.0 up_index is) in omega (arith, here, place.2 t.0)

    pub inserted_there : (new : List T × ℕ) (x : T) → new.0 ≡ insert t.0 p.1 x → trees_joined (slice_set ts p.0 new) ≡ insert (trees_joined ts) at x
    inserted_there new x e = ap joined (lists_set p.0 ts new _ e) ∙ insert_at at (lists_of ts) p t.0 place (own p.0 ts t up_index is) x

  -- ---- trees in two parts

  pub in_two : (n : ℕ) (ts : List (List T × ℕ)) → trees_joined (take n ts) ++ trees_joined (drop n ts) ≡ trees_joined ts
  in_two zero ts = refl
  in_two (suc n) [] = refl
  in_two (suc n) (t ∷ ts) = append_assoc t.0 (trees_joined (take n ts)) (trees_joined (drop n ts)) ∙ ap (λ xs. t.0 ++ xs) (in_two n ts)

  pub joined_append : (ts us : List (List T × ℕ)) → trees_joined (ts ++ us) ≡ trees_joined ts ++ trees_joined us
  joined_append [] us = refl
  joined_append (t ∷ ts) us = ap (λ xs. t.0 ++ xs) (joined_append ts us) ∙ sym (append_assoc t.0 (trees_joined ts) (trees_joined us))

  -- ---- two trees that are joined, or share their parts

  pub joined_trees : (i : ℕ) (ts : List (List T × ℕ)) (t next both : List T × ℕ) → i + 1 < length ts → t ≡ slice_index_or ts i t → next ≡ slice_index_or ts (i + 1) next → both.0 ≡ t.0 ++ next.0
      → trees_joined (remove (slice_set ts i both) (i + 1)) ≡ trees_joined ts
  joined_trees i [] t next both h is behind e = absurd (omega (arith, h))
  joined_trees zero (c ∷ []) t next both h is behind e = absurd (omega (arith, h))
  joined_trees zero (c ∷ d ∷ ts) t next both h is behind e =
      ap (λ xs. xs ++ trees_joined ts) (e ∙ ap (λ u. u.0 ++ next.0) is ∙ ap (λ u. c.0 ++ u.0) behind) ∙ append_assoc c.0 d.0 (trees_joined ts)
  joined_trees (suc i) (c ∷ ts) t next both h is behind e =
      ap (λ k. trees_joined (remove (slice_set (c ∷ ts) (suc i) both) k)) (next_one i)
      ∙ ap (λ xs. c.0 ++ xs) (joined_trees i ts t next both (omega (arith, h)) is (behind ∙ ap (λ k. slice_index_or (c ∷ ts) k next) (next_one i)) e)

  pub shared_trees : (i : ℕ) (ts : List (List T × ℕ)) (t next f k : List T × ℕ) → i + 1 < length ts → t ≡ slice_index_or ts i t → next ≡ slice_index_or ts (i + 1) next → f.0 ++ k.0 ≡ t.0 ++ next.0
      → trees_joined (slice_set (slice_set ts i f) (i + 1) k) ≡ trees_joined ts
  shared_trees i [] t next f k h is behind e = absurd (omega (arith, h))
  shared_trees zero (c ∷ []) t next f k h is behind e = absurd (omega (arith, h))
  shared_trees zero (c ∷ d ∷ ts) t next f k h is behind e =
      sym (append_assoc f.0 k.0 (trees_joined ts))
      ∙ ap (λ xs. xs ++ trees_joined ts) (e ∙ ap (λ u. u.0 ++ next.0) is ∙ ap (λ u. c.0 ++ u.0) behind) ∙ append_assoc c.0 d.0 (trees_joined ts)
  shared_trees (suc i) (c ∷ ts) t next f k h is behind e =
      ap (λ n. trees_joined (slice_set (slice_set (c ∷ ts) (suc i) f) n k)) (next_one i)
      ∙ ap (λ xs. c.0 ++ xs) (shared_trees i ts t next f k (omega (arith, h)) is (behind ∙ ap (λ n. slice_index_or (c ∷ ts) n next) (next_one i)) e)

  -- ---- a tree cut in two

  lists_inserted : (i : ℕ) (ts : List (List T × ℕ)) (t : List T × ℕ) → lists_of (insert ts i t) ≡ insert (lists_of ts) i t.0
  lists_inserted zero ts t = refl
  lists_inserted (suc i) [] t = refl
  lists_inserted (suc i) (c ∷ ts) t = ap (λ l. c.0 ∷ l) (lists_inserted i ts t)

  pub cut_trees : (i : ℕ) (old mid new : List (List T × ℕ)) (t f k : List T × ℕ) (is_in : Bool) → mid ≡ old → i < length old → t ≡ slice_index_or old i t → f.0 ++ k.0 ≡ t.0 → is_in ≡ true
      → new ≡ (if is_in then insert (slice_set mid i f) (i + 1) k else slice_set mid i f) → trees_joined new ≡ trees_joined old
  cut_trees i old mid new t f k false same h is e room made = absurd (cc)
  cut_trees i old mid new t f k true same h is e room made =
      let size = lists_length old in
      ap trees_joined (made ∙ ap (λ ts. insert (slice_set ts i f) (i + 1) k) same)
      ∙ ap joined (lists_inserted (i + 1) (slice_set old i f) k ∙ ap (λ l. insert l (i + 1) k.0) (map-set (λ t. t.0) old i f))
      ∙ cut_same i (lists_of old) t.0 f.0 k.0 (omega (arith, h, size)) (own i old t h is) e

  pub tree_within : (i : ℕ) (ts : List (List T × ℕ)) (t : List T × ℕ) → i < length ts → t ≡ slice_index_or ts i t → length t.0 ≤ length (trees_joined ts)
  tree_within i ts t h is = let size = lists_length ts in omega (arith, bounded i (lists_of ts) t.0 (omega (arith, size, h)) (own i ts t h is))

  -- ---- elements that stand together

  drop_within : (at k : ℕ) (xs ys zs : List T) → length xs + k ≡ at → k ≤ length ys → drop at (xs ++ (ys ++ zs)) ≡ drop k ys ++ zs
  drop_within zero zero [] ys zs e h = refl
  drop_within zero (suc k) [] ys zs e h = absurd (omega (arith, e))
  drop_within (suc at) zero [] ys zs e h = absurd (omega (arith, e))
  drop_within (suc at) (suc k) [] [] zs e h = absurd (omega (arith, h))
  drop_within (suc at) (suc k) [] (y ∷ ys) zs e h = drop_within at k [] ys zs (omega (arith, e)) (omega (arith, h))
  drop_within zero k (x ∷ xs) ys zs e h = absurd (omega (arith, e))
  drop_within (suc at) k (x ∷ xs) ys zs e h = drop_within at k xs ys zs (omega (arith, e)) h

  pub take_left : (n : ℕ) (xs ys : List T) → n ≤ length xs → take n (xs ++ ys) ≡ take n xs
  take_left zero xs ys h = refl
  take_left (suc n) [] ys h = absurd (omega (arith, h))
  take_left (suc n) (x ∷ xs) ys h = ap (λ l. x ∷ l) (take_left n xs ys (omega (arith, h)))

  take_short : (n : ℕ) (xs : List T) → length (take n xs) ≤ length xs
  take_short zero xs = omega arith
  take_short (suc n) [] = omega arith
  take_short (suc n) (x ∷ xs) = omega (arith, take_short n xs)

  pub leaf_there : (at : ℕ) (ts : List (List T × ℕ)) (p : ℕ × ℕ) (t : List T × ℕ) (r : List T) → IsPlaceIn at (lists_of ts) p → t ≡ slice_index_or ts p.0 t → r ≡ take (length r) (drop p.1 t.0) → r ≡ take (length r) (drop at (trees_joined ts))
  leaf_there at ts p t r place is e =
      let within = offset_within at ts p t place is in
      let front = joined (take p.0 (lists_of ts)) in
      let back = joined (drop (suc p.0) (lists_of ts)) in
      let all : drop at (trees_joined ts) ≡ drop p.1 t.0 ++ back =
      ap (drop at) (around p.0 (lists_of ts) t.0 place.0 (own p.0 ts t (index_within at ts p t place is) is)) ∙ drop_within at p.1 front t.0 back place.1 (omega (arith, within)) in
      let short = take_short (length r) (drop p.1 t.0) in
      let same = ap length e in
      e ∙ sym (take_left (length r) (drop p.1 t.0) back (omega (arith, short, same))) ∙ ap (take (length r)) (sym all)

  take_within : (at k : ℕ) (xs ys zs : List T) → length xs + k ≡ at → k ≤ length ys → take at (xs ++ (ys ++ zs)) ≡ xs ++ take k ys
  take_within at k [] ys zs e h = let same : at ≡ k = omega (arith, e) in ap (λ n. take n (ys ++ zs)) same ∙ take_left k ys zs h
  take_within zero k (x ∷ xs) ys zs e h = absurd (omega (arith, e))
  take_within (suc at) k (x ∷ xs) ys zs e h = ap (λ l. x ∷ l) (take_within at k xs ys zs (omega (arith, e)) h)

  pub taken_at : (at i k : ℕ) (ts : List (List T × ℕ)) (t : List T × ℕ) → i < length ts → t ≡ slice_index_or ts i t → length (trees_joined (take i ts)) + k ≡ at → k ≤ length t.0
      → take at (trees_joined ts) ≡ trees_joined (take i ts) ++ take k t.0
  taken_at at i k ts t h is size within =
      let same = lists_length ts in
      let front = ap length (lists_taken i ts) in
      ap (take at) (around i (lists_of ts) t.0 (omega (arith, h, same)) (own i ts t h is))
      ∙ take_within at k (joined (take i (lists_of ts))) t.0 (joined (drop (suc i) (lists_of ts))) (omega (arith, size, front)) within
      ∙ ap (λ xs. xs ++ take k t.0) (lists_taken i ts)

  pub taken_there : (at : ℕ) (ts : List (List T × ℕ)) (p : ℕ × ℕ) (t : List T × ℕ) → IsPlaceUpTo at (lists_of ts) p → t ≡ slice_index_or ts p.0 t → take at (trees_joined ts) ≡ trees_joined (take p.0 ts) ++ take p.1 t.0
  taken_there at ts p t place is =
      let front = ap length (lists_taken p.0 ts) in
      taken_at at p.0 p.1 ts t (up_index at ts p t place is) is (omega (arith, front, place.1)) (offset_up_to at ts p t place is)

  -- the tree of an index, read twice
  pub same_at : (i : ℕ) (ts : List (List T × ℕ)) (t u : List T × ℕ) → i < length ts → t ≡ slice_index_or ts i t → u ≡ slice_index_or ts i u → t ≡ u
  same_at i ts t u h is there = is ∙ get_or_default ts i t u h ∙ sym there

  -- one of a single element is one of several, where there are other elements
  pub many_trees : (i : ℕ) (ts : List (List T × ℕ)) (t : List T × ℕ) → i < length ts → t ≡ slice_index_or ts i t → length t.0 ≡ 1 → 1 < length (trees_joined ts) → 1 < length ts
  many_trees i [] t h is one many = absurd (omega (arith, h))
  many_trees zero (c ∷ []) t h is one many = let same = ap (λ t. length t.0) is in let all = ap length (append-nil c.0) in absurd (omega (arith, same, all, one, many))
  many_trees (suc i) (c ∷ []) t h is one many = absurd (omega (arith, h))
  many_trees i (c ∷ d ∷ ts) t h is one many = omega arith

  -- ---- a tree taken out

  lists_removed : (i : ℕ) (ts : List (List T × ℕ)) → lists_of (remove ts i) ≡ remove (lists_of ts) i
  lists_removed zero [] = refl
  lists_removed zero (t ∷ ts) = refl
  lists_removed (suc i) [] = refl
  lists_removed (suc i) (t ∷ ts) = ap (λ l. t.0 ∷ l) (lists_removed i ts)

  pub gone_there : (at : ℕ) (ts new : List (List T × ℕ)) (p : ℕ × ℕ) (t : List T × ℕ) → IsPlaceIn at (lists_of ts) p → t ≡ slice_index_or ts p.0 t → new ≡ remove ts p.0 → length t.0 ≡ 1 → trees_joined new ≡ remove (trees_joined ts) at
  gone_there at ts new p t place is made one =
      ap trees_joined made ∙ ap joined (lists_removed p.0 ts) ∙ bucket_removed at (lists_of ts) p t.0 place (own p.0 ts t (index_within at ts p t place is) is) one

pub through_tree : {T : Type 0} (i : ℕ) (ts : List (List T × ℕ)) (t : List T × ℕ) → i < length ts → t ≡ slice_index_or ts i t → length (trees_joined (take i ts)) + length t.0 ≤ length (trees_joined ts)
through_tree i ts t h is =
    let size = lists_length ts in
    let before = ap length (lists_taken i ts) in
    omega (arith, before, bounded i (lists_of ts) t.0 (omega (arith, size, h)) (own i ts t h is))

pub length_more : {T : Type 0} (i : ℕ) (ts : List (List T × ℕ)) (t : List T × ℕ) → i < length ts → t ≡ slice_index_or ts i t → length (trees_joined (take (i + 1) ts)) ≡ length (trees_joined (take i ts)) + length t.0
length_more i ts t h is = ap length (more_taken i ts t h is) ∙ length-append (trees_joined (take i ts)) t.0

-- ---- the elements that are left

pub take-drop : {T : Type 0} (n : ℕ) (xs : List T) → take n xs ++ drop n xs ≡ xs
take-drop zero xs = refl
take-drop (suc n) [] = refl
take-drop (suc n) (x ∷ xs) = ap (λ l. x ∷ l) (take-drop n xs)

abbrev the_none : (T : Type 0) → List T
the_none T = []

drop_none : {T : Type 0} (n : ℕ) → drop n (the_none T) ≡ the_none T
drop_none zero = refl
drop_none (suc n) = refl

drop_drop : {T : Type 0} (m n : ℕ) (xs : List T) → drop n (drop m xs) ≡ drop (m + n) xs
drop_drop zero n xs = let same : n ≡ 0 + n = omega arith in ap (λ k. drop k xs) same
drop_drop (suc m) zero [] = sym (drop_none (suc m + 0))
drop_drop (suc m) (suc n) [] = sym (drop_none (suc m + suc n))
drop_drop (suc m) n (x ∷ xs) = let same : suc (m + n) ≡ suc m + n = omega arith in drop_drop m n xs ∙ ap (λ k. drop k (x ∷ xs)) same

pub none_of : {T : Type 0} (xs : List T) → length xs ≡ 0 → xs ≡ []
none_of [] h = refl
none_of (x ∷ xs) h = absurd (omega (arith, h))

pub next_leaf : {T : Type 0} (next : ℕ) (xs front leaf rest now : List T) (e : T) → front ≡ [] → front ++ drop next xs ≡ now → leaf ≡ take (length leaf) (drop next xs) → leaf ≡ e ∷ rest
    → now ≡ e ∷ (rest ++ drop (next + length leaf) xs)
next_leaf next xs front leaf rest now e none seen part is =
    sym seen ∙ ap (λ l. l ++ drop next xs) none
    ∙ sym (take-drop (length leaf) (drop next xs))
    ∙ ap (λ l. l ++ drop (length leaf) (drop next xs)) (sym part)
    ∙ ap (λ l. leaf ++ l) (drop_drop next (length leaf) xs)
    ∙ ap (λ l. l ++ drop (next + length leaf) xs) is
