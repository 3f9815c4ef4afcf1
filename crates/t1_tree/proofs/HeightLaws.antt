-- Heights of trees that stand in others, and that none is empty.
use Rattle.std.proofs.Common.{Bool, true, false, if◌then◌else◌, ◌≡◌, ◌<◌, ◌+◌, ℕ, zero, suc, List, [], ◌∷◌, ◌++◌, length, take, drop, sym, subst, ◌∙◌, ap, arith}
use Rattle.std.specs.List.{slice_index_or, slice_set, insert, remove}
use Rattle.std.proofs.lemmas.List.{length-append, length-set}
use Rattle.t1_tree.specs.Trees.{trees_joined, AreBelow, AreFilled, AreNoHigher, AreParts}
use Rattle.t1_tree.proofs.TreeLaws.{length-insert, length-remove}

module _ {T : Type 0} where
  -- ---- one of some trees

  below_at : (height i : ℕ) (ts : List (List T × ℕ)) (d : List T × ℕ) → i < length ts → AreBelow height ts → (slice_index_or ts i d).1 < height
  below_at height i [] d h below = absurd (omega (arith, h))
  below_at height zero (t ∷ ts) d h below = below.0
  below_at height (suc i) (t ∷ ts) d h below = below_at height i ts d (omega (arith, h)) below.1

  pub lower_at : (height i : ℕ) (ts : List (List T × ℕ)) (t : List T × ℕ) → i < length ts → t ≡ slice_index_or ts i t → AreBelow height ts → t.1 < height
  lower_at height i ts t h is below = let low = below_at height i ts t h below in let same = ap (λ t. t.1) is in omega (arith, low, same)

  some_at : (i : ℕ) (ts : List (List T × ℕ)) (d : List T × ℕ) → i < length ts → AreFilled ts → 0 < length (slice_index_or ts i d).0
  some_at i [] d h filled = absurd (omega (arith, h))
  some_at zero (t ∷ ts) d h filled = filled.0
  some_at (suc i) (t ∷ ts) d h filled = some_at i ts d (omega (arith, h)) filled.1

  pub filled_at : (i : ℕ) (ts : List (List T × ℕ)) (t : List T × ℕ) → i < length ts → t ≡ slice_index_or ts i t → AreFilled ts → 0 < length t.0
  filled_at i ts t h is filled = let some = some_at i ts t h filled in let same = ap (λ t. length t.0) is in omega (arith, some, same)

  -- ---- a tree in the place of another

  below_set : (height i : ℕ) (ts : List (List T × ℕ)) (t : List T × ℕ) → t.1 < height → AreBelow height ts → AreBelow height (slice_set ts i t)
  below_set height i [] t low below = below
  below_set height zero (c ∷ ts) t low below = (low, below.1)
  below_set height (suc i) (c ∷ ts) t low below = (below.0, below_set height i ts t low below.1)

  filled_set : (i : ℕ) (ts : List (List T × ℕ)) (t : List T × ℕ) → 0 < length t.0 → AreFilled ts → AreFilled (slice_set ts i t)
  filled_set i [] t some filled = filled
  filled_set zero (c ∷ ts) t some filled = (some, filled.1)
  filled_set (suc i) (c ∷ ts) t some filled = (filled.0, filled_set i ts t some filled.1)

  parts_set : (i : ℕ) (ts : List (List T × ℕ)) (t : List T × ℕ) → 0 < length t.0 → AreParts ts → AreParts (slice_set ts i t)
  parts_set i ts t some parts = (let size = length-set ts i t in omega (arith, parts.0, size), filled_set i ts t some parts.1)

  -- one that is as high
  pub height_set : (height i : ℕ) (ts : List (List T × ℕ)) (t old : List T × ℕ) → i < length ts → old ≡ slice_index_or ts i old → t.1 ≡ old.1 → 0 < length t.0 → AreParts ts × AreBelow height ts
      → AreParts (slice_set ts i t) × AreBelow height (slice_set ts i t)
  height_set height i ts t old h is same some has =
      let low = lower_at height i ts old h is has.1 in
      (parts_set i ts t some has.0, below_set height i ts t (omega (arith, low, same)) has.1)

  -- ---- trees in two parts

  pub below_take : (height n : ℕ) (ts : List (List T × ℕ)) → AreBelow height ts → AreBelow height (take n ts)
  below_take height zero ts below = tt
  below_take height (suc n) [] below = tt
  below_take height (suc n) (t ∷ ts) below = (below.0, below_take height n ts below.1)

  pub below_drop : (height n : ℕ) (ts : List (List T × ℕ)) → AreBelow height ts → AreBelow height (drop n ts)
  below_drop height zero ts below = below
  below_drop height (suc n) [] below = tt
  below_drop height (suc n) (t ∷ ts) below = below_drop height n ts below.1

  pub below_append : (height : ℕ) (ts us : List (List T × ℕ)) → AreBelow height ts → AreBelow height us → AreBelow height (ts ++ us)
  below_append height [] us below more = more
  below_append height (t ∷ ts) us below more = (below.0, below_append height ts us below.1 more)

  pub below_more : (height : ℕ) (ts : List (List T × ℕ)) → AreBelow height ts → AreBelow (height + 1) ts
  below_more height [] below = tt
  below_more height (t ∷ ts) below = (omega (arith, below.0), below_more height ts below.1)

  pub filled_take : (n : ℕ) (ts : List (List T × ℕ)) → AreFilled ts → AreFilled (take n ts)
  filled_take zero ts filled = tt
  filled_take (suc n) [] filled = tt
  filled_take (suc n) (t ∷ ts) filled = (filled.0, filled_take n ts filled.1)

  pub filled_drop : (n : ℕ) (ts : List (List T × ℕ)) → AreFilled ts → AreFilled (drop n ts)
  filled_drop zero ts filled = filled
  filled_drop (suc n) [] filled = tt
  filled_drop (suc n) (t ∷ ts) filled = filled_drop n ts filled.1

  pub filled_append : (ts us : List (List T × ℕ)) → AreFilled ts → AreFilled us → AreFilled (ts ++ us)
  filled_append [] us filled more = more
  filled_append (t ∷ ts) us filled more = (filled.0, filled_append ts us filled.1 more)

  -- the elements of trees that aren't empty
  pub parts_some : (ts : List (List T × ℕ)) → AreParts ts → 0 < length (trees_joined ts)
  parts_some [] parts = absurd (omega (arith, parts.0))
  parts_some (t ∷ ts) parts = let size = length-append t.0 (trees_joined ts) in omega (arith, size, parts.1.0)

  -- ---- a tree put in, or taken out

  below_inserted : (height i : ℕ) (ts : List (List T × ℕ)) (t : List T × ℕ) → t.1 < height → AreBelow height ts → AreBelow height (insert ts i t)
  below_inserted height zero ts t low below = (low, below)
  below_inserted height (suc i) [] t low below = (low, tt)
  below_inserted height (suc i) (c ∷ ts) t low below = (below.0, below_inserted height i ts t low below.1)

  filled_inserted : (i : ℕ) (ts : List (List T × ℕ)) (t : List T × ℕ) → 0 < length t.0 → AreFilled ts → AreFilled (insert ts i t)
  filled_inserted zero ts t some filled = (some, filled)
  filled_inserted (suc i) [] t some filled = (some, tt)
  filled_inserted (suc i) (c ∷ ts) t some filled = (filled.0, filled_inserted i ts t some filled.1)

  below_removed : (height i : ℕ) (ts : List (List T × ℕ)) → AreBelow height ts → AreBelow height (remove ts i)
  below_removed height zero [] below = tt
  below_removed height zero (t ∷ ts) below = below.1
  below_removed height (suc i) [] below = tt
  below_removed height (suc i) (t ∷ ts) below = (below.0, below_removed height i ts below.1)

  filled_removed : (i : ℕ) (ts : List (List T × ℕ)) → AreFilled ts → AreFilled (remove ts i)
  filled_removed zero [] filled = tt
  filled_removed zero (t ∷ ts) filled = filled.1
  filled_removed (suc i) [] filled = tt
  filled_removed (suc i) (t ∷ ts) filled = (filled.0, filled_removed i ts filled.1)

  -- one of several taken out
  pub height_removed : (height i : ℕ) (ts : List (List T × ℕ)) → i < length ts → 1 < length ts → AreParts ts × AreBelow height ts → AreParts (remove ts i) × AreBelow height (remove ts i)
  height_removed height i ts h many has =
      let less = length-remove i ts h in
      ((omega (arith, less, many), filled_removed i ts has.0.1), below_removed height i ts has.1)

  -- ---- a tree cut in two, and two that are joined

  pub cut_heights : (i : ℕ) (old mid new : List (List T × ℕ)) (t f k : List T × ℕ) (is_in : Bool) → mid ≡ old → i < length old → t ≡ slice_index_or old i t → 0 < length f.0 → 0 < length k.0 → f.1 ≡ t.1 → k.1 ≡ t.1 → is_in ≡ true
      → new ≡ (if is_in then insert (slice_set mid i f) (i + 1) k else slice_set mid i f) → AreNoHigher old new
  cut_heights i old mid new t f k false same h is sf sk ef ek room made = absurd (cc)
  cut_heights i old mid new t f k true same h is sf sk ef ek room made =
      let all = made ∙ ap (λ ts. insert (slice_set ts i f) (i + 1) k) same in
      let set = length-set old i f in
      let size = length-insert (i + 1) (slice_set old i f) k (omega (arith, h, set)) in (
        λ height below.
            let low = lower_at height i old t h is below in
            subst (AreBelow height) (sym all) (below_inserted height (i + 1) (slice_set old i f) k (omega (arith, low, ek)) (below_set height i old f (omega (arith, low, ef)) below)),
        λ parts. subst AreParts (sym all) (omega (arith, size), filled_inserted (i + 1) (slice_set old i f) k sk (filled_set i old f sf parts.1)),
      )

  -- both are one
  pub joined_heights : (i : ℕ) (old new : List (List T × ℕ)) (t both : List T × ℕ) → i + 1 < length old → t ≡ slice_index_or old i t → 0 < length both.0 → both.1 ≡ t.1 → new ≡ remove (slice_set old i both) (i + 1) → AreNoHigher old new
  joined_heights i old new t both h is some same made =
      let set = length-set old i both in
      let size = length-remove (i + 1) (slice_set old i both) (omega (arith, h, set)) in (
        λ height below.
            let low = lower_at height i old t (omega (arith, h)) is below in
            subst (AreBelow height) (sym made) (below_removed height (i + 1) (slice_set old i both) (below_set height i old both (omega (arith, low, same)) below)),
        λ parts. subst AreParts (sym made) (omega (arith, size, set, h), filled_removed (i + 1) (slice_set old i both) (filled_set i old both some parts.1)),
      )

  -- both share their parts
  pub shared_heights : (i : ℕ) (old new : List (List T × ℕ)) (t f k : List T × ℕ) → i + 1 < length old → t ≡ slice_index_or old i t → 0 < length f.0 → 0 < length k.0 → f.1 ≡ t.1 → k.1 ≡ t.1 → new ≡ slice_set (slice_set old i f) (i + 1) k → AreNoHigher old new
  shared_heights i old new t f k h is sf sk ef ek made = (
    λ height below.
        let low = lower_at height i old t (omega (arith, h)) is below in
        subst (AreBelow height) (sym made) (below_set height (i + 1) (slice_set old i f) k (omega (arith, low, ek)) (below_set height i old f (omega (arith, low, ef)) below)),
    λ parts. subst AreParts (sym made) (parts_set (i + 1) (slice_set old i f) k sk (parts_set i old f sf parts)),
  )
