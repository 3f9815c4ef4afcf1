-- Elements found by bisection.
use Rattle.std.proofs.Common.{◌≡◌, ◌≤◌, ◌<◌, ◌+◌, ◌-◌, suc, zero, ℕ, Bool, true, false, true≢false, Ordering, Less, Equal, Greater, is_lt, List, [], ◌∷◌, length, take, HoldsAt, refl, sym, ◌∙◌, ap, subst, inl, inr, arith}
use Rattle.std.specs.Fn.{Mut, Called, AlwaysReturns}
use Rattle.std.specs.List.{slice_index_or, AllWithin}
use Rattle.std.specs.List.Sorted.{IsNonDecreasingBy, IsPartitionPoint}
use Rattle.std.specs.Ordering.{ordering_index}
use Rattle.std.proofs.lemmas.Bool.{cases_lt}
use Rattle.std.proofs.lemmas.List.{take_all, get_or_default}
use Rattle.t1_buckets.specs.Buckets.{buckets_joined}
use Rattle.t1_buckets.specs.BucketPlaces.{EndsBefore, IsAfter, IsUpTo}
use Rattle.t1_buckets.proofs.JoinLaws.{element_there, fewer, one_more}

-- a call among those that always answer so, and the calls after it
pub answers_next : {F X R : Type 0} (g : Mut F X R) (P : X → R → Type 0) (f : F) (a : X) (r : R) (f' : F) → Called g f a r f' → AlwaysReturns g P f → P a r × AlwaysReturns g P f'
answers_next g P f a r f' c h = ((h.at (a ∷ []) r f' c).0, record { at = λ xs. (h.at (a ∷ xs) r f' c).1 })

less : (o : Ordering) → is_lt o ≡ true → o ≡ Less
less Less h = refl
less Equal h = absurd (true≢false (sym h))
less Greater h = absurd (true≢false (sym h))

bottom : (o : Ordering) → ordering_index o ≤ 0 → o ≡ Less
bottom Less h = refl
bottom Equal h = absurd (omega arith)
bottom Greater h = absurd (omega arith)

top : (o : Ordering) → 2 ≤ ordering_index o → o ≡ Greater
top Less h = absurd (omega arith)
top Equal h = absurd (omega arith)
top Greater h = refl

-- a fact of the bucket of an index, whatever stands for one that isn't there
pub at_index : {T : Type 0} (P : List T → Type 0) (bs : List (List T)) (i k : ℕ) (b d : List T) → i < length bs → b ≡ slice_index_or bs i b → P b → k ≡ i → P (slice_index_or bs k d)
at_index P bs i k b d h is p same =
    subst (λ n. P (slice_index_or bs n d)) (sym same) (subst P (is ∙ get_or_default bs i b d h) p)

module _ {T : Type 0} (by : T → Ordering) (bs : List (List T)) where
  -- the last element of a bucket, among all elements
  ended : (i : ℕ) (b : List T) (is_before : Bool) (d : T) → i < length bs → b ≡ slice_index_or bs i b → EndsBefore by b is_before
      → is_lt (by (slice_index_or (buckets_joined bs) (length (buckets_joined (take i bs)) + (length b - 1)) d)) ≡ is_before
  ended i b is_before d h is ends =
      ap (λ y. is_lt (by y)) (element_there (length (buckets_joined (take i bs)) + (length b - 1)) i (length b - 1) bs b d h is refl (omega (arith, ends.0))) ∙ ends.1 d

  -- the elements in front of a bucket are answered `Less` where the last of them is
  all_before : (i : ℕ) → i ≤ length bs → IsAfter by bs i → IsNonDecreasingBy (λ y. ordering_index (by y)) (buckets_joined bs) → AllWithin (λ y. by y ≡ Less) (buckets_joined bs) 0 (length (buckets_joined (take i bs)))
  all_before zero h after up k d low high = absurd (omega (arith, high))
  all_before (suc i) h after up k d low high =
      let here : i < length bs = omega (arith, h) in
      let ends = after i [] (omega arith) in
      let b = slice_index_or bs i [] in
      let is : b ≡ slice_index_or bs i b = get_or_default bs i [] b here in
      let at = length (buckets_joined (take i bs)) + (length b - 1) in
      let size = one_more i bs [] here in
      let all = fewer (suc i) bs in
      bottom (by (slice_index_or (buckets_joined bs) k d)) (
      subst (λ o. ordering_index (by (slice_index_or (buckets_joined bs) k d)) ≤ ordering_index o)
      (less (by (slice_index_or (buckets_joined bs) at d)) (ended i b true d here is ends)) (up k at d (omega (arith, size, high, ends.0)) (omega (arith, size, all, ends.0)))
      )

  -- an element that is found in its bucket
  pub found_in_bucket : (i k : ℕ) (b : List T) → i < length bs → b ≡ slice_index_or bs i b → k < length b → HoldsAt (λ y. by y ≡ Equal) b k
      → HoldsAt (λ y. by y ≡ Equal) (buckets_joined bs) (length (buckets_joined (take i bs)) + k)
  found_in_bucket i k b h is within e d = ap by (element_there (length (buckets_joined (take i bs)) + k) i k bs b d h is refl within) ∙ e d

  module _ (i k : ℕ) (b : List T) (h : i < length bs) (is : b ≡ slice_index_or bs i b) (up : IsNonDecreasingBy (λ y. ordering_index (by y)) (buckets_joined bs)) where
    -- the elements of the bucket, among all elements
    inside : (j m : ℕ) (d : T) → length (buckets_joined (take i bs)) + m ≡ j → m < length b → by (slice_index_or (buckets_joined bs) j d) ≡ by (slice_index_or b m d)
    inside j m d size within = ap by (element_there j i m bs b d h is size within)

    rising : IsNonDecreasingBy (λ y. ordering_index (by y)) b
    rising x y d l m =
        let n = length (buckets_joined (take i bs)) in
        let low = ap ordering_index (inside (n + x) x d refl (omega (arith, l, m))) in
        let high = ap ordering_index (inside (n + y) y d refl m) in
        let size = one_more i bs b h in
        let same = ap length is in
        let all = fewer (suc i) bs in
        omega (arith, low, high, up (n + x) (n + y) d (omega (arith, l)) (omega (arith, m, size, same, all)))

    module _ (within : k ≤ length b) (parts : IsPartitionPoint (λ y. by y ≡ Less) (λ y. by y ≡ Greater) b k) (ends : EndsBefore by b false) where
      last_greater : (d : T) → by (slice_index_or b (length b - 1) d) ≡ Greater
      last_greater d =
          elim (cases_lt k (length b)) [
            | inl some ↦ parts.1 (length b - 1) d (omega (arith, some)) (omega (arith, some))
            | inr none ↦ absurd (true≢false (sym (ap is_lt (parts.0 (length b - 1) d (omega arith) (omega (arith, none, ends.0)))) ∙ ends.1 d))
          ]

      lower : IsAfter by bs i → AllWithin (λ y. by y ≡ Less) (buckets_joined bs) 0 (length (buckets_joined (take i bs)) + k)
      lower after j d low high =
          let n = length (buckets_joined (take i bs)) in
          elim (cases_lt j n) [
            | inl early ↦ all_before i (omega (arith, h)) after up j d low early
            | inr late ↦ inside j (j - n) d (omega (arith, late)) (omega (arith, late, high, within)) ∙ parts.0 (j - n) d (omega arith) (omega (arith, late, high))
          ]

      upper : AllWithin (λ y. by y ≡ Greater) (buckets_joined bs) (length (buckets_joined (take i bs)) + k) (length (buckets_joined bs))
      upper j d low high =
          let n = length (buckets_joined (take i bs)) in
          elim (cases_lt j (n + length b)) [
            | inl here ↦ inside j (j - n) d (omega (arith, low)) (omega (arith, low, here)) ∙ parts.1 (j - n) d (omega (arith, low)) (omega (arith, low, here))
            | inr past ↦
                let last = inside (n + (length b - 1)) (length b - 1) d refl (omega (arith, ends.0)) ∙ last_greater d in
                top (by (slice_index_or (buckets_joined bs) j d)) (
                subst (λ o. ordering_index o ≤ ordering_index (by (slice_index_or (buckets_joined bs) j d))) last (up (n + (length b - 1)) j d (omega (arith, past, ends.0)) high)
                )
          ]

  -- one that isn't there, where its bucket would end behind it
  pub missing_in_bucket : (i k : ℕ) (b : List T) → i < length bs → b ≡ slice_index_or bs i b → k ≤ length b → IsAfter by bs i → IsUpTo by bs i
      → (IsNonDecreasingBy (λ y. ordering_index (by y)) b → IsPartitionPoint (λ y. by y ≡ Less) (λ y. by y ≡ Greater) b k)
      → IsNonDecreasingBy (λ y. ordering_index (by y)) (buckets_joined bs) → IsPartitionPoint (λ y. by y ≡ Less) (λ y. by y ≡ Greater) (buckets_joined bs) (length (buckets_joined (take i bs)) + k)
  missing_in_bucket i k b h is within after up_to searched up =
      let parts = searched (rising i k b h is up) in
      let ends = subst (λ t. EndsBefore by t false) (sym is) (up_to b h) in
      (lower i k b h is up within parts ends after, upper i k b h is up within parts ends)

  -- or where all buckets end before it
  pub missing_past : IsAfter by bs (length bs)
      → IsNonDecreasingBy (λ y. ordering_index (by y)) (buckets_joined bs) → IsPartitionPoint (λ y. by y ≡ Less) (λ y. by y ≡ Greater) (buckets_joined bs) (length (buckets_joined bs))
  missing_past after up = (
    λ k d low high. all_before (length bs) (omega arith) after up k d low (subst (λ t. k < length (buckets_joined t)) (sym (take_all (length bs) bs (omega arith))) high),
    λ k d low high. absurd (omega (arith, low, high)),
  )
