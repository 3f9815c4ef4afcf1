-- Pairs found among ordered ones.
use Rattle.std.proofs.Common.{◌≡◌, ℕ, zero, suc, Bool, true, false, ◌&&◌, ◌+◌, ◌<◌, ◌≤◌, nat_lt, None, Some, Result, Ok, Err, MatchResult, List, [], ◌∷◌, length, get_or, set, refl, sym, ◌∙◌, ap, subst, arith, inl, inr}
use Rattle.std.specs.List.{list_all, position, position_or_len, insert, AllAdjacentBelow}
use Rattle.std.specs.List.Sorted.{IsSearchInRange, IsBinarySearchResult, IsNonDecreasingBy}
use Rattle.std.specs.Ordering.{nat_cmp, is_eq, ordering_then, ordering_reverse, ordering_index}
use Rattle.std.specs.Cmp.Lexicographic.{slice_cmp}
use Rattle.std.specs.Str.{bytes_eq}
use Rattle.std.specs.declared.cmp.Ordering.{Ordering}
use Rattle.std.specs.declared.cmp.Ordering.TheVariants.{Less, Equal, Greater}
use Rattle.std.proofs.lemmas.Bool.{and_parts, cases_Bool, lt-ltb, le-ltb, ltb-true, ltb-false}
use Rattle.std.proofs.lemmas.List.Sorted.{IsNonDecreasingBy-from_all_adjacent}
use Rattle.std.proofs.lemmas.Map.Text.{is_eq-slice_cmp}
use Rattle.std.proofs.lemmas.Slice.Eq.{bytes_eq-Decides}
use Rattle.t1_pairs.specs.declared.pairs.Pair.{Pair}
use Rattle.t1_pairs.specs.Kerning.{is_pair, pair_cmp, put_pair, precedes, are_ordered, are_pairs}
use Rattle.t1_pairs.proofs.PutLaws.{pair_total, less, valued}

tied : (a b : Ordering) → is_eq (ordering_then a b) ≡ (is_eq a && is_eq b)
tied Less b = refl
tied Equal b = refl
tied Greater b = refl

-- a pair has the names of those that it ties with
same_names : (p q : Pair) → is_pair p.left p.right q ≡ is_eq (pair_cmp p q)
same_names p q =
    sym (ap (λ b. b && bytes_eq p.right q.right) (is_eq-slice_cmp p.left q.left))
    ∙ sym (ap (λ b. is_eq (slice_cmp nat_cmp p.left q.left) && b) (is_eq-slice_cmp p.right q.right))
    ∙ sym (tied (slice_cmp nat_cmp p.left q.left) (slice_cmp nat_cmp p.right q.right))

back : (p q : Pair) (o : Ordering) → pair_cmp q p ≡ o → pair_cmp p q ≡ ordering_reverse o
back p q o e = pair_total.antisymm p q ∙ ap ordering_reverse e

-- a pair with the names and the value of another is that one
valued_same : (p q : Pair) → pair_cmp p q ≡ Equal → valued q p.value ≡ p
valued_same p q e =
    let names = and_parts _ _ (same_names p q ∙ ap is_eq e) in
    let left = (bytes_eq-Decides p.left q.left).0 names.0 in
    let right = (bytes_eq-Decides p.right q.right).0 names.1 in
    (λ j. record { left = sym left j; right = sym right j; value = p.value })

top : (o : Ordering) → ordering_index o ≤ 2
top Less = omega arith
top Equal = omega arith
top Greater = omega arith

-- an earlier pair stands to a pair no later than a later one does
rise_by : (p q r : Pair) (o : Ordering) → pair_cmp q r ≡ Less → pair_cmp r p ≡ o → ordering_index (pair_cmp q p) ≤ ordering_index o
rise_by p q r Less h e = rw (pair_total.trans q r p h e) (omega arith)
rise_by p q r Equal h e =
    let before : pair_cmp p q ≡ Greater = pair_total.congr p r q (back p r Equal e) ∙ back r q Less h in
    rw (back q p Greater before) (omega arith)
rise_by p q r Greater h e = top (pair_cmp q p)

rises_next : (p : Pair) (k : List Pair) → are_ordered k ≡ true → (i : ℕ) (d : Pair) → suc i < length k
    → ordering_index (pair_cmp (get_or k i d) p) ≤ ordering_index (pair_cmp (get_or k (suc i) d) p)
rises_next p [] h i d lt = absurd (omega (arith, lt))
rises_next p (q ∷ []) h i d lt = absurd (omega (arith, lt))
rises_next p (q ∷ r ∷ k) h zero d lt = rise_by p q r (pair_cmp r p) (less (pair_cmp q r) (and_parts _ _ (and_parts _ _ h).0).0) refl
rises_next p (q ∷ r ∷ k) h (suc i) d lt = rises_next p (r ∷ k) (and_parts _ _ h).1 i d (omega (arith, lt))

one_more : (n : ℕ) → suc n ≡ n + 1
one_more n = omega arith

rises : (p : Pair) (k : List Pair) → are_ordered k ≡ true → AllAdjacentBelow (λ x y. ordering_index (pair_cmp x p) ≤ ordering_index (pair_cmp y p)) k (length k)
rises p k h i d lt =
    subst (λ n. ordering_index (pair_cmp (get_or k i d) p) ≤ ordering_index (pair_cmp (get_or k n d) p)) (one_more i) (rises_next p k h i d (omega (arith, lt)))

all_at : (test : Pair → Bool) (k : List Pair) (i : ℕ) (d : Pair) → list_all test k ≡ true → i < length k → test (get_or k i d) ≡ true
all_at test [] i d h lt = absurd (omega (arith, lt))
all_at test (q ∷ k) zero d h lt = (and_parts _ _ h).0
all_at test (q ∷ k) (suc i) d h lt = all_at test k i d (and_parts _ _ h).1 (omega (arith, lt))

-- what a search finds of a pair that is there
pub record IsThere (p : Pair) (k : List Pair) (at : ℕ) : Type 0 where
  pub put : put_pair p k ≡ set k at p
  pub place : position_or_len (is_pair p.left p.right) k ≡ at

there : (p : Pair) (k : List Pair) (at : ℕ) (d : Pair) → are_ordered k ≡ true → at < length k → pair_cmp (get_or k at d) p ≡ Equal → IsThere p k at
there p [] at d h lt e = absurd (omega (arith, lt))
there p (q ∷ k) zero d h lt e =
    let here = back p q Equal e in
    let named : is_pair p.left p.right q ≡ true = same_names p q ∙ ap is_eq here in
    record { put = rw here (ap (λ x. x ∷ k) (valued_same p q here)); place = rw named refl }
there p (q ∷ k) (suc at) d h lt e =
    let parts = and_parts _ _ h in
    let r = get_or k at d in
    let ahead : pair_cmp q r ≡ Less = less (pair_cmp q r) (all_at (precedes q) k at d parts.0 (omega (arith, lt))) in
    let here : pair_cmp p q ≡ Greater = pair_total.congr p r q (back p r Equal e) ∙ back r q Less ahead in
    let other : is_pair p.left p.right q ≡ false = same_names p q ∙ ap is_eq here in
    let more = there p k at d parts.1 (omega (arith, lt)) e in
    record { put = rw here (ap (λ t. q ∷ t) more.put); place = rw other (omega (arith, more.place)) }

-- and of one that isn't
missing : (p : Pair) (k : List Pair) (at : ℕ) → at ≤ length k → ((i : ℕ) (d : Pair) → i < at → pair_cmp (get_or k i d) p ≡ Less)
    → ((i : ℕ) (d : Pair) → at ≤ i → i < length k → pair_cmp (get_or k i d) p ≡ Greater) → put_pair p k ≡ insert k at p
missing p [] zero lt before after = refl
missing p [] (suc at) lt before after = absurd (omega (arith, lt))
missing p (q ∷ k) zero lt before after = let here = back p q Greater (after 0 q (omega arith) (omega arith)) in rw here refl
missing p (q ∷ k) (suc at) lt before after =
    let here = back p q Less (before 0 q (omega arith)) in
    let more = missing p k at (omega (arith, lt)) (λ i d l. before (suc i) d (omega (arith, l))) (λ i d l m. after (suc i) d (omega (arith, l)) (omega (arith, m))) in
    rw here (ap (λ t. q ∷ t) more)

none_there : (test : Pair → Bool) (k : List Pair) → ((i : ℕ) (d : Pair) → i < length k → test (get_or k i d) ≡ false) → position_or_len test k ≡ length k
none_there test [] none = refl
none_there test (q ∷ k) none =
    let off = none 0 q (omega arith) in
    let more = none_there test k (λ i d l. none (suc i) d (omega (arith, l))) in
    rw off (omega (arith, more))

some_there : (test : Pair → Bool) (k : List Pair) (at : ℕ) → position_or_len test k ≡ at → at < length k → position test k ≡ Some at
some_there test k at e lt = let within = lt-ltb at (length k) lt in rw e (rw within refl)

nothing_there : (test : Pair → Bool) (k : List Pair) → position_or_len test k ≡ length k → position test k ≡ None
nothing_there test k e = let outside = le-ltb (length k) (length k) (omega arith) in rw e (rw outside refl)

-- what a binary search by the names of a pair answers, of pairs in their order
module _ (p : Pair) (k : List Pair) (kept : are_pairs k ≡ true) where
  ordered : are_ordered k ≡ true
  unfolding are_pairs
  ordered = (and_parts _ _ kept).1

  rising : IsNonDecreasingBy (λ q. ordering_index (pair_cmp q p)) k
  rising = IsNonDecreasingBy-from_all_adjacent (λ q. ordering_index (pair_cmp q p)) k (rises p k ordered)

  pub search_put : (r : Result ℕ ℕ) → IsSearchInRange r (length k) → IsBinarySearchResult (λ q. pair_cmp q p) k r
      → MatchResult r (λ at. put_pair p k ≡ set k at p) (λ at. put_pair p k ≡ insert k at p)
  search_put (Ok at) within e = (there p k at p ordered within (e p)).put
  search_put (Err at) within e =
      let parts = e rising in
      missing p k at within (λ i d l. parts.0 i d (omega arith) l) (λ i d l m. parts.1 i d l m)

  pub search_found : (r : Result ℕ ℕ) → IsSearchInRange r (length k) → IsBinarySearchResult (λ q. pair_cmp q p) k r
      → MatchResult r (λ at. position (is_pair p.left p.right) k ≡ Some at) (λ at. position (is_pair p.left p.right) k ≡ None)
  search_found (Ok at) within e = some_there (is_pair p.left p.right) k at (there p k at p ordered within (e p)).place within
  search_found (Err at) within e =
      let parts = e rising in
      nothing_there (is_pair p.left p.right) k (none_there (is_pair p.left p.right) k (λ i d l.
      elim (cases_Bool (nat_lt i at)) [
        | inl early ↦ same_names p (get_or k i d) ∙ ap is_eq (back p (get_or k i d) Less (parts.0 i d (omega arith) (ltb-true i at early)))
        | inr late ↦ same_names p (get_or k i d) ∙ ap is_eq (back p (get_or k i d) Greater (parts.1 i d (ltb-false i at late) l))
      ]))
