-- Sums of elements that stand in parts.
use Rattle.std.proofs.Common.{◌≡◌, ◌<◌, ◌+◌, ℕ, suc, zero, List, [], ◌∷◌, ◌++◌, length, take, slice_set, refl, sym, ◌∙◌, ap, arith}
use Rattle.std.specs.List.{slice_index_or}
use Rattle.t1_tree.specs.Sums.{sum_all, sum_from, IsSameSum}
use Rattle.t1_tree.specs.Trees.{trees_joined}
use Rattle.t1_tree.proofs.TreeLaws.{more_taken}

next : (i : ℕ) → suc i + 1 ≡ suc (i + 1)
next i = omega arith

-- one element more
pub taken_one : {T : Type 0} (i : ℕ) (xs : List T) (x : T) → i < length xs → x ≡ slice_index_or xs i x → take (i + 1) xs ≡ take i xs ++ x ∷ []
taken_one i [] x h is = absurd (omega (arith, h))
taken_one zero (y ∷ xs) x h is = ap (λ t. t ∷ []) (sym is)
taken_one (suc i) (y ∷ xs) x h is = ap (λ k. take k (y ∷ xs)) (next i) ∙ ap (λ t. y ∷ t) (taken_one i xs x (omega (arith, h)) is)

module _ {T S : Type 0} (none : S) (plus : S → S → S) (one : T → S) where
  pub sum_from_append : (s : S) (xs ys : List T) → sum_from s plus one (xs ++ ys) ≡ sum_from (sum_from s plus one xs) plus one ys
  sum_from_append s [] ys = refl
  sum_from_append s (x ∷ xs) ys = sum_from_append (plus s (one x)) xs ys

  -- an element in the place of one with the same sum
  sum_from_set : (s : S) (xs : List T) (at : ℕ) (x : T) → IsSameSum one xs at x → sum_from s plus one (slice_set xs at x) ≡ sum_from s plus one xs
  sum_from_set s [] at x same = refl
  sum_from_set s (y ∷ xs) zero x same = ap (λ t. sum_from (plus s t) plus one xs) (sym (same y))
  sum_from_set s (y ∷ xs) (suc at) x same = sum_from_set (plus s (one y)) xs at x same

  pub sum_set : (xs : List T) (at : ℕ) (x : T) → IsSameSum one xs at x → sum_all none plus one (slice_set xs at x) ≡ sum_all none plus one xs
  sum_set xs at x same = sum_from_set none xs at x same

  pub sum_from_more : (s : S) (i : ℕ) (xs : List T) (x : T) → i < length xs → x ≡ slice_index_or xs i x → sum_from s plus one (take (i + 1) xs) ≡ plus (sum_from s plus one (take i xs)) (one x)
  sum_from_more s i xs x h is = ap (λ t. sum_from s plus one t) (taken_one i xs x h is) ∙ sum_from_append s (take i xs) (x ∷ [])

  -- an element more
  pub sum_of_more : (i : ℕ) (xs : List T) (x : T) → i < length xs → x ≡ slice_index_or xs i x → sum_all none plus one (take (i + 1) xs) ≡ plus (sum_all none plus one (take i xs)) (one x)
  sum_of_more i xs x h is = ap (λ t. sum_all none plus one t) (taken_one i xs x h is) ∙ sum_from_append none (take i xs) (x ∷ [])

  module _ (grouping : (a b c : S) → plus (plus a b) c ≡ plus a (plus b c)) (none_none : plus none none ≡ none) (none_after : (a b : S) → plus (plus a b) none ≡ plus a b) where
    from_both : (a s : S) (xs : List T) → sum_from (plus a s) plus one xs ≡ plus a (sum_from s plus one xs)
    from_both a s [] = refl
    from_both a s (x ∷ xs) = ap (λ t. sum_from t plus one xs) (grouping a s (one x)) ∙ from_both a (plus s (one x)) xs

    from_after : (a b : S) (xs : List T) → plus (sum_from (plus a b) plus one xs) none ≡ sum_from (plus a b) plus one xs
    from_after a b [] = none_after a b
    from_after a b (x ∷ xs) = from_after (plus a b) (one x) xs

    after : (xs : List T) → plus (sum_all none plus one xs) none ≡ sum_all none plus one xs
    after [] = none_none
    after (x ∷ xs) = from_after none (one x) xs

    pub sum_append : (xs ys : List T) → sum_all none plus one (xs ++ ys) ≡ plus (sum_all none plus one xs) (sum_all none plus one ys)
    sum_append xs ys =
        sum_from_append none xs ys
        ∙ ap (λ t. sum_from t plus one ys) (sym (after xs))
        ∙ from_both (sum_all none plus one xs) none ys

    -- a sum, and after it that of some elements
    pub sum_after : (s : S) → plus s none ≡ s → (xs : List T) → plus s (sum_all none plus one xs) ≡ sum_from s plus one xs
    sum_after s whole xs = sym (from_both s none xs) ∙ ap (λ t. sum_from t plus one xs) whole

    pub sum_from_whole : (s : S) → plus s none ≡ s → (xs : List T) → plus (sum_from s plus one xs) none ≡ sum_from s plus one xs
    sum_from_whole s whole [] = whole
    sum_from_whole s whole (x ∷ xs) = from_after s (one x) xs

    pub sum_from_more_trees : (s : S) → plus s none ≡ s → (i : ℕ) (ts : List (List T × ℕ)) (t : List T × ℕ) → i < length ts → t ≡ slice_index_or ts i t
        → sum_from s plus one (trees_joined (take (i + 1) ts)) ≡ plus (sum_from s plus one (trees_joined (take i ts))) (sum_all none plus one t.0)
    sum_from_more_trees s whole i ts t h is =
        ap (λ xs. sum_from s plus one xs) (more_taken i ts t h is)
        ∙ sum_from_append s (trees_joined (take i ts)) t.0
        ∙ sym (sum_after (sum_from s plus one (trees_joined (take i ts))) (sum_from_whole s whole (trees_joined (take i ts))) t.0)

    -- a tree more
    pub sum_of_more_trees : (i : ℕ) (ts : List (List T × ℕ)) (t : List T × ℕ) → i < length ts → t ≡ slice_index_or ts i t
        → sum_all none plus one (trees_joined (take (i + 1) ts)) ≡ plus (sum_all none plus one (trees_joined (take i ts))) (sum_all none plus one t.0)
    sum_of_more_trees i ts t h is = ap (λ xs. sum_all none plus one xs) (more_taken i ts t h is) ∙ sum_append (trees_joined (take i ts)) t.0
