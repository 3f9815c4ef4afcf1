-- Where the sum of the first elements reaches a property.
use Rattle.std.proofs.Common.{◌≡◌, ◌<◌, ◌≤◌, ◌+◌, ◌-◌, inl, inr, Bool, true, false, true≢false, ℕ, suc, zero, List, [], ◌∷◌, length, take, refl, sym, subst, ◌∙◌, ap, arith}
use Rattle.std.specs.Fn.{Mut, Called, AlwaysReturns}
use Rattle.std.specs.List.{slice_index_or}
use Rattle.std.proofs.lemmas.Bool.{cases_lt}
use Rattle.std.proofs.lemmas.List.{take_all}
use Rattle.t1_tree.specs.Reached.{IsBoundary, IsFirstReached, Stays}
use Rattle.t1_tree.specs.Sums.{sum_all, sum_from}
use Rattle.t1_tree.specs.Trees.{trees_joined}
use Rattle.t1_tree.proofs.SumLaws.{sum_after, sum_from_append, sum_from_more}
use Rattle.t1_tree.proofs.TreeLaws.{taken_at}

-- a call among those that always answer so, and the calls after it
pub answers_next : {F X R : Type 0} (g : Mut F X R) (P : X → R → Type 0) (f : F) (a : X) (r : R) (f' : F) → Called g f a r f' → AlwaysReturns g P f → P a r × AlwaysReturns g P f'
answers_next g P f a r f' c h = ((h.at (a ∷ []) r f' c).0, record { at = λ xs. (h.at (a ∷ xs) r f' c).1 })

-- from the first elements on, the property isn't reached
pub none_reached : {T S : Type 0} (by : S → Bool) (none : S) (plus : S → S → S) (one : T → S) (xs : List T) → Stays by none plus one xs → (n at : ℕ) → at + n ≤ length xs
    → by (sum_all none plus one (take (at + n) xs)) ≡ false → by (sum_all none plus one (take at xs)) ≡ false
none_reached by none plus one xs stays zero at h last = let same : at + 0 ≡ at = omega arith in subst (λ k. by (sum_all none plus one (take k xs)) ≡ false) same last
none_reached by none plus one xs stays (suc n) at h last =
    let same : at + suc n ≡ (at + 1) + n = omega arith in
    let later = none_reached by none plus one xs stays n (at + 1) (omega (arith, h)) (subst (λ k. by (sum_all none plus one (take k xs)) ≡ false) same last) in
    not_true (by (sum_all none plus one (take at xs))) (λ reached. absurd (true≢false (sym (stays at (omega (arith, h)) reached) ∙ later)))
  where
    not_true : (b : Bool) → (b ≡ true → ⊥) → b ≡ false
    not_true true never = absurd (never refl)
    not_true false never = refl

-- the boundary of a property that stays is the first place where it is reached
pub first_reached : {T S : Type 0} (by : S → Bool) (none : S) (plus : S → S → S) (one : T → S) (xs : List T) (at : ℕ) → at ≤ length xs → Stays by none plus one xs → IsBoundary by none plus one xs at → IsFirstReached by none plus one xs at
first_reached by none plus one xs at h stays boundary = (
  λ k low.
      let n : ℕ = at - (k + 1) in
      let same : (k + 1) + n ≡ at = omega (arith, low) in
      none_reached by none plus one xs stays n (k + 1) (omega (arith, low, h)) (subst (λ m. by (sum_all none plus one (take m xs)) ≡ false) (sym same) (boundary.0 (omega (arith, low)))),
  boundary.1,
)

module _ {T S : Type 0} (by : S → Bool) (none : S) (plus : S → S → S) (one : T → S) (s : S) where
  -- the element with which the sum of all through it is reached
  pub boundary_at : (all xs : List T) (i at : ℕ) (x : T) (sum through : S) (told : Bool) → all ≡ xs → at ≡ i → i < length xs → x ≡ slice_index_or xs i x → sum ≡ sum_from s plus one (take i xs) → through ≡ plus sum (one x)
      → (0 < i → by sum ≡ false) → told ≡ by through → told ≡ true → IsBoundary by s plus one all at
  boundary_at all xs i at x sum through told same here h is sum_is through_is before answered reached =
      subst (λ n. IsBoundary by s plus one all n) (sym here) (subst (λ ys. IsBoundary by s plus one ys i) (sym same) (
        λ some. ap by (sym sum_is) ∙ before some,
        λ in'. ap by (sum_from_more none plus one s i xs x h is ∙ ap (λ t. plus t (one x)) (sym sum_is) ∙ sym through_is) ∙ sym answered ∙ reached,
      ))

  -- past all elements
  pub boundary_end : (all xs : List T) (i at : ℕ) (sum : S) → all ≡ xs → at ≡ i → i ≤ length xs → length xs ≤ i → sum ≡ sum_from s plus one (take i xs) → (0 < i → by sum ≡ false) → IsBoundary by s plus one all at
  boundary_end all xs i at sum same here h past sum_is before =
      subst (λ n. IsBoundary by s plus one all n) (sym here) (subst (λ ys. IsBoundary by s plus one ys i) (sym same) (
        λ some. ap by (sym sum_is) ∙ before some,
        λ in'. absurd (omega (arith, in', past)),
      ))

  -- past all trees
  pub boundary_past : (all : List T) (ts : List (List T × ℕ)) (i at : ℕ) (sum : S) → all ≡ trees_joined ts → at ≡ length (trees_joined (take i ts)) → length ts ≤ i → sum ≡ sum_from s plus one (trees_joined (take i ts)) → (0 < at → by sum ≡ false)
      → IsBoundary by s plus one all at
  boundary_past all ts i at sum same here past sum_is before =
      let whole : trees_joined (take i ts) ≡ all = ap trees_joined (take_all i ts past) ∙ sym same in
      let size = ap length whole in (
        λ some. ap (λ xs. by (sum_from s plus one xs)) (take_all at all (omega (arith, size, here)) ∙ sym whole) ∙ ap by (sym sum_is) ∙ before some,
        λ in'. absurd (omega (arith, in', size, here)),
      )

  module _ (grouping : (a b c : S) → plus (plus a b) c ≡ plus a (plus b c)) (none_none : plus none none ≡ none) (none_after : (a b : S) → plus (plus a b) none ≡ plus a b) where
    -- in the tree with which the sum of all through it is reached
    pub boundary_in : (all : List T) (ts : List (List T × ℕ)) (i passed r : ℕ) (t : List T × ℕ) (sum through : S) (told : Bool) → all ≡ trees_joined ts → i < length ts → t ≡ slice_index_or ts i t → r ≤ length t.0
        → passed ≡ length (trees_joined (take i ts)) → sum ≡ sum_from s plus one (trees_joined (take i ts)) → plus sum none ≡ sum → through ≡ plus sum (sum_all none plus one t.0)
        → (0 < passed → by sum ≡ false) → told ≡ by through → told ≡ true → 0 < length t.0 → IsBoundary by sum plus one t.0 r → IsBoundary by s plus one all (passed + r)
    boundary_in all ts i passed r t sum through told same h is within size sum_is whole through_is before answered reached some boundary =
        let through_all = ap by (sym (sum_after none plus one grouping none_none none_after sum whole t.0) ∙ sym through_is) ∙ sym answered ∙ reached in
        subst (λ xs. IsBoundary by s plus one xs (passed + r)) (sym same) (
          λ any. elim (cases_lt 0 r) [
            | inl later ↦ at_sum r (passed + r) refl within ∙ boundary.0 later
            | inr first ↦ at_sum r (passed + r) refl within ∙ ap (λ k. by (sum_from sum plus one (take k t.0))) (none_left r first) ∙ before (omega (arith, any, first))
          ],
          λ in'. elim (cases_lt r (length t.0)) [
            | inl inside ↦ at_sum (r + 1) (passed + r + 1) (omega arith) (omega (arith, inside)) ∙ boundary.1 inside
            | inr end ↦
                let last : by (sum_from sum plus one (take r t.0)) ≡ false = boundary.0 (omega (arith, some, end)) in
                let all_of = ap (λ xs. by (sum_from sum plus one xs)) (take_all r t.0 end) in
                absurd (true≢false (sym through_all ∙ sym all_of ∙ last))
          ],
        )
      where
        none_left : (k : ℕ) → k ≤ 0 → k ≡ 0
        none_left k low = omega (arith, low)

        at_sum : (k at : ℕ) → passed + k ≡ at → k ≤ length t.0 → by (sum_from s plus one (take at (trees_joined ts))) ≡ by (sum_from sum plus one (take k t.0))
        at_sum k at e low =
            ap (λ xs. by (sum_from s plus one xs)) (taken_at at i k ts t h is (omega (arith, size, e)) low)
            ∙ ap by (sum_from_append none plus one s (trees_joined (take i ts)) (take k t.0) ∙ ap (λ u. sum_from u plus one (take k t.0)) (sym sum_is))
