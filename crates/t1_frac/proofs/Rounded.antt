-- Rounding of equal fractions, and of fractions moved by whole numbers.
use Rattle.std.proofs.Common.{◌≡◌, ℕ, ◌+◌, ◌*◌, ◌^◌, ◌<◌, ◌≤◌, ℤ, pos, negsuc, ◌+ℤ◌, ◌*ℤ◌, neg_ℤ, arith, sym, ◌∙◌, ap}
use Rattle.std.specs.Prelude.{true, false, if◌then◌else◌, Ok, Err, IfOk}
use Rattle.std.specs.Int.{int_div_euclid}
use Rattle.std.proofs.Math.Nat.{lt_of_mul-lt-mul_right, le_of_mul-le-mul_right, mul-le-mul_right, mul-lt-mul_of_pos_right}
use borrow.Author.Differences.{up, down, sum_is_lem, product_is, neg_is, same_in}
use Rattle.t1_frac.specs.Fraction.{Fraction, IsSame, lowest, whole, plus, negated, floor_of, ceiling_of, nearest_of}
use Rattle.t1_frac.specs.Limits.{coordinate_sum, exceeds, is_too_fine, within}
use Rattle.t1_frac.specs.declared.fault.Code.{Code}
use Rattle.t1_frac.specs.declared.fault.Code.TheVariants.{F39, F40}
use Rattle.t1_frac.specs.Rounding.{RoundAlike, RoundingMoves, FloorAndCeilingMove, IsRoundedAt}
use Rattle.t1_frac.proofs.Exact.{lowest_terms}

-- q is the greatest whole number with q * d not above z, said without subtraction
pub record IsFloor (z : ℤ) (d : ℕ) (q : ℤ) : Type 0 where
  pub below : up q * d + down z ≤ up z + down q * d
  pub above : up z + down q * d < down z + up q * d + d

pub floor_is : (z : ℤ) (d : ℕ) → 0 < d → IsFloor z d (int_div_euclid z (pos d))
floor_is (pos a) d h = record { below = omega arith; above = omega arith }
floor_is (negsuc a) d h = record { below = omega arith; above = omega arith }

-- there is one alone
floor_one : (z q r : ℤ) (d : ℕ) → IsFloor z d q → IsFloor z d r → q ≡ r
floor_one z q r d g h =
    let a : up q + down r < down q + up r + 1 = lt_of_mul-lt-mul_right d (omega (arith, g.below, h.above)) in
    let b : up r + down q < down r + up q + 1 = lt_of_mul-lt-mul_right d (omega (arith, h.below, g.above)) in
    same_in q r (omega arith)

-- of equal fractions
same_floor : (y z q : ℤ) (d e : ℕ) → 0 < d → 0 < e → y *ℤ pos e ≡ z *ℤ pos d → IsFloor z e q → IsFloor y d q
same_floor y z q d e some' some same h =
    let ups : up y * e + down y * 0 ≡ up z * d + down z * 0 = sym (product_is y (pos e)).0 ∙ ap up same ∙ (product_is z (pos d)).0 in
    let downs : up y * 0 + down y * e ≡ up z * 0 + down z * d = sym (product_is y (pos e)).1 ∙ ap down same ∙ (product_is z (pos d)).1 in
    let below : (up q * e + down z) * d ≤ (up z + down q * e) * d = mul-le-mul_right d h.below in
    record {
      below = le_of_mul-le-mul_right {n = up y + down q * d} (omega arith) some;
      above =
          let above : (up z + down q * e) * d < (down z + up q * e + e) * d = mul-lt-mul_of_pos_right h.above some' in
          lt_of_mul-lt-mul_right e (omega arith);
    }

floor_same : (a b : Fraction) → 0 < a.den → 0 < b.den → IsSame a b → floor_of a ≡ floor_of b
floor_same a b ha hb same =
    floor_one a.num (floor_of a) (floor_of b) a.den (floor_is a.num a.den ha)
    (same_floor a.num b.num (floor_of b) a.den b.den ha hb same (floor_is b.num b.den hb))

same_negated : (a b : Fraction) → IsSame a b → IsSame (negated a) (negated b)
same_negated a b same =
    let x = product_is a.num (pos b.den) in
    let y = product_is b.num (pos a.den) in
    let x' = product_is (neg_ℤ a.num) (pos b.den) in
    let y' = product_is (neg_ℤ b.num) (pos a.den) in
    let ups : up (a.num *ℤ pos b.den) ≡ up (b.num *ℤ pos a.den) = ap up same in
    let downs : down (a.num *ℤ pos b.den) ≡ down (b.num *ℤ pos a.den) = ap down same in
    let au : up (neg_ℤ a.num) * b.den ≡ down a.num * b.den = ap (λ x. x * b.den) (neg_is a.num).0 in
    let ad : down (neg_ℤ a.num) * b.den ≡ up a.num * b.den = ap (λ x. x * b.den) (neg_is a.num).1 in
    let bu : up (neg_ℤ b.num) * a.den ≡ down b.num * a.den = ap (λ x. x * a.den) (neg_is b.num).0 in
    let bd : down (neg_ℤ b.num) * a.den ≡ up b.num * a.den = ap (λ x. x * a.den) (neg_is b.num).1 in
    same_in _ _ (omega arith)

ceiling_same : (a b : Fraction) → 0 < a.den → 0 < b.den → IsSame a b → ceiling_of a ≡ ceiling_of b
ceiling_same a b ha hb same = ap neg_ℤ (floor_same (negated a) (negated b) ha hb (same_negated a b same))

pub round_alike : RoundAlike
round_alike a b ha hb same = (floor_same a b ha hb same, ceiling_same a b ha hb same)

moved_floor : (z q k : ℤ) (d : ℕ) → IsFloor z d q → IsFloor (z *ℤ pos 1 +ℤ k *ℤ pos d) (d * 1) (q +ℤ k)
moved_floor z q k d h =
    let total = sum_is_lem q k in
    let scaled : (up (q +ℤ k) + down q + down k) * d ≡ (down (q +ℤ k) + up q + up k) * d = ap (λ x. x * d) total in
    let a = product_is z (pos 1) in
    let b = product_is k (pos d) in
    let s = sum_is_lem (z *ℤ pos 1) (k *ℤ pos d) in
    record { below = omega arith; above = omega arith }

floor_moves : (v : Fraction) (k : ℤ) → 0 < v.den → floor_of (plus v (whole k)) ≡ floor_of v +ℤ k
floor_moves v k h =
    floor_one (plus v (whole k)).num (floor_of (plus v (whole k))) (floor_of v +ℤ k) (v.den * 1)
    (floor_is (plus v (whole k)).num (v.den * 1) (omega arith))
    (moved_floor v.num (floor_of v) k v.den (floor_is v.num v.den h))

-- a sum's negative is the sum of the negatives
neg_moved : (z k : ℤ) (d : ℕ) → neg_ℤ (z *ℤ pos 1 +ℤ k *ℤ pos d) ≡ neg_ℤ z *ℤ pos 1 +ℤ neg_ℤ k *ℤ pos d
neg_moved z k d =
    let a = product_is z (pos 1) in
    let b = product_is k (pos d) in
    let s = sum_is_lem (z *ℤ pos 1) (k *ℤ pos d) in
    let n = neg_is (z *ℤ pos 1 +ℤ k *ℤ pos d) in
    let a' = product_is (neg_ℤ z) (pos 1) in
    let b' = product_is (neg_ℤ k) (pos d) in
    let s' = sum_is_lem (neg_ℤ z *ℤ pos 1) (neg_ℤ k *ℤ pos d) in
    let nz = neg_is z in
    let nk = neg_is k in
    let az : up (neg_ℤ z) * 1 ≡ down z * 1 = ap (λ x. x * 1) nz.0 in
    let bz : down (neg_ℤ z) * 1 ≡ up z * 1 = ap (λ x. x * 1) nz.1 in
    let ak : up (neg_ℤ k) * d ≡ down k * d = ap (λ x. x * d) nk.0 in
    let bk : down (neg_ℤ k) * d ≡ up k * d = ap (λ x. x * d) nk.1 in
    same_in _ _ (omega arith)

-- taking away the negative
neg_neg : (f k : ℤ) → neg_ℤ (f +ℤ neg_ℤ k) ≡ neg_ℤ f +ℤ k
neg_neg f k =
    let s = sum_is_lem f (neg_ℤ k) in
    let n = neg_is (f +ℤ neg_ℤ k) in
    let nk = neg_is k in
    let s' = sum_is_lem (neg_ℤ f) k in
    let nf = neg_is f in
    same_in _ _ (omega arith)

ceiling_moves : (v : Fraction) (k : ℤ) → 0 < v.den → ceiling_of (plus v (whole k)) ≡ ceiling_of v +ℤ k
ceiling_moves v k h =
    let turned : floor_of (negated (plus v (whole k))) ≡ floor_of (plus (negated v) (whole (neg_ℤ k))) =
    ap (λ z. int_div_euclid z (pos (v.den * 1))) (neg_moved v.num k v.den) in
    let moved : floor_of (negated (plus v (whole k))) ≡ floor_of (negated v) +ℤ neg_ℤ k = turned ∙ floor_moves (negated v) (neg_ℤ k) h in
    ap neg_ℤ moved ∙ neg_neg (floor_of (negated v)) k

pub floor_and_ceiling_move : FloorAndCeilingMove
floor_and_ceiling_move v k h = (floor_moves v k h, ceiling_moves v k h)

-- what is within the limits
pub ok_within : (fault : Code) (limit : ℕ) (a : Fraction) (P : Fraction → Type 0) → P a → IfOk (within fault limit a) P
ok_within fault limit a P h = elim (exceeds limit a) as (λ t. IfOk (if t then Err fault else (if is_too_fine a then Err F39 else Ok a)) P) [
  | true ↦ tt
  | false ↦ elim (is_too_fine a) as (λ t. IfOk (if t then Err F39 else Ok a) P) [ true ↦ tt | false ↦ h ]
]

pub rounding_moves : RoundingMoves
unfolding coordinate_sum
rounding_moves v k h =
    let moved = plus v (whole k) in
    let above : 0 < moved.den = omega arith in
    let low = lowest_terms moved above in
    ok_within F40 (2 ^ 20) (lowest moved) (IsRoundedAt v k) (
      floor_same (lowest moved) moved low.1.above above low.0 ∙ floor_moves v k h,
      ceiling_same (lowest moved) moved low.1.above above low.0 ∙ ceiling_moves v k h,
    )

-- a number is the floor of itself and a half
halved : (n : ℤ) → int_div_euclid (n *ℤ pos 2 +ℤ pos 1) (pos 2) ≡ n
halved n =
    let x = product_is n (pos 2) in
    let s = sum_is_lem (n *ℤ pos 2) (pos 1) in
    floor_one (n *ℤ pos 2 +ℤ pos 1) (int_div_euclid (n *ℤ pos 2 +ℤ pos 1) (pos 2)) n 2
    (floor_is (n *ℤ pos 2 +ℤ pos 1) 2 (omega arith))
    (record { below = omega arith; above = omega arith })

-- a whole number is the nearest to itself
pub nearest_whole : (a : Fraction) → a.den ≡ 1 → nearest_of a ≡ a.num
nearest_whole a is = rw is (halved a.num)
