-- The sum of a fraction and a whole number is in lowest terms over the fraction's denominator.
use Rattle.std.proofs.Common.{◌≡◌, ℕ, suc, ◌+◌, ◌-◌, ◌*◌, ◌<◌, ◌≤◌, ◌^◌, ℤ, pos, negsuc, ◌+ℤ◌, ◌*ℤ◌, ◌∙◌, arith, sym, ap, ap₂, subst, to_z, of_z, w64}
use Rattle.std.specs.Int.{IsGcd}
use Rattle.std.specs.Int.RustNames.{unsigned_abs}
use Rattle.std.proofs.Math.Nat.{dvd-add, dvd-sub, dvd-mul_left_of_dvd, one-dvd}
use Prim.Native.Nat.{◌∣◌}
use borrow.Author.Differences.{up, down, sum_is_lem, product_is}
use Rattle.t1_frac.specs.Fraction.{Fraction, lowest, plus, gcd}
use Rattle.t1_frac.proofs.Coordinates.{long_sum, read_again}
use Rattle.t1_frac.proofs.Divisors.{IsGcd-gcd, gcd_is}
use Rattle.t1_frac.proofs.Exact.{lowest_coprime_terms}
use Rattle.t1_frac.proofs.Sums.{sum_multiple}

-- what divides a sum and one summand divides the other
divides_rest : (k a l b : ℕ) → a + l ≡ b → k ∣ a → k ∣ b → k ∣ l
divides_rest k a l b e p q =
    let is : b - a ≡ l = omega (arith, e) in
    subst (λ n. k ∣ n) is (dvd-sub k q p)

-- what divides n and d divides x, where n is x and a multiple of d
divides_first : (k : ℕ) (n x y : ℤ) (d : ℕ) → up n + down x + down y * d ≡ down n + up x + up y * d
    → k ∣ d → k ∣ unsigned_abs n → k ∣ unsigned_abs x
divides_first k (pos m) (pos l) y d e p q =
    divides_rest k (up y * d) l (m + down y * d) (omega (arith, e)) (dvd-mul_left_of_dvd k p (up y)) (dvd-add k q (dvd-mul_left_of_dvd k p (down y)))
divides_first k (pos m) (negsuc l) y d e p q =
    divides_rest k (m + down y * d) (suc l) (up y * d) (omega (arith, e)) (dvd-add k q (dvd-mul_left_of_dvd k p (down y))) (dvd-mul_left_of_dvd k p (up y))
divides_first k (negsuc m) (pos l) y d e p q =
    divides_rest k (suc m + up y * d) l (down y * d) (omega (arith, e)) (dvd-add k q (dvd-mul_left_of_dvd k p (up y))) (dvd-mul_left_of_dvd k p (down y))
divides_first k (negsuc m) (negsuc l) y d e p q =
    divides_rest k (down y * d) (suc l) (suc m + up y * d) (omega (arith, e)) (dvd-mul_left_of_dvd k p (down y)) (dvd-add k q (dvd-mul_left_of_dvd k p (up y)))

-- a multiple of the denominator added to the numerator leaves both without a common divisor
coprime_more : (x y : ℤ) (d : ℕ) → gcd (unsigned_abs x) d ≡ 1 → gcd (unsigned_abs (x +ℤ y *ℤ pos d)) d ≡ 1
coprime_more x y d e =
    let n = x +ℤ y *ℤ pos d in
    let own : IsGcd (unsigned_abs x) d 1 = subst (λ g. IsGcd (unsigned_abs x) d g) e (IsGcd-gcd (unsigned_abs x) d) in
    let parts : up n + down x + down y * d ≡ down n + up x + up y * d = omega (arith, sum_is_lem x (y *ℤ pos d), product_is y (pos d)) in
    sym (gcd_is (unsigned_abs n) d 1 (one-dvd (unsigned_abs n), one-dvd d, λ k p q. own.2 k (divides_first k n x y d parts q p) q))

whole_terms : (a b : Fraction) → 0 < a.den → b.den ≡ 1 → gcd (unsigned_abs a.num) a.den ≡ 1
    → record { num = a.num +ℤ b.num *ℤ pos a.den; den = a.den } ≡ lowest (plus a b)
whole_terms a b some one coprime =
    sym (lowest_coprime_terms (a.num +ℤ b.num *ℤ pos a.den) a.den (coprime_more a.num b.num a.den coprime))
    ∙ sum_multiple a b a.den some (omega (arith, one)) (omega (arith, ap (λ d. a.den * d) one))

-- the numerator, as it is read
whole_num : (a b x y : Fraction) (r : ℤ) → x ≡ a → y ≡ b → unsigned_abs a.num ≤ 2 ^ 40 → unsigned_abs b.num ≤ 2 ^ 40
    → r ≡ to_z w64 (of_z w64 y.num) *ℤ pos x.den → unsigned_abs r ≤ 2 ^ 60
    → to_z w64 (of_z w64 (to_z w64 (of_z w64 x.num) +ℤ to_z w64 (of_z w64 r))) ≡ a.num +ℤ b.num *ℤ pos a.den
whole_num a b x y r e f left right is small =
    let left' : unsigned_abs x.num ≤ 2 ^ 40 = rw e left in
    let right' : unsigned_abs y.num ≤ 2 ^ 40 = rw f right in
    let value = is ∙ ap (λ n. n *ℤ pos x.den) (read_again y.num (omega (arith, right'))) in
    long_sum x.num r left' small ∙ ap (λ n. x.num +ℤ n) value ∙ ap₂ (λ (s t : Fraction). s.num +ℤ t.num *ℤ pos s.den) e f

-- a numerator that is the sum's over the fraction's denominator
pub record IsWholeSum (a b : Fraction) (n : ℤ) : Type 0 where
  pub sum : ◌≡◌ {A = Fraction} (record { num = n; den = a.den }) (lowest (plus a b))
  pub coprime : gcd (unsigned_abs n) a.den ≡ 1

pub whole_sum_read : (a b x y : Fraction) (r : ℤ) → x ≡ a → y ≡ b → unsigned_abs a.num ≤ 2 ^ 40 → unsigned_abs b.num ≤ 2 ^ 40
    → r ≡ to_z w64 (of_z w64 y.num) *ℤ pos x.den → unsigned_abs r ≤ 2 ^ 60
    → 0 < x.den → b.den ≡ 1 → gcd (unsigned_abs x.num) x.den ≡ 1
    → IsWholeSum a b (to_z w64 (of_z w64 (to_z w64 (of_z w64 x.num) +ℤ to_z w64 (of_z w64 r))))
whole_sum_read a b x y r e f left right is small above one coprime =
    let above' : 0 < a.den = rw (← e) above in
    let coprime' : gcd (unsigned_abs a.num) a.den ≡ 1 = rw (← e) coprime in
    let n = whole_num a b x y r e f left right is small in
    record {
      sum = ap (λ n. record { num = n; den = a.den }) n ∙ whole_terms a b above' one coprime';
      coprime = ap (λ n. gcd (unsigned_abs n) a.den) n ∙ coprime_more a.num b.num a.den coprime';
    }
