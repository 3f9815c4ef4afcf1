-- A fraction in lowest terms is the same number, and no smaller terms are.
use Rattle.std.proofs.Common.{◌≡◌, ℕ, zero, suc, ◌*◌, ◌/◌, ◌<◌, ◌≤◌, ℤ, pos, negsuc, ◌*ℤ◌, neg_ℤ, arith, refl, sym, ◌∙◌, ap, subst}
use Rattle.std.specs.Int.{IsGcd}
use Rattle.std.specs.Int.RustNames.{unsigned_abs, int_div}
use Rattle.std.proofs.Math.Nat.{div-mul_cancel, div-one, one-dvd, mul-dvd-mul_right, dvd_of_mul-dvd-mul_right}
use Prim.Native.Nat.{◌∣◌}
use Rattle.t1_frac.specs.Fraction.{Fraction, IsSame, IsLowest, lowest, gcd}
use Rattle.t1_frac.specs.Rounding.{LowestTerms}
use Rattle.t1_frac.proofs.Divisors.{IsGcd-gcd, gcd_is, gcd_above, gcd_below, quotient_above}

-- n / g over d / g is n over d, where g divides both
cross : (n d g : ℕ) → g ∣ n → g ∣ d → (n / g) * d ≡ n * (d / g)
cross n d g p q =
    let a : n / g * g ≡ n = div-mul_cancel g p in
    let b : d / g * g ≡ d = div-mul_cancel g q in
    omega (arith, ap (λ x. n / g * x) b, ap (λ x. x * (d / g)) a)

pub neg_mul : (k d : ℕ) → neg_ℤ (pos k) *ℤ pos d ≡ neg_ℤ (pos (k * d))
neg_mul zero d = let e : 0 * d ≡ 0 = omega arith in rw e
neg_mul (suc k) d = refl

same_at : (num : ℤ) (d g : ℕ) → g ∣ unsigned_abs num → g ∣ d → int_div num (pos g) *ℤ pos d ≡ num *ℤ pos (d / g)
same_at (pos n) d g p q = ap pos (cross n d g p q)
same_at (negsuc n) d g p q = neg_mul (suc n / g) d ∙ ap (λ x. neg_ℤ (pos x)) (cross (suc n) d g p q)

pub lowest_same : (a : Fraction) → IsSame (lowest a) a
unfolding lowest
lowest_same a = same_at a.num a.den (gcd (unsigned_abs a.num) a.den) (IsGcd-gcd (unsigned_abs a.num) a.den).0 (IsGcd-gcd (unsigned_abs a.num) a.den).1

pub abs_neg : (k : ℕ) → unsigned_abs (neg_ℤ (pos k)) ≡ k
abs_neg zero = refl
abs_neg (suc k) = refl

abs_div : (num : ℤ) (g : ℕ) → unsigned_abs (int_div num (pos g)) ≡ unsigned_abs num / g
abs_div (pos n) g = refl
abs_div (negsuc n) g = abs_neg (suc n / g)

-- over the greatest common divisor, 1 is the greatest that is left
coprime_at : (n d g : ℕ) → 0 < g → IsGcd n d g → IsGcd (n / g) (d / g) 1
coprime_at n d g some h = (
  one-dvd (n / g),
  one-dvd (d / g),
  λ k p q.
      let p' : k * g ∣ n = rw (div-mul_cancel g h.0) at (mul-dvd-mul_right k p g) in
      let q' : k * g ∣ d = rw (div-mul_cancel g h.1) at (mul-dvd-mul_right k q g) in
      let both : k * g ∣ g = h.2 (k * g) p' q' in
      let e : g ≡ 1 * g = omega arith in
      dvd_of_mul-dvd-mul_right k some (subst (λ x. k * g ∣ x) e both),
)

pub lowest_coprime : (a : Fraction) → 0 < a.den → IsLowest (lowest a)
unfolding lowest
lowest_coprime a above = record {
  above = quotient_above (unsigned_abs a.num) a.den above;
  coprime =
      let g = gcd (unsigned_abs a.num) a.den in
      subst (λ n. IsGcd n (a.den / g) 1) (sym (abs_div a.num g))
      (coprime_at (unsigned_abs a.num) a.den g (gcd_above (unsigned_abs a.num) a.den above) (IsGcd-gcd (unsigned_abs a.num) a.den));
}

pub lowest_terms : LowestTerms
lowest_terms a above = (lowest_same a, lowest_coprime a above)

-- a denominator of 1 has nothing to divide
pub div_one_abs : (n : ℤ) → int_div n (pos 1) ≡ n
div_one_abs (pos n) = ap pos (div-one n)
div_one_abs (negsuc n) = ap (λ k. neg_ℤ (pos k)) (div-one (suc n))

pub gcd_one : (n : ℕ) → gcd n 1 ≡ 1
gcd_one n =
    let below : gcd n 1 ≤ 1 = gcd_below n 1 (omega arith) in
    let above : 0 < gcd n 1 = gcd_above n 1 (omega arith) in
    omega arith

pub IsGcd-one : (n d : ℕ) → d ≡ 1 → IsGcd n d 1
IsGcd-one n d e = subst (λ k. IsGcd n k 1) (sym e) (subst (λ g. IsGcd n 1 g) (gcd_one n) (IsGcd-gcd n 1))

pub lowest_whole : (n : ℤ) → lowest (record { num = n; den = 1 }) ≡ record { num = n; den = 1 }
unfolding lowest
lowest_whole n = rw (gcd_one (unsigned_abs n)) (rw (div_one_abs n) refl)

-- neither has a fraction that is in lowest terms
pub lowest_coprime_terms : (n : ℤ) (d : ℕ) → gcd (unsigned_abs n) d ≡ 1 → lowest (record { num = n; den = d }) ≡ record { num = n; den = d }
unfolding lowest
lowest_coprime_terms n d e = rw e (rw (div_one_abs n, div-one d) refl)

-- two numbers with the greatest common divisor 1
coprime_terms_at : (a : Fraction) → IsLowest a → gcd (unsigned_abs a.num) a.den ≡ 1
coprime_terms_at a h = sym (gcd_is (unsigned_abs a.num) a.den 1 h.coprime)

pub coprime_terms : (a : Fraction) → 0 < a.den → gcd (unsigned_abs a.num) a.den ≡ 1 → IsLowest a
coprime_terms a above e =
    record { above = above; coprime = subst (λ g. IsGcd (unsigned_abs a.num) a.den g) e (IsGcd-gcd (unsigned_abs a.num) a.den) }

pub coprime_lowest : (n : ℤ) (d : ℕ) (a : Fraction) → 0 < a.den → record { num = n; den = d } ≡ lowest a → gcd (unsigned_abs n) d ≡ 1
coprime_lowest n d a above is = coprime_terms_at _ (subst IsLowest (sym is) (lowest_coprime a above))

abs_negated : (n : ℤ) → unsigned_abs (neg_ℤ n) ≡ unsigned_abs n
abs_negated (pos n) = abs_neg n
abs_negated (negsuc n) = refl

pub coprime_negated : (n : ℤ) (d : ℕ) → gcd (unsigned_abs n) d ≡ 1 → gcd (unsigned_abs (neg_ℤ n)) d ≡ 1
coprime_negated n d h = ap (λ k. gcd k d) (abs_negated n) ∙ h
