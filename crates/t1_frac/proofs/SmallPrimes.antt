-- Lowest terms by the first primes, one after another.
use Rattle.std.proofs.Common.{◌≡◌, ℕ, zero, suc, ◌+◌, ◌*◌, ◌/◌, ◌%◌, ◌<◌, ◌≤◌, ℤ, pos, negsuc, neg_ℤ, ◌*ℤ◌, ◌^◌, arith, refl, sym, ◌∙◌, ap, subst, mul-pos, inl, inr, to_z, of_z, w64}
use Rattle.std.specs.Int.{IsGcd}
use Rattle.std.specs.Int.RustNames.{unsigned_abs}
use Rattle.std.proofs.Math.Nat.{div-mul_cancel, div-le_self, one-dvd, dvd-mul_left, dvd-mul_right, eq-one_of_dvd-one, mul-le-mul_left}
use Prim.Native.Nat.{◌∣◌}
use Rattle.std.proofs.lemmas.Nat.Gcd.{dvd_trans, dvd_of_mod-eq-zero}
use Rattle.t1_frac.specs.Fraction.{Fraction, IsSame, IsLowest, lowest, gcd, signed_like}
use Rattle.t1_frac.specs.SmallPrimes.{IsSmallPrime}
use Rattle.t1_frac.proofs.Coordinates.{read_again}
use Rattle.t1_frac.proofs.Divisors.{IsGcd-gcd}
use Rattle.t1_frac.proofs.Exact.{abs_neg, neg_mul}
use Rattle.t1_frac.proofs.Primes.{coprime}
use Rattle.t1_frac.proofs.SameLowest.{cancel, same_lowest, lowest_stays, scaled_gcd}

pub prime_above : (p : ℕ) → IsSmallPrime p → 1 < p
prime_above p (inl is) = omega (arith, is)
prime_above p (inr (inl is)) = omega (arith, is)
prime_above p (inr (inr (inl is))) = omega (arith, is)
prime_above p (inr (inr (inr is))) = omega (arith, is)

-- what has nothing in common with two numbers has nothing in common with their product
coprime_product : (n d p : ℕ) → 0 < d → IsGcd n d 1 → IsGcd n p 1 → IsGcd n (d * p) 1
coprime_product n d p some h g = (
  one-dvd n,
  one-dvd (d * p),
  λ k in_n in_product.
      let common = IsGcd-gcd k p in
      let one : gcd k p ≡ 1 = eq-one_of_dvd-one (g.2 (gcd k p) (dvd_trans (gcd k p) common.0 in_n) common.1) in
      let swapped : d * p ≡ p * d = omega arith in
      let both : k ∣ gcd k p * d = (scaled_gcd k p d some).2 k (dvd-mul_right k d) (subst (λ m. k ∣ m) swapped in_product) in
      let is : gcd k p * d ≡ d = omega (arith, ap (λ m. m * d) one) in
      h.2 k in_n (subst (λ m. k ∣ m) is both),
)

-- nor has what divides it
coprime_divided : (n m d : ℕ) → m ∣ n → IsGcd n d 1 → IsGcd m d 1
coprime_divided n m d h g = (one-dvd m, one-dvd d, λ k in_m in_d. g.2 k (dvd_trans k in_m h) in_d)

divided : (n p : ℕ) → n % p ≡ 0 → n / p * p ≡ n
divided n p h = div-mul_cancel p (dvd_of_mod-eq-zero p h)

pub coprime_quotient : (n p d : ℕ) → n % p ≡ 0 → IsGcd n d 1 → IsGcd (n / p) d 1
coprime_quotient n p d h g = coprime_divided n (n / p) d (subst (λ m. n / p ∣ m) (divided n p h) (dvd-mul_right (n / p) p)) g

pub coprime_by_prime : (n d p : ℕ) → IsSmallPrime p → 0 < d → 0 < n % p → n % p < p → IsGcd n d 1 → IsGcd n (d * p) 1
coprime_by_prime n d p prime some rest below g = coprime_product n d p some g (coprime n p (n % p) prime refl rest below)

-- numerator and rest over a prime
pub same_divided : (num coprime rest p n d : ℕ) → 0 < p → num % p ≡ 0 → rest % p ≡ 0 → num * d ≡ n * (coprime * rest) → num / p * d ≡ n * (coprime * (rest / p))
same_divided num c rest p n d some h g e =
    let a = divided num p h in
    let b = divided rest p g in
    cancel (num / p * d) (n * (c * (rest / p))) p some
    (omega (arith, e, ap (λ x. x * d) a, ap (λ x. n * (c * x)) b))

-- a prime that goes from the rest to the other factor
pub same_moved : (num coprime rest p n d : ℕ) → rest % p ≡ 0 → num * d ≡ n * (coprime * rest) → num * d ≡ n * (coprime * p * (rest / p))
same_moved num c rest p n d g e = omega (arith, e, ap (λ x. n * (c * x)) (divided rest p g))

pub finer_divided : (c rest p : ℕ) → c * (rest / p) ≤ c * rest
finer_divided c rest p = mul-le-mul_left c (div-le_self rest p)

pub finer_moved : (c rest p : ℕ) → rest % p ≡ 0 → c * p * (rest / p) ≡ c * rest
finer_moved c rest p g = omega (arith, ap (λ x. c * x) (divided rest p g))

-- ---- lowest terms

signed_abs : (num : ℤ) (m : ℕ) → unsigned_abs (signed_like num (pos m)) ≡ m
signed_abs (pos n) m = refl
signed_abs (negsuc n) m = abs_neg m

signed_same : (num : ℤ) (m d e : ℕ) → m * e ≡ unsigned_abs num * d → signed_like num (pos m) *ℤ pos e ≡ num *ℤ pos d
signed_same (pos n) m d e h = ap pos h
signed_same (negsuc n) m d e h = neg_mul m e ∙ ap (λ k. neg_ℤ (pos k)) h

pub lowest_of : (num : ℤ) (m d e : ℕ) → 0 < d → 0 < e → IsGcd m d 1 → m * e ≡ unsigned_abs num * d
    → record { num = signed_like num (pos m); den = d } ≡ lowest (record { num = num; den = e })
lowest_of num m d e above some h same =
    let a : Fraction = record { num = signed_like num (pos m); den = d } in
    let is : IsLowest a = record { above = above; coprime = subst (λ k. IsGcd k d 1) (sym (signed_abs num m)) h } in
    sym (lowest_stays a is) ∙ same_lowest a (record { num = num; den = e }) above some (signed_same num m d e same)

-- ---- sizes

pub quotient_below : (n p : ℕ) → n / p ≤ n
quotient_below n p = div-le_self n p

pub quotient_above : (n p : ℕ) → 0 < p → n % p ≡ 0 → 0 < n → 0 < n / p
quotient_above n p some h above = by (n / p) (divided n p h) where
  by : (q : ℕ) → q * p ≡ n → 0 < q
  by zero e = absurd (omega (arith, e, above))
  by (suc q) e = omega arith

pub product_above : (c p : ℕ) → 0 < c → 0 < p → 0 < c * p
product_above c p h g = mul-pos h g

-- the size of a numerator over the whole denominator, with the sign, as it is read
signed_read : (num : ℤ) (m : ℕ) → m < 2 ^ 63 → to_z w64 (of_z w64 (signed_like num (pos m))) ≡ signed_like num (pos m)
signed_read num m h = read_again (signed_like num (pos m)) (subst (λ k. k < 2 ^ 63) (sym (signed_abs num m)) h)

pub lowest_signed : (num : ℤ) (m d rest e : ℕ) (s : ℤ) → m < 2 ^ 63 → 0 < d → 0 < e → rest ≡ 1 → IsGcd m d 1 → m * e ≡ unsigned_abs num * (d * rest)
    → s ≡ signed_like num (pos m) → ◌≡◌ {A = Fraction} (record { num = to_z w64 (of_z w64 s); den = d }) (lowest (record { num = num; den = e }))
lowest_signed num m d rest e s below above some one h same is =
    let whole : d * rest ≡ d = omega (arith, ap (λ k. d * k) one) in
    ap (λ z. record { num = z; den = d }) (ap (λ z. to_z w64 (of_z w64 z)) is ∙ signed_read num m below)
    ∙ lowest_of num m d e above some h (same ∙ ap (λ k. unsigned_abs num * k) whole)
