-- What is less than a prime has no divisor in common with it.
use Rattle.std.proofs.Common.{◌≡◌, ℕ, zero, suc, ◌%◌, ◌<◌, ◌^◌, ℤ, pos, negsuc, neg_ℤ, arith, refl, sym, ◌∙◌, ap, subst, subst₂, lt_trans, mod-lt, inl, inr, FitsSigned, to_z, of_z, w64}
use Rattle.std.specs.Int.RustNames.{unsigned_abs, int_div, int_rem}
use Rattle.std.specs.Int.{IsGcd}
use Rattle.std.proofs.Math.Nat.{div_self}
use Rattle.std.proofs.lemmas.Int.{to_z-of_z, to_z_pos}
use Rattle.std.proofs.lemmas.Nat.Gcd.{IsGcd-from_zero, IsGcd-from_mod}
use Rattle.t1_frac.specs.Fraction.{Fraction, gcd, lowest}
use Rattle.t1_frac.specs.SmallPrimes.{IsSmallPrime}
use Rattle.t1_frac.proofs.Divisors.{IsGcd-gcd, gcd_is}
use Rattle.t1_frac.proofs.Exact.{lowest_coprime_terms}

below-two : (r : ℕ) → 0 < r → r < 2 → gcd 2 r ≡ 1
unfolding gcd
below-two zero h k = absurd (omega (arith, h))
below-two (suc zero) h k = refl
below-two (suc (suc r)) h k = absurd (omega (arith, k))

below-three : (r : ℕ) → 0 < r → r < 3 → gcd 3 r ≡ 1
unfolding gcd
below-three zero h k = absurd (omega (arith, h))
below-three (suc zero) h k = refl
below-three (suc (suc zero)) h k = refl
below-three (suc (suc (suc r))) h k = absurd (omega (arith, k))

below-five : (r : ℕ) → 0 < r → r < 5 → gcd 5 r ≡ 1
unfolding gcd
below-five zero h k = absurd (omega (arith, h))
below-five (suc zero) h k = refl
below-five (suc (suc zero)) h k = refl
below-five (suc (suc (suc zero))) h k = refl
below-five (suc (suc (suc (suc zero)))) h k = refl
below-five (suc (suc (suc (suc (suc r))))) h k = absurd (omega (arith, k))

below-seven : (r : ℕ) → 0 < r → r < 7 → gcd 7 r ≡ 1
unfolding gcd
below-seven zero h k = absurd (omega (arith, h))
below-seven (suc zero) h k = refl
below-seven (suc (suc zero)) h k = refl
below-seven (suc (suc (suc zero))) h k = refl
below-seven (suc (suc (suc (suc zero)))) h k = refl
below-seven (suc (suc (suc (suc (suc zero))))) h k = refl
below-seven (suc (suc (suc (suc (suc (suc zero)))))) h k = refl
below-seven (suc (suc (suc (suc (suc (suc (suc r))))))) h k = absurd (omega (arith, k))

coprime_below : (p r : ℕ) → IsSmallPrime p → 0 < r → r < p → gcd p r ≡ 1
coprime_below p r (inl is) h k = rw is (below-two r h (rw is at k))
coprime_below p r (inr (inl is)) h k = rw is (below-three r h (rw is at k))
coprime_below p r (inr (inr (inl is))) h k = rw is (below-five r h (rw is at k))
coprime_below p r (inr (inr (inr is))) h k = rw is (below-seven r h (rw is at k))

-- a number that a prime doesn't divide has no divisor in common with it
pub coprime : (a p r : ℕ) → IsSmallPrime p → r ≡ a % p → 0 < r → r < p → IsGcd a p 1
coprime a p r prime is some below =
    IsGcd-from_mod a p 1 (subst (λ m. IsGcd p m 1) is (subst (IsGcd p r) (coprime_below p r prime some below) (IsGcd-gcd p r)))

-- what a prime divides has it for its greatest common divisor
multiple_gcd : (a p : ℕ) → a % p ≡ 0 → gcd a p ≡ p
multiple_gcd a p h = sym (gcd_is a p p (IsGcd-from_mod a p p (IsGcd-from_zero p (a % p) h)))

-- a numerator that a prime divides, over it
pub multiple_over_prime : (n : ℤ) (p : ℕ) → 0 < p → unsigned_abs n % p ≡ 0 → lowest (record { num = n; den = p }) ≡ record { num = int_div n (pos p); den = 1 }
unfolding lowest
multiple_over_prime n p above h = rw (multiple_gcd (unsigned_abs n) p h) (rw (div_self above) refl)

-- a remainder of 0, as the code computes it
none_at : (k : ℕ) → k < 2 ^ 63 → of_z w64 (neg_ℤ (pos k)) ≡ 0 → k ≡ 0
none_at zero below h = refl
none_at (suc k) below h = absurd (omega (arith, h))

rest_none : (n : ℤ) (p : ℕ) → 0 < p → p < 2 ^ 63 → of_z w64 (int_rem n (pos p)) ≡ 0 → unsigned_abs n % p ≡ 0
rest_none (pos a) p some below h = h
rest_none (negsuc a) p some below h = none_at (suc a % p) (lt_trans (mod-lt (suc a) some) below) h

prime_size : (p : ℕ) → IsSmallPrime p → (0 < p) × (p < 2 ^ 63)
prime_size p (inl is) = omega (arith, is)
prime_size p (inr (inl is)) = omega (arith, is)
prime_size p (inr (inr (inl is))) = omega (arith, is)
prime_size p (inr (inr (inr is))) = omega (arith, is)

pub divided_by_prime : (n : ℤ) (p : ℕ) (q : ℤ) → IsSmallPrime p → FitsSigned w64 n → of_z w64 (int_rem (to_z w64 (of_z w64 n)) (to_z w64 p)) ≡ 0 → FitsSigned w64 q → q ≡ int_div (to_z w64 (of_z w64 n)) (pos p) → ◌≡◌ {A = Fraction} (record { num = to_z w64 (of_z w64 q); den = 1 }) (lowest (record { num = n; den = p }))
divided_by_prime n p q prime fits none fits' is =
    let size = prime_size p prime in
    let same : to_z w64 (of_z w64 n) ≡ n = to_z-of_z w64 n fits in
    let none' : of_z w64 (int_rem n (pos p)) ≡ 0 = subst₂ (λ x y. of_z w64 (int_rem x y) ≡ 0) same (to_z_pos w64 p size.1) none in
    ap (λ k. record { num = k; den = 1 }) (to_z-of_z w64 q fits' ∙ is ∙ ap (λ x. int_div x (pos p)) same)
    ∙ sym (multiple_over_prime n p size.0 (rest_none n p size.0 size.1 none'))

-- and one that it doesn't divide
pub other_over_prime : (n : ℤ) (p : ℕ) → IsSmallPrime p → 0 < unsigned_abs n % p → unsigned_abs n % p < p → lowest (record { num = n; den = p }) ≡ record { num = n; den = p }
other_over_prime n p prime some below = lowest_coprime_terms n p (sym (gcd_is (unsigned_abs n) p 1 (coprime (unsigned_abs n) p (unsigned_abs n % p) prime refl some below)))
