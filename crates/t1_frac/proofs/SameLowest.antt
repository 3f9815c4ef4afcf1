-- Equal fractions have the same lowest terms.
use Rattle.std.proofs.Common.{◌≡◌, ℕ, zero, suc, ◌+◌, ◌*◌, ◌/◌, ◌%◌, ◌<◌, ◌≤◌, ℤ, pos, negsuc, ◌*ℤ◌, arith, refl, sym, ◌∙◌, ap, subst, mul-pos}
use Rattle.std.specs.Int.{IsGcd}
use Rattle.std.specs.Int.RustNames.{unsigned_abs, int_div}
use Rattle.std.proofs.Math.Nat.{div-mul_cancel, div-one, le_of_mul-le-mul_right, mul-lt-mul_of_pos_right}
use Rattle.std.proofs.Math.Arith.{digits_mod}
use Rattle.std.proofs.lemmas.Nat.{div-add-mod'}
use Rattle.std.proofs.lemmas.Nat.Gcd.{IsGcd-from_zero, IsGcd-from_mod, same_from_IsGcd}
use Rattle.std.proofs.lemmas.Int.{ints}
use borrow.Author.Differences.{up, down, product_is, same_in}
use Rattle.t1_frac.specs.Fraction.{Fraction, IsSame, IsLowest, lowest, whole, gcd, gcd_within}
use Rattle.t1_frac.specs.Rounding.{SameLowest, LowestStays, WholeIsOverOne}
use Rattle.t1_frac.proofs.Divisors.{IsGcd-gcd, gcd_is, gcd_above}
use Rattle.t1_frac.proofs.Exact.{div_one_abs, lowest_same, lowest_whole}

-- a remainder of multiples
mod_scaled : (a b c : ℕ) → 0 < b → 0 < c → (a * c) % (b * c) ≡ (a % b) * c
mod_scaled a b c hb hc =
    let is : a * c ≡ (a / b) * (b * c) + (a % b) * c = omega (arith, ap (λ x. x * c) (div-add-mod' a b)) in
    let small : a % b < b = omega arith in
    let less : (a % b) * c < b * c = mul-lt-mul_of_pos_right small hc in
    ap (λ x. x % (b * c)) is ∙ digits_mod (a / b) less

scaled_within : (k a b c : ℕ) → 0 < c → b < k → IsGcd (a * c) (b * c) (gcd_within k a b * c)
scaled_within zero a b c some h = absurd (omega arith)
scaled_within (suc k) a zero c some h = IsGcd-from_zero (a * c) (0 * c) (omega arith)
scaled_within (suc k) a (suc b) c some h =
    IsGcd-from_mod (a * c) (suc b * c) _
    (subst (λ r. IsGcd (suc b * c) r (gcd_within k (suc b) (a % suc b) * c)) (sym (mod_scaled a (suc b) c (omega arith) some))
    (scaled_within k (suc b) (a % suc b) c some (omega arith)))

-- multiples have the multiple of the greatest common divisor
pub scaled_gcd : (a b c : ℕ) → 0 < c → IsGcd (a * c) (b * c) (gcd a b * c)
unfolding gcd
scaled_gcd a b c some = scaled_within (b + 1) a b c some (omega arith)

-- |y| / d = |z| / e, over their greatest common divisors
same_abs : (y z : ℤ) (d e : ℕ) → y *ℤ pos e ≡ z *ℤ pos d → unsigned_abs y * e ≡ unsigned_abs z * d
same_abs (pos n) (pos m) d e same = ap unsigned_abs same
same_abs (pos n) (negsuc m) d e same = omega (arith, ints, same)
same_abs (negsuc n) (pos m) d e same = omega (arith, ints, same)
same_abs (negsuc n) (negsuc m) d e same = omega (arith, ints, same)

gcds_same : (n m d e : ℕ) → 0 < d → 0 < e → n * e ≡ m * d → gcd n d * e ≡ gcd m e * d
gcds_same n m d e hd he same =
    let x : IsGcd (n * e) (d * e) (gcd n d * e) = scaled_gcd n d e he in
    let y : IsGcd (m * d) (e * d) (gcd m e * d) = scaled_gcd m e d hd in
    let swapped : e * d ≡ d * e = omega arith in
    let z : IsGcd (n * e) (d * e) (gcd m e * d) = subst (λ k. IsGcd (n * e) k (gcd m e * d)) swapped (subst (λ k. IsGcd k (e * d) (gcd m e * d)) (sym same) y) in
    same_from_IsGcd (n * e) (d * e) (gcd n d * e) (gcd m e * d) x z

pub cancel : (x y k : ℕ) → 0 < k → x * k ≡ y * k → x ≡ y
cancel x y k some e =
    let a : x ≤ y = le_of_mul-le-mul_right {m = x} {n = y} (omega (arith, e)) some in
    let b : y ≤ x = le_of_mul-le-mul_right {m = y} {n = x} (omega (arith, e)) some in
    omega (arith, a, b)

quotients_same : (n m d e : ℕ) → 0 < d → 0 < e → n * e ≡ m * d → d / gcd n d ≡ e / gcd m e
quotients_same n m d e hd he same =
    let g = gcd n d in
    let h = gcd m e in
    let a : d / g * g ≡ d = div-mul_cancel g (IsGcd-gcd n d).1 in
    let b : e / h * h ≡ e = div-mul_cancel h (IsGcd-gcd m e).1 in
    let f : g * e ≡ h * d = gcds_same n m d e hd he same in
    let some : 0 < g * h = mul-pos (gcd_above n d hd) (gcd_above m e he) in
    let eq : d / g * (g * h) ≡ e / h * (g * h) = omega (arith, ap (λ x. x * h) a, ap (λ x. x * g) b, f) in
    cancel (d / g) (e / h) (g * h) some eq

-- p / g is r / d and q / g is s / e, where r / d and s / e are the same
product_same : (p q r s d e g : ℕ) → 0 < d → 0 < e → p * d ≡ r * g → q * e ≡ s * g → r * e ≡ s * d → p ≡ q
product_same p q r s d e g hd he x y z =
    cancel p q (d * e) (mul-pos hd he) (omega (arith, ap (λ k. k * e) x, ap (λ k. k * d) y, ap (λ k. k * g) z))

same_parts : (n m : ℤ) (d e : ℕ) → n ≡ m → d ≡ e → ◌≡◌ {A = Fraction} (record { num = n; den = d }) (record { num = m; den = e })
same_parts n m d e f g = rw (f, g) refl

crossed : (n m : ℤ) (d e : ℕ) → n *ℤ pos e ≡ m *ℤ pos d → (up n * e ≡ up m * d) × (down n * e ≡ down m * d)
crossed n m d e same =
    let x = product_is n (pos e) in
    let y = product_is m (pos d) in
    let ups = ap up same in
    let downs = ap down same in
    (omega (arith, x.0, y.0, ups), omega (arith, x.1, y.1, downs))

nums_same : (a b : Fraction) → 0 < a.den → 0 < b.den → IsSame a b → (lowest a).den ≡ (lowest b).den → (lowest a).num ≡ (lowest b).num
nums_same a b ha hb same dens =
    let x = crossed (lowest a).num a.num (lowest a).den a.den (lowest_same a) in
    let y = crossed (lowest b).num b.num (lowest a).den b.den (lowest_same b ∙ ap (λ k. b.num *ℤ pos k) (sym dens)) in
    let z = crossed a.num b.num a.den b.den same in
    same_in _ _ (
    omega (
      arith,
      product_same (up (lowest a).num) (up (lowest b).num) (up a.num) (up b.num) a.den b.den (lowest a).den ha hb x.0 y.0 z.0,
      product_same (down (lowest a).num) (down (lowest b).num) (down a.num) (down b.num) a.den b.den (lowest a).den ha hb x.1 y.1 z.1,
    )
    )

dens_same : (a b : Fraction) → 0 < a.den → 0 < b.den → IsSame a b → (lowest a).den ≡ (lowest b).den
unfolding lowest
dens_same a b ha hb same = quotients_same (unsigned_abs a.num) (unsigned_abs b.num) a.den b.den ha hb (same_abs a.num b.num a.den b.den same)

pub same_lowest : SameLowest
same_lowest a b ha hb same =
    let dens = dens_same a b ha hb same in
    same_parts _ _ _ _ (nums_same a b ha hb same dens) dens

pub lowest_stays : LowestStays
unfolding lowest
lowest_stays a h =
    let one : 1 ≡ gcd (unsigned_abs a.num) a.den = gcd_is (unsigned_abs a.num) a.den 1 h.coprime in
    subst (λ g. ◌≡◌ {A = Fraction} (record { num = int_div a.num (pos g); den = a.den / g }) a) one
    (rw (div_one_abs a.num, div-one a.den) refl)

-- a whole number in lowest terms is over 1
whole_one : (a : Fraction) (k : ℤ) → IsLowest a → IsSame a (whole k) → a ≡ whole k
whole_one a k h same = sym (lowest_stays a h) ∙ same_lowest a (whole k) h.above (omega arith) same ∙ lowest_whole k

over_one : (a : Fraction) → a.den ≡ 1 → a ≡ whole a.num
over_one a e = same_parts a.num a.num a.den 1 refl e

pub whole_is_over_one : WholeIsOverOne
whole_is_over_one a h = (over_one a, λ k same. ap (λ b. b.den) (whole_one a k h same))
