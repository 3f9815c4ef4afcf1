-- A sum of coordinates is within their limits.
use Rattle.std.proofs.Common.{◌≡◌, ℕ, ◌*◌, ◌/◌, ◌%◌, ◌<◌, ◌≤◌, ◌^◌, ◌+ℤ◌, ◌*ℤ◌, ℤ, pos, Ok, arith, rules, sym, ◌∙◌, ap, ap₂, mul-pos, to_z, of_z, w64}
use Rattle.std.proofs.Math.Nat.{div-mul_cancel}
use Rattle.std.proofs.lemmas.Int.{ints}
use Rattle.std.proofs.lemmas.Nat.Gcd.{dvd_of_mod-eq-zero}
use Rattle.std.specs.Prelude.{IfOk}
use Rattle.std.specs.Int.RustNames.{unsigned_abs}
use Rattle.t1_frac.specs.Fraction.{Fraction, lowest, plus, whole}
use Rattle.t1_frac.specs.Limits.{within, coordinate_sum, IsCoordinate}
use Rattle.t1_frac.specs.declared.fault.Code.{Code}
use Rattle.t1_frac.specs.declared.fault.Code.TheVariants.{F40}
use Rattle.t1_frac.proofs.Divisors.{quotient_above}
use Rattle.t1_frac.proofs.Sums.{sum_whole, sum_multiple}

-- what is no larger and no finer
pub within_ok : (fault : Code) (limit : ℕ) (a : Fraction) → unsigned_abs a.num ≤ limit * a.den → a.den ≤ 2 ^ 20 → Ok a ≡ within fault limit a
within_ok fault limit a p q = search rules

pub within_is : (fault : Code) (a : Fraction) → 0 < a.den → IfOk (within fault (2 ^ 20) a) IsCoordinate
within_is fault a above = grind arith

pub lowest_within : (fault : Code) (a : Fraction) → 0 < a.den → IfOk (within fault (2 ^ 20) (lowest a)) IsCoordinate
unfolding lowest
lowest_within fault a above = within_is fault (lowest a) (quotient_above (unsigned_abs a.num) a.den above)

pub sum_within : (a b : Fraction) → 0 < a.den → 0 < b.den → IfOk (coordinate_sum a b) IsCoordinate
unfolding coordinate_sum
sum_within a b ha hb = lowest_within F40 (plus a b) (mul-pos ha hb)

-- a number of 64 bits, read again
pub read_again : (n : ℤ) → unsigned_abs n < 2 ^ 63 → to_z w64 (of_z w64 n) ≡ n
read_again n h = omega (arith, ints, h)

-- the sum of two whole numbers
pub whole_sum : (a b : Fraction) (n : ℤ) → n ≡ a.num +ℤ b.num → a.den ≡ 1 → b.den ≡ 1 → within F40 (2 ^ 20) (whole n) ≡ coordinate_sum a b
unfolding coordinate_sum
whole_sum a b n is e f = ap (λ k. within F40 (2 ^ 20) (whole k)) is ∙ ap (within F40 (2 ^ 20)) (sym (sum_whole a b e f))

-- the sum over a denominator that is a multiple of the other, as it is read
pub long_sum : (n r : ℤ) → unsigned_abs n ≤ 2 ^ 40 → unsigned_abs r ≤ 2 ^ 60 → to_z w64 (of_z w64 (to_z w64 (of_z w64 n) +ℤ to_z w64 (of_z w64 r))) ≡ n +ℤ r
long_sum n r h k = omega (arith, ints, h, k)

multiple_read : (x y : Fraction) (r : ℤ) → unsigned_abs x.num ≤ 2 ^ 40 → x.den % y.den ≡ 0 → 0 < x.den → 0 < y.den
    → r ≡ y.num *ℤ pos (x.den / y.den) → unsigned_abs r ≤ 2 ^ 60
    → lowest (record { num = to_z w64 (of_z w64 (to_z w64 (of_z w64 x.num) +ℤ to_z w64 (of_z w64 r))); den = x.den }) ≡ lowest (plus x y)
multiple_read x y r size multiple some above is small =
    ap (λ n. lowest (record { num = n; den = x.den })) (long_sum x.num r size small ∙ ap (λ n. x.num +ℤ n) is)
    ∙ sum_multiple x y (x.den / y.den) some above (div-mul_cancel y.den (dvd_of_mod-eq-zero y.den multiple))

pub multiple_sum : (a b x y : Fraction) (r : ℤ) → x ≡ a → y ≡ b → unsigned_abs a.num ≤ 2 ^ 40 → unsigned_abs b.num ≤ 2 ^ 40 → a.den % b.den ≡ 0 → 0 < x.den → 0 < y.den
    → r ≡ to_z w64 (of_z w64 y.num) *ℤ pos (x.den / y.den) → unsigned_abs r ≤ 2 ^ 60
    → lowest (record { num = to_z w64 (of_z w64 (to_z w64 (of_z w64 x.num) +ℤ to_z w64 (of_z w64 r))); den = x.den }) ≡ lowest (plus a b)
multiple_sum a b x y r e f left right multiple some above is small =
    let left' : unsigned_abs x.num ≤ 2 ^ 40 = rw e left in
    let right' : unsigned_abs y.num ≤ 2 ^ 40 = rw f right in
    let multiple' : x.den % y.den ≡ 0 = rw (e, f) multiple in
    let is' = is ∙ ap (λ n. n *ℤ pos (x.den / y.den)) (read_again y.num (omega (arith, right'))) in
    multiple_read x y r left' multiple' some above is' small ∙ ap₂ (λ s t. lowest (plus s t)) e f
