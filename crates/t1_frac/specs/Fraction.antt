-- Fractions of whole numbers, the values of a charstring.
use Rattle.std.specs.Prelude.{◌≡◌, ℕ, zero, suc, ◌+◌, ◌*◌, ◌/◌, ◌%◌, ◌<◌, ℤ, pos, negsuc, neg_ℤ, ◌+ℤ◌, ◌*ℤ◌}
use Rattle.std.specs.declared.cmp.Ordering.{Ordering}
use Rattle.std.specs.Int.{int_div_euclid, IsGcd}
use Rattle.std.specs.Int.RustNames.{int_div, unsigned_abs}
use Rattle.std.specs.Ordering.{int_cmp}

-- Type 1 Font Format, Chapter 6, div: a quotient is kept as a fraction; only pairs with a denominator above 0 are numbers
pub record Fraction : Type 0 where
  pub num : ℤ
  pub den : ℕ

-- profile, fractions: Euclid's algorithm, in at most so many divisions
abbrev pub gcd_within : ℕ → ℕ → ℕ → ℕ
gcd_within zero a b = a
gcd_within (suc k) a zero = a
gcd_within (suc k) a (suc b) = gcd_within k (suc b) (a % suc b)

-- profile, fractions: the greatest common divisor
unfoldable pub gcd : ℕ → ℕ → ℕ
gcd a b = gcd_within (b + 1) a b

-- profile, fractions: two are equal where their cross products are
abbrev pub IsSame : Fraction → Fraction → Type 0
IsSame a b = a.num *ℤ pos b.den ≡ b.num *ℤ pos a.den

-- profile, fractions: in lowest terms, over a denominator above 0
pub record IsLowest (a : Fraction) : Type 0 where
  pub above : 0 < a.den
  pub coprime : IsGcd (unsigned_abs a.num) a.den 1

-- profile, fractions: numerator and denominator over their greatest common divisor
unfoldable pub lowest : Fraction → Fraction
lowest a = record { num = int_div a.num (pos (gcd (unsigned_abs a.num) a.den)); den = a.den / gcd (unsigned_abs a.num) a.den }

-- profile, fractions: a whole number
abbrev pub whole : ℤ → Fraction
whole n = record { num = n; den = 1 }

-- profile, fractions: the schoolbook sum
abbrev pub plus : Fraction → Fraction → Fraction
plus a b = record { num = a.num *ℤ pos b.den +ℤ b.num *ℤ pos a.den; den = a.den * b.den }

-- profile, fractions: the number with the other sign
abbrev pub negated : Fraction → Fraction
negated a = record { num = neg_ℤ a.num; den = a.den }

-- profile, fractions: the schoolbook difference
abbrev pub minus : Fraction → Fraction → Fraction
minus a b = plus a (negated b)

-- profile, fractions: n with the sign of n / m
abbrev pub signed_like : ℤ → ℤ → ℤ
signed_like (pos m) n = n
signed_like (negsuc m) n = neg_ℤ n

-- profile, fractions: the schoolbook quotient, which is no number where b is 0
abbrev pub over : Fraction → Fraction → Fraction
over a b = record { num = signed_like b.num (a.num *ℤ pos b.den); den = a.den * unsigned_abs b.num }

-- profile, fractions: the order of two, by cross products
abbrev pub compared : Fraction → Fraction → Ordering
compared a b = int_cmp (a.num *ℤ pos b.den) (b.num *ℤ pos a.den)

-- profile, rounding: down to a whole number
abbrev pub floor_of : Fraction → ℤ
floor_of a = int_div_euclid a.num (pos a.den)

-- profile, rounding: up to a whole number
abbrev pub ceiling_of : Fraction → ℤ
ceiling_of a = neg_ℤ (floor_of (negated a))

-- profile, rounding: to the nearest whole number, halves upward
abbrev pub nearest_of : Fraction → ℤ
nearest_of a = int_div_euclid (a.num *ℤ pos 2 +ℤ pos a.den) (pos (2 * a.den))
