-- What laws say of fractions and their rounding.
use Rattle.std.specs.Prelude.{◌≡◌, ◌<◌, ℤ, ◌+ℤ◌, IfOk}
use Rattle.t1_frac.specs.Fraction.{Fraction, IsSame, IsLowest, lowest, whole, plus, floor_of, ceiling_of}
use Rattle.t1_frac.specs.Limits.{coordinate_sum}

-- profile, fractions: lowest terms are the same number, and no smaller terms are
abbrev pub LowestTerms : Type 0
LowestTerms = (a : Fraction) → 0 < a.den → IsSame (lowest a) a × IsLowest (lowest a)

-- profile, fractions: equal fractions have the same lowest terms
abbrev pub SameLowest : Type 0
SameLowest = (a b : Fraction) → 0 < a.den → 0 < b.den → IsSame a b → lowest a ≡ lowest b

-- profile, fractions: lowest terms are their own lowest terms
abbrev pub LowestStays : Type 0
LowestStays = (a : Fraction) → IsLowest a → lowest a ≡ a

-- profile, fractions: a fraction in lowest terms is a whole number where its denominator is 1, and there alone
abbrev pub WholeIsOverOne : Type 0
WholeIsOverOne =
    (a : Fraction) → IsLowest a → (a.den ≡ 1 → a ≡ whole a.num) × ((k : ℤ) → IsSame a (whole k) → a.den ≡ 1)

-- profile, rounding: equal fractions round to the same whole numbers
abbrev pub RoundAlike : Type 0
RoundAlike =
    (a b : Fraction) → 0 < a.den → 0 < b.den → IsSame a b → (floor_of a ≡ floor_of b) × (ceiling_of a ≡ ceiling_of b)

-- profile, rounding: both roundings moved by a whole number
abbrev pub IsRoundedAt : Fraction → ℤ → Fraction → Type 0
IsRoundedAt v k moved = (floor_of moved ≡ floor_of v +ℤ k) × (ceiling_of moved ≡ ceiling_of v +ℤ k)

-- profile, rounding: floor and ceiling of every fraction move with whole numbers
abbrev pub FloorAndCeilingMove : Type 0
FloorAndCeilingMove = (v : Fraction) (k : ℤ) → 0 < v.den → IsRoundedAt v k (plus v (whole k))

-- profile, rounding: floor and ceiling of a coordinate move with whole numbers
abbrev pub RoundingMoves : Type 0
RoundingMoves = (v : Fraction) (k : ℤ) → 0 < v.den → IfOk (coordinate_sum v (whole k)) (IsRoundedAt v k)
