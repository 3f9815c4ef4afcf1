-- Whole bounds of fractions, for the code that adds them up.
use Rattle.std.specs.Prelude.{ℕ, ◌+◌, ◌*◌, ◌≤◌, ◌<◌, ◌^◌, ℤ}
use borrow.Author.Differences.{up, down}
use Rattle.t1_frac.specs.Fraction.{Fraction}
use Rattle.t1_afm.specs.declared.ratio.Ratio.{Ratio}
use Rattle.t1_afm.specs.declared.ratio.WeightedPair.{WeightedPair}
use Rattle.t1_afm.specs.declared.span.Span.{Span}

-- word: the fraction is p - q or more
pub record AtLeast (p q : ℕ) (a : Fraction) : Type 0 where
  pub least : p * a.den + down a.num ≤ up a.num + q * a.den

-- word: the fraction is p - q or less
pub record AtMost (p q : ℕ) (a : Fraction) : Type 0 where
  pub most : up a.num + q * a.den ≤ p * a.den + down a.num

-- word: the fraction is between -1,048,576 and 1,048,576
pub record IsInRange (a : Fraction) : Type 0 where
  pub above : 0 < a.den
  pub least : AtLeast 0 (2 ^ 20) a
  pub most : AtMost (2 ^ 20) 0 a

-- word: the fraction is within the span
pub record IsHeld (s : Span) (a : Fraction) : Type 0 where
  pub least : AtLeast (up s.low) (down s.low) a
  pub most : AtMost (up s.high) (down s.high) a

-- word: a ratio, as a fraction
abbrev pub fraction_of : Ratio → Fraction
fraction_of r = record { num = r.num; den = r.den }

-- word: the sum of two weighted coordinates, as a fraction
abbrev pub pair_fraction : WeightedPair → Fraction
pair_fraction p = record { num = p.num; den = p.den }

-- word: a sum over 64^3
abbrev pub over_cube : ℤ → Fraction
over_cube sum = record { num = sum; den = 262144 }

-- word: a numerator over a denominator
abbrev pub over_den : ℕ → ℤ → Fraction
over_den den n = record { num = n; den = den }

-- word: a sum over 64^3 and a denominator
abbrev pub over_cube_and : ℕ → ℤ → Fraction
over_cube_and den sum = record { num = sum; den = 262144 * den }
