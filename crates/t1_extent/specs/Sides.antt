-- Extremes that have one denominator, by their numerators.
use Rattle.std.specs.Prelude.{ℕ, ℤ}
use Rattle.t1_frac.specs.Fraction.{Fraction, lowest}
use Rattle.t1_extent.specs.declared.sides.Sides.{Sides}
use Rattle.t1_extent.specs.Extremes.{Extremes}

-- word, fractions: a numerator over a denominator, in lowest terms
abbrev pub in_lowest_terms : ℕ → ℤ → Fraction
in_lowest_terms den num = lowest (record { num = num; den = den })

-- word: the extremes whose numerators over this denominator these are
abbrev pub extremes_over : {bits : ℕ} → ℕ → Sides bits → Extremes
extremes_over den s = record { left = in_lowest_terms den s.left; bottom = in_lowest_terms den s.bottom; right = in_lowest_terms den s.right; top = in_lowest_terms den s.top }

-- word: the extremes of whole coordinates
abbrev pub whole_extremes : Sides 20 → Extremes
whole_extremes s = extremes_over 1 s
