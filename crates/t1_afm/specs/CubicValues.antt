-- The coordinates of curves, as the code has them.
use Rattle.std.specs.Prelude.{List, map}
use Rattle.t1_frac.specs.Fraction.{Fraction}
use Rattle.t1_afm.specs.Points.{cubic_at, sixty_fourths}

-- word: the 65 values of a cubic
abbrev pub cubic_values : Fraction → Fraction → Fraction → Fraction → List Fraction
cubic_values a b c d = map (cubic_at a b c d) sixty_fourths
