-- What contracts see of cubics over a common denominator.
use Rattle.std.specs.Prelude.{List}
use Rattle.t1_frac.specs.Fraction.{Fraction, IsSame}
use Rattle.t1_afm.specs.declared.common.CommonCubic.{CommonCubic}
use Rattle.t1_afm.specs.CubicValues.{cubic_values}
use Rattle.t1_afm.specs.Bounds.{over_den}

-- word: the points of a cubic over a common denominator are these fractions
pub record IsCommon (a b c d : Fraction) (p : CommonCubic) : Type 0 where
  pub start : IsSame (over_den p.den p.cubic.start) a
  pub first : IsSame (over_den p.den p.cubic.first) b
  pub second : IsSame (over_den p.den p.cubic.second) c
  pub end : IsSame (over_den p.den p.cubic.end) d

-- word: the 65 values of a cubic over a common denominator
abbrev pub common_values : CommonCubic → List Fraction
common_values p =
    cubic_values (over_den p.den p.cubic.start) (over_den p.den p.cubic.first) (over_den p.den p.cubic.second) (over_den p.den p.cubic.end)
