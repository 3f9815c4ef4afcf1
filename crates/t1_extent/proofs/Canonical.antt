-- Lowest terms, as fractions of their own.
use Rattle.std.proofs.Common.{◌≡◌, ◌<◌}
use Rattle.t1_frac.specs.Fraction.{Fraction, lowest}
use Rattle.t1_frac.proofs.Exact.{lowest_coprime}
use Rattle.t1_frac.proofs.SameLowest.{lowest_stays}

pub lowest_above : (a : Fraction) → 0 < a.den → 0 < (lowest a).den
lowest_above a h = (lowest_coprime a h).above

-- lowest terms stay
pub lowest_again : (a : Fraction) → 0 < a.den → lowest (lowest a) ≡ lowest a
lowest_again a h = lowest_stays (lowest a) (lowest_coprime a h)
