-- How far an accent is moved.
use Rattle.std.proofs.Common.{◌<◌, mul-pos}
use Rattle.std.specs.Prelude.{IfOk}
use Rattle.t1_frac.specs.Fraction.{Fraction, minus}
use Rattle.t1_frac.specs.Limits.{IsCoordinate, coordinate_sum, coordinate_difference}
use Rattle.t1_frac.specs.declared.fault.Code.TheVariants.{F40}
use Rattle.t1_frac.proofs.Coordinates.{lowest_within, sum_within}
use Rattle.t1_run.proofs.Within.{bind-ok}
use Rattle.t1_extent.specs.Laws.{IsDistance, AccentLaw}

difference_within : (a b : Fraction) → 0 < a.den → 0 < b.den → IfOk (coordinate_difference a b) IsCoordinate
unfolding coordinate_difference
difference_within a b ha hb = lowest_within F40 (minus a b) (mul-pos ha hb)

pub accent_law : AccentLaw
accent_law bearing c above h =
    bind-ok IsCoordinate IsDistance (coordinate_sum bearing.x c.adx) _ (sum_within bearing.x c.adx above h.adx) (λ right hr.
    bind-ok IsCoordinate IsDistance (coordinate_difference right c.asb) _ (difference_within right c.asb hr.above h.asb) (λ x hx.
    record { x = hx.above; y = h.ady; x_fine = hx.fine; y_fine = h.ady_fine }))
