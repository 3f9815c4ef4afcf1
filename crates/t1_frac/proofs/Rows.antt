-- The definitions of fractions compute on worked rows.
use Rattle.std.proofs.Common.{◌≡◌, ◌*◌, ◌^◌, refl, ℤ, pos, negsuc}
use Rattle.std.specs.Prelude.{Ok, Err}
use Rattle.std.specs.declared.cmp.Ordering.TheVariants.{Less, Equal, Greater}
use Rattle.t1_frac.specs.Fraction.{Fraction, whole, gcd, lowest, compared, floor_of, ceiling_of, nearest_of}
use Rattle.t1_frac.specs.Limits.{coordinate_sum, coordinate_difference, quotient}
use Rattle.t1_frac.specs.declared.fault.Code.TheVariants.{F37, F38, F39, F40}

-- a numerator from 0 over a denominator, and one below 0
abbrev pub n : ℤ → Fraction
n k = whole k

abbrev pub half : ℤ → Fraction
half k = record { num = k; den = 2 }

row_gcd : gcd (2 ^ 71 * 3) (2 ^ 51 * 9) ≡ 2 ^ 51 * 3
unfolding gcd
row_gcd = refl

-- 4 by 6 is 2/3, and 1/3 more is 1
row_quotient : quotient (n (pos 4)) (n (pos 6)) ≡ Ok (record { num = pos 2; den = 3 })
unfolding quotient lowest gcd
row_quotient = refl

row_sum : coordinate_sum (record { num = pos 2; den = 3 }) (record { num = pos 1; den = 3 }) ≡ Ok (n (pos 1))
unfolding coordinate_sum lowest gcd
row_sum = refl

row_difference : coordinate_difference (half (pos 361)) (n (pos 93)) ≡ Ok (half (pos 175))
unfolding coordinate_difference lowest gcd
row_difference = refl

-- the sign of a quotient stands in its numerator
row_negative : quotient (n (pos 1)) (n (negsuc 1)) ≡ Ok (half (negsuc 0))
unfolding quotient lowest gcd
row_negative = refl

row_by_zero : quotient (n (pos 1)) (n (pos 0)) ≡ Err F38
unfolding quotient
row_by_zero = refl

-- -2147483648 by 1 is at the limit, 2147483647 by 1/2 is past it
row_large : quotient (n (negsuc 2147483647)) (n (pos 1)) ≡ Ok (n (negsuc 2147483647))
unfolding quotient lowest gcd
row_large = refl

row_too_large : quotient (n (pos 2147483647)) (half (pos 1)) ≡ Err F37
unfolding quotient lowest gcd
row_too_large = refl

row_fine : quotient (n (pos 1)) (n (pos 1048576)) ≡ Ok (record { num = pos 1; den = 1048576 })
unfolding quotient lowest gcd
row_fine = refl

row_too_fine : quotient (n (pos 1)) (n (pos 1048577)) ≡ Err F39
unfolding quotient lowest gcd
row_too_fine = refl

row_far : coordinate_sum (n (pos 1024000)) (n (pos 24576)) ≡ Ok (n (pos 1048576))
unfolding coordinate_sum lowest gcd
row_far = refl

row_too_far : coordinate_sum (n (pos 1024000)) (n (pos 24577)) ≡ Err F40
unfolding coordinate_sum lowest gcd
row_too_far = refl

-- 1001/2 is nearest to 501, and -1/2 to 0: halves upward
row_nearest : nearest_of (half (pos 1001)) ≡ pos 501
row_nearest = refl

row_nearest_below : nearest_of (half (negsuc 0)) ≡ pos 0
row_nearest_below = refl

row_floor : floor_of (half (negsuc 0)) ≡ negsuc 0
row_floor = refl

row_ceiling : ceiling_of (half (pos 1001)) ≡ pos 501
row_ceiling = refl

row_less : compared (half (pos 1)) (record { num = pos 2; den = 3 }) ≡ Less
row_less = refl

row_equal : compared (n (pos 1)) (n (pos 1)) ≡ Equal
row_equal = refl

row_greater : compared (half (negsuc 0)) (n (negsuc 0)) ≡ Greater
row_greater = refl
