-- The limits on the values of a run, as tests on a fraction in lowest terms.
use Rattle.std.specs.Prelude.{ℕ, ◌*◌, ◌^◌, ◌<◌, ◌≤◌, ◌==◌, Bool, nat_lt, if◌then◌else◌, Result, Ok, Err}
use Rattle.std.specs.Int.RustNames.{unsigned_abs}
use Rattle.t1_frac.specs.Fraction.{Fraction, lowest, plus, minus, over}
use Rattle.t1_frac.specs.declared.fault.Code.{Code}
use Rattle.t1_frac.specs.declared.fault.Code.TheVariants.{F37, F38, F39, F40}

-- profile, limits: its size is past the limit
abbrev pub exceeds : ℕ → Fraction → Bool
exceeds limit a = nat_lt (limit * a.den) (unsigned_abs a.num)

-- profile, limits: its denominator is past 1,048,576
abbrev pub is_too_fine : Fraction → Bool
is_too_fine a = nat_lt (2 ^ 20) a.den

-- profile, limits: first this fault where its size is past the limit, then F39 where it is too fine
abbrev pub within : Code → ℕ → Fraction → Result Fraction Code
within fault limit a = if exceeds limit a then Err fault else (if is_too_fine a then Err F39 else Ok a)

-- profile, limits: a sum of coordinates is at most 1,048,576 in size
unfoldable pub coordinate_sum : Fraction → Fraction → Result Fraction Code
coordinate_sum a b = within F40 (2 ^ 20) (lowest (plus a b))

-- profile, limits: so is a difference
unfoldable pub coordinate_difference : Fraction → Fraction → Result Fraction Code
coordinate_difference a b = within F40 (2 ^ 20) (lowest (minus a b))

-- profile, limits: a quotient is at most 2^31 in size
unfoldable pub quotient : Fraction → Fraction → Result Fraction Code
quotient a b = if unsigned_abs b.num == 0 then Err F38 else within F37 (2 ^ 31) (lowest (over a b))

-- profile, limits: within the limits of coordinates and denominators
pub record IsCoordinate (a : Fraction) : Type 0 where
  pub above : 0 < a.den
  pub fine : a.den ≤ 2 ^ 20
  pub size : unsigned_abs a.num ≤ 2 ^ 20 * a.den
