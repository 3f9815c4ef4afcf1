-- Numbers of two bytes by their digits.
use Rattle.std.specs.Prelude.{ℕ, Bool, if◌then◌else◌, List, ◌∷◌}
use Rattle.std.specs.Fmt.{decimal}

-- word, printing: the digits of a number, behind a minus where it is below 0
abbrev pub signed_digits : Bool → ℕ → List ℕ
signed_digits is_negative size = if is_negative then 45 ∷ decimal size else decimal size
