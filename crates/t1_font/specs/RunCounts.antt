-- How runs are counted.
use Rattle.std.specs.Prelude.{ℕ, zero, suc, ◌+◌, ◌-◌, ◌^◌, min}

-- profile: a count after so many more runs; it stops at 2^64 - 1
abbrev pub counted : ℕ → ℕ → ℕ
counted count zero = count
counted count (suc runs) = min (counted count runs + 1) (2 ^ 64 - 1)
