-- The primes that are tried first.
use Rattle.std.specs.Prelude.{◌≡◌, ◌⊎◌, ℕ}

-- word, fractions: one of the first primes
abbrev pub IsSmallPrime : ℕ → Type 0
IsSmallPrime n = (n ≡ 2) ⊎ (n ≡ 3) ⊎ (n ≡ 5) ⊎ (n ≡ 7)
