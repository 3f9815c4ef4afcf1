-- Names that seeds reach through tables of users.
use Rattle.std.specs.Prelude.{◌≡◌, ℕ, Bool, true, List}

-- word: a seed, or a user of what was reached
pub data Reached (seed : List ℕ → Bool) (uses : List ℕ → List ℕ → Bool) : List ℕ → Type 0 where
  Seed : (g : List ℕ) → seed g ≡ true → Reached seed uses g
  User : (p u : List ℕ) → Reached seed uses p → uses p u ≡ true → Reached seed uses u

-- word: the names are what the seeds reach: all of it, and nothing else
pub record Closes (seed : List ℕ → Bool) (uses : List ℕ → List ℕ → Bool) (names : List ℕ → Bool) : Type 0 where
  pub seeds : (g : List ℕ) → seed g ≡ true → names g ≡ true
  pub users : (p u : List ℕ) → names p ≡ true → uses p u ≡ true → names u ≡ true
  pub reached : (g : List ℕ) → names g ≡ true → Reached seed uses g
