-- Euclid's algorithm gives the greatest common divisor.
use Rattle.std.proofs.Common.{◌≡◌, ℕ, zero, suc, ◌+◌, ◌<◌, ◌≤◌, ◌%◌, ◌/◌, arith, refl}
use Rattle.std.specs.Int.{IsGcd}
use Rattle.std.proofs.Math.Nat.{mod-zero}
use Rattle.std.proofs.lemmas.Nat.{le-div}
use Prim.Native.Nat.{◌∣◌}
use Rattle.std.proofs.lemmas.Nat.Gcd.{IsGcd-from_zero, IsGcd-from_mod, same_from_IsGcd, le_of_dvd, mod-eq-zero_of_dvd}
use Rattle.t1_frac.specs.Fraction.{gcd, gcd_within}

IsGcd-within : (k a b : ℕ) → b < k → IsGcd a b (gcd_within k a b)
IsGcd-within zero a b h = absurd (omega arith)
IsGcd-within (suc k) a zero h = IsGcd-from_zero a zero refl
IsGcd-within (suc k) a (suc b) h =
    IsGcd-from_mod a (suc b) _ (IsGcd-within k (suc b) (a % suc b) (omega arith))

pub IsGcd-gcd : (a b : ℕ) → IsGcd a b (gcd a b)
unfolding gcd
IsGcd-gcd a b = IsGcd-within (b + 1) a b (omega arith)

-- what is a greatest common divisor is the one
pub gcd_is : (a b g : ℕ) → IsGcd a b g → g ≡ gcd a b
gcd_is a b g h = same_from_IsGcd a b g (gcd a b) h (IsGcd-gcd a b)

-- 0 divides 0 alone
above_from_dvd : (g b : ℕ) → 0 < b → g ∣ b → 0 < g
above_from_dvd zero b h d = let e : b % 0 ≡ 0 = mod-eq-zero_of_dvd 0 d in let f = mod-zero b in absurd (omega arith)
above_from_dvd (suc g) b h d = omega arith

pub gcd_above : (a b : ℕ) → 0 < b → 0 < gcd a b
gcd_above a b h = above_from_dvd (gcd a b) b h (IsGcd-gcd a b).1

pub gcd_below : (a b : ℕ) → 0 < b → gcd a b ≤ b
gcd_below a b h = le_of_dvd h (IsGcd-gcd a b).1

pub quotient_above : (a b : ℕ) → 0 < b → 0 < b / gcd a b
quotient_above a b h =
    le-div 1 b (gcd a b) (gcd_above a b h) (let below = gcd_below a b h in omega arith)
