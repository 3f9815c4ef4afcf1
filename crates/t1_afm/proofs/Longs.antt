-- Sums, differences and multiples in 64 bits.
use Rattle.std.proofs.Common.{◌≡◌, ℕ, ◌+◌, ◌*◌, ◌≤◌, ◌<◌, ◌^◌, ℤ, pos, negsuc, ◌+ℤ◌, ◌-ℤ◌, ◌*ℤ◌, true, arith, ap, refl, ◌∙◌}
use mathlib.Core.Logic.{◌⊎◌, inl, inr, ⊎_elim}
use mir.Syntax.{w32, w64}
use mir.Val.{to_z, of_z}
use lib.Signed.{mag, le_z}
use Rattle.std.specs.Int.{int_min, int_max}
use Rattle.std.specs.Int.RustNames.{int_lt, unsigned_abs, FitsSigned}
use Rattle.std.proofs.lemmas.Bool.{cases_cond}
use Rattle.std.proofs.lemmas.Int.{ints}
use Rattle.std.proofs.Math.Nat.{mul-le-mul_left}
use Rattle.t1_afm.proofs.Between.{IsBelow}

abbrev pub read : ℤ → ℤ
read x = to_z w64 (of_z w64 x)

-- read from 64 bits, x is a, of at most this size
pub record IsLong (x a : ℤ) (size : ℕ) : Type 0 where
  pub same : read x ≡ a
  pub bound : unsigned_abs a ≤ size

pub read_small : (x : ℤ) → unsigned_abs x ≤ 2 ^ 60 → read x ≡ x
read_small x h = omega (arith, ints, h)

-- a number of 32 bits, read again
pub read_int : (x : ℤ) → mag x < 2 ^ 31 → to_z w32 (of_z w32 x) ≡ x
read_int x h = omega (arith, ints, h)

fits_small : (x : ℤ) → unsigned_abs x ≤ 2 ^ 60 → FitsSigned w64 x
fits_small x h = omega (arith, ints, h)

pub sum_size : (a b : ℤ) (m n : ℕ) → unsigned_abs a ≤ m → unsigned_abs b ≤ n → unsigned_abs (a +ℤ b) ≤ m + n
sum_size a b m n h k = omega (arith, ints, h, k)

pub difference_size : (a b : ℤ) (m n : ℕ) → unsigned_abs a ≤ m → unsigned_abs b ≤ n → unsigned_abs (a -ℤ b) ≤ m + n
difference_size a b m n h k = omega (arith, ints, h, k)

pub multiple_size : (k : ℕ) (a : ℤ) (m : ℕ) → unsigned_abs a ≤ m → unsigned_abs (pos k *ℤ a) ≤ k * m
multiple_size k (pos n) m h = mul-le-mul_left k h
multiple_size k (negsuc n) m h = omega (arith, ints, mul-le-mul_left k h)

pub long : (a : ℤ) (m : ℕ) → unsigned_abs a ≤ m → m ≤ 2 ^ 60 → IsLong a a m
long a m h fits = record { same = read_small a (omega (arith, h, fits)); bound = h }

pub sum_long : (x y a b : ℤ) (m n : ℕ) → IsLong x a m → IsLong y b n → m + n ≤ 2 ^ 60 → IsLong (read x +ℤ read y) (a +ℤ b) (m + n)
sum_long x y a b m n h k fits =
    let size = sum_size a b m n h.bound k.bound in
    record { same = rw (h.same, k.same) (read_small (a +ℤ b) (omega (arith, size, fits))); bound = size }

pub difference_long : (x y a b : ℤ) (m n : ℕ) → IsLong x a m → IsLong y b n → m + n ≤ 2 ^ 60 → IsLong (read x -ℤ read y) (a -ℤ b) (m + n)
difference_long x y a b m n h k fits =
    let size = difference_size a b m n h.bound k.bound in
    record { same = rw (h.same, k.same) (read_small (a -ℤ b) (omega (arith, size, fits))); bound = size }

pub multiple_long : (k : ℕ) (x a : ℤ) (m : ℕ) → IsLong x a m → k * m ≤ 2 ^ 60 → IsLong (pos k *ℤ read x) (pos k *ℤ a) (k * m)
multiple_long k x a m h fits =
    let size = multiple_size k a m h.bound in
    record { same = rw (h.same) (read_small (pos k *ℤ a) (omega (arith, size, fits))); bound = size }

pub sum_fits : (x y a b : ℤ) (m n : ℕ) → IsLong x a m → IsLong y b n → m + n ≤ 2 ^ 60 → FitsSigned w64 (read x +ℤ read y)
sum_fits x y a b m n h k fits =
    let size = sum_size a b m n h.bound k.bound in
    rw (h.same, k.same) (fits_small (a +ℤ b) (omega (arith, size, fits)))

pub difference_fits : (x y a b : ℤ) (m n : ℕ) → IsLong x a m → IsLong y b n → m + n ≤ 2 ^ 60 → FitsSigned w64 (read x -ℤ read y)
difference_fits x y a b m n h k fits =
    let size = difference_size a b m n h.bound k.bound in
    rw (h.same, k.same) (fits_small (a -ℤ b) (omega (arith, size, fits)))

pub multiple_fits : (k : ℕ) (x a : ℤ) (m : ℕ) → IsLong x a m → k * m ≤ 2 ^ 60 → FitsSigned w64 (pos k *ℤ read x)
multiple_fits k x a m h fits =
    let size = multiple_size k a m h.bound in
    rw (h.same) (fits_small (pos k *ℤ a) (omega (arith, size, fits)))

-- what was computed from numbers that were read
pub read_long : (x a : ℤ) (size : ℕ) → x ≡ a → unsigned_abs x ≤ size → size ≤ 2 ^ 60 → IsLong x a size
read_long x a size e h fits = record { same = read_small x (omega (arith, h, fits)) ∙ e; bound = rw (← e) h }

-- ---- the lesser and the greater of two

-- one of two numbers is picked
abbrev pub IsPick : (ℤ → ℤ → ℤ) → Type 0
IsPick f = (a b : ℤ) → (f a b ≡ a) ⊎ (f a b ≡ b)

pub least_is_pick : IsPick int_min
least_is_pick a b = ⊎_elim inr inl (cases_cond (int_lt b a) b a _ refl)

pub greatest_is_pick : IsPick int_max
greatest_is_pick a b = cases_cond (int_lt b a) a b _ refl

pub pick_long : (f : ℤ → ℤ → ℤ) → IsPick f → (x y z a b : ℤ) (m : ℕ) → IsLong x a m → IsLong y b m → m ≤ 2 ^ 60 → z ≡ f (read x) (read y) → IsLong z (f a b) m
pick_long f picks x y z a b m h k fits e =
    let is : z ≡ f a b = rw (h.same, k.same) at e in
    let bound : unsigned_abs (f a b) ≤ m = ⊎_elim (λ p. rw p h.bound) (λ p. rw p k.bound) (picks a b) in
    record { same = ap read is ∙ read_small (f a b) (omega (arith, bound, fits)); bound = bound }

-- two of 64 bits are compared
pub below_long : (x y a b : ℤ) (m n : ℕ) → IsLong x a m → IsLong y b n → le_z (read x) (read y) ≡ true → IsBelow a b
below_long x y a b m n h k t =
    let u : le_z a b ≡ true = rw (h.same, k.same) at t in
    record { below = omega (arith, ints, u) }
