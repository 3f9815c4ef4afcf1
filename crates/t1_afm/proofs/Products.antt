-- Products and sums of numbers that were read, in 64 and 128 bits.
use Rattle.std.proofs.Common.{◌≡◌, ℕ, ◌+◌, ◌*◌, ◌≤◌, ◌^◌, ℤ, pos, ◌+ℤ◌, ◌*ℤ◌, arith, ap, ◌∙◌}
use Rattle.std.specs.Int.RustNames.{unsigned_abs, FitsSigned}
use Rattle.std.proofs.Math.Nat.{mul-le-mul}
use Rattle.std.proofs.lemmas.Int.{ints, unsigned_abs-mul}
use mir.Syntax.{Width, w64, w128}
use mir.Val.{to_z, of_z}
use Rattle.t1_afm.proofs.Longs.{read, read_small}

-- x fits this width, is a, and is of at most this size
pub record IsMade (w : Width) (x a : ℤ) (size : ℕ) : Type 0 where
  pub fits : FitsSigned w x
  pub same : to_z w (of_z w x) ≡ a
  pub bound : unsigned_abs (to_z w (of_z w x)) ≤ size

made_wide : (a : ℤ) (size : ℕ) → unsigned_abs a ≤ size → size ≤ 2 ^ 120 → IsMade w128 a a size
made_wide a size h k =
    let same : to_z w128 (of_z w128 a) ≡ a = omega (arith, ints, h, k) in
    record { fits = omega (arith, ints, h, k); same = same; bound = rw same h }

made_long : (a : ℤ) (size : ℕ) → unsigned_abs a ≤ size → size ≤ 2 ^ 60 → IsMade w64 a a size
made_long a size h k =
    let same : to_z w64 (of_z w64 a) ≡ a = omega (arith, ints, h, k) in
    record { fits = omega (arith, ints, h, k); same = same; bound = rw same h }

pub product_size : (a b : ℤ) (m n : ℕ) → unsigned_abs a ≤ m → unsigned_abs b ≤ n → unsigned_abs (a *ℤ b) ≤ m * n
product_size a b m n h k = rw (unsigned_abs-mul a b) (mul-le-mul h k)

-- a product in 128 bits
pub wide_product : (x y a b : ℤ) (m n : ℕ) → x ≡ a → y ≡ b → unsigned_abs a ≤ m → unsigned_abs b ≤ n → m * n ≤ 2 ^ 120 → IsMade w128 (x *ℤ y) (a *ℤ b) (m * n)
wide_product x y a b m n e f h k fits = rw (e, f) (made_wide (a *ℤ b) (m * n) (product_size a b m n h k) fits)

-- a product in 64 bits
pub long_product : (x y a b : ℤ) (m n : ℕ) → x ≡ a → y ≡ b → unsigned_abs a ≤ m → unsigned_abs b ≤ n → m * n ≤ 2 ^ 60 → IsMade w64 (x *ℤ y) (a *ℤ b) (m * n)
long_product x y a b m n e f h k fits = rw (e, f) (made_long (a *ℤ b) (m * n) (product_size a b m n h k) fits)

-- a sum in 128 bits
pub wide_total : (x y a b : ℤ) (m n : ℕ) → x ≡ a → y ≡ b → unsigned_abs a ≤ m → unsigned_abs b ≤ n → m + n ≤ 2 ^ 120 → IsMade w128 (x +ℤ y) (a +ℤ b) (m + n)
wide_total x y a b m n e f h k fits = rw (e, f) (made_wide (a +ℤ b) (m + n) (total_size a b m n h k) fits)
  where
    total_size : (a b : ℤ) (m n : ℕ) → unsigned_abs a ≤ m → unsigned_abs b ≤ n → unsigned_abs (a +ℤ b) ≤ m + n
    total_size a b m n h k = omega (arith, ints, h, k)

-- ---- read again

pub read_wide : (x : ℤ) → unsigned_abs x ≤ 2 ^ 120 → to_z w128 (of_z w128 x) ≡ x
read_wide x h = omega (arith, ints, h)

-- a number without a sign, in 128 bits with one
pub wide_natural : (n : ℕ) → n ≤ 2 ^ 120 → to_z w128 n ≡ pos n
wide_natural n h = omega (arith, ints, h)

pub natural_fits : (n : ℕ) → n ≤ 2 ^ 120 → FitsSigned w128 (pos n)
natural_fits n h = omega (arith, ints, h)

-- a number of 64 bits, in 128
pub widened_long : (x a : ℤ) (size : ℕ) → x ≡ read a → unsigned_abs a ≤ size → size ≤ 2 ^ 60 → to_z w128 (of_z w128 x) ≡ a
widened_long x a size e h fits =
    let same = read_small a (omega (arith, h, fits)) in
    ap (λ z. to_z w128 (of_z w128 z)) (e ∙ same) ∙ read_wide a (omega (arith, h, fits))
