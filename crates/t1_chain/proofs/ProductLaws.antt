-- Products in a width, as the numbers that they are.
use Rattle.std.proofs.Common.{◌≡◌, ℕ, ◌*◌, ◌^◌, ◌<◌, ◌≤◌, ℤ, ◌*ℤ◌, sym, ◌∙◌, ap, ap₂, subst, lt_of_le_of_lt, mul-le-mul, FitsSigned, to_z, of_z}
use mir.Syntax.{Width}
use mir.Val.{hbits}
use Rattle.std.specs.Int.RustNames.{unsigned_abs}
use Rattle.std.proofs.lemmas.Int.{to_z-of_z, unsigned_abs-mul, fits_signed_from_abs}

-- a number that is computed as another one, of at most this size
pub record IsComputed (w : Width) (computed n : ℤ) (m : ℕ) : Type 0 where
  pub fits : FitsSigned w computed
  pub value : to_z w (of_z w computed) ≡ n
  pub size : unsigned_abs (to_z w (of_z w computed)) ≤ m

computed_as : (w : Width) (computed n : ℤ) (m : ℕ) → computed ≡ n → unsigned_abs n ≤ m → m < 2 ^ hbits w → IsComputed w computed n m
computed_as w computed n m is p h =
    let fits : FitsSigned w computed = subst (FitsSigned w) (sym is) (fits_signed_from_abs w n (lt_of_le_of_lt p h)) in
    let value : to_z w (of_z w computed) ≡ n = to_z-of_z w computed fits ∙ is in
    record { fits = fits; value = value; size = subst (λ k. unsigned_abs k ≤ m) (sym value) p }

short_read : (w : Width) (n : ℤ) (m : ℕ) → unsigned_abs n ≤ m → m < 2 ^ hbits w → to_z w (of_z w n) ≡ n
short_read w n m p h = to_z-of_z w n (fits_signed_from_abs w n (lt_of_le_of_lt p h))

product_size : (x y : ℤ) (m k : ℕ) → unsigned_abs x ≤ m → unsigned_abs y ≤ k → unsigned_abs (x *ℤ y) ≤ m * k
product_size x y m k p q = subst (λ s. s ≤ m * k) (sym (unsigned_abs-mul x y)) (mul-le-mul p q)

pub product : (w : Width) (x y n d : ℤ) (m k : ℕ) → x ≡ n → y ≡ d → unsigned_abs n ≤ m → unsigned_abs d ≤ k → m < 2 ^ hbits w → k < 2 ^ hbits w → m * k < 2 ^ hbits w → IsComputed w (to_z w (of_z w x) *ℤ to_z w (of_z w y)) (n *ℤ d) (m * k)
product w x y n d m k is js p q f g h =
    let left : to_z w (of_z w x) ≡ n = ap (λ z. to_z w (of_z w z)) is ∙ short_read w n m p f in
    let right : to_z w (of_z w y) ≡ d = ap (λ z. to_z w (of_z w z)) js ∙ short_read w d k q g in
    computed_as w _ (n *ℤ d) (m * k) (ap₂ ◌*ℤ◌ left right) (product_size n d m k p q) h
