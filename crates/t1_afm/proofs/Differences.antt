-- The values of a cubic between whole coordinates, by their differences.
use Rattle.std.proofs.Common.{◌≡◌, ℕ, ◌+◌, ◌-◌, ◌*◌, ◌≤◌, ◌<◌, ℤ, pos, ◌+ℤ◌, ◌*ℤ◌, arith, ap, refl}
use Rattle.std.proofs.lemmas.Int.{ints}
use borrow.Author.Differences.{up, down, sum_is_lem, product_is, same_in}
use Rattle.t1_afm.specs.declared.whole.WholeCubic.{WholeCubic}
use Rattle.t1_afm.specs.Differences.{linear, square, cube, sum_at}

-- the value of a cubic at k/64, times 64^3
abbrev pub value_at : WholeCubic → ℕ → ℤ
value_at p k = sum_at p.start p.first p.second p.end k

-- what is added to a Bernstein sum, and what it then is
abbrev lacking : ℕ → ℕ → ℕ → ℕ → ℕ → ℕ
lacking k a b c d = 12288 * k * a + 384 * k * k * b + 3 * k * k * k * c + k * k * k * a

abbrev having : ℕ → ℕ → ℕ → ℕ → ℕ → ℕ
having k a b c d = 262144 * a + 12288 * k * b + 192 * k * k * a + 192 * k * k * c + k * k * k * d + 3 * k * k * k * b

powers : (j k a b c d : ℕ) → j + k ≡ 64
    → (j * j * j) * a + (3 * j * j * k) * b + ((3 * j * k * k) * c + (k * k * k) * d) + lacking k a b c d ≡ having k a b c d
powers j k a b c d e =
    omega (
      arith,
      ap (λ x. x * x * x * a) e,
      ap (λ x. x * x * k * a) e,
      ap (λ x. x * k * k * a) e,
      ap (λ x. x * x * k * b) e,
      ap (λ x. x * k * k * b) e,
      ap (λ x. x * k * k * c) e,
    )

weighted_is : (u v w x : ℕ) (a b c d : ℤ)
    → up ((pos u *ℤ a +ℤ pos v *ℤ b) +ℤ (pos w *ℤ c +ℤ pos x *ℤ d)) + (u * down a + v * down b + (w * down c + x * down d))
    ≡ down ((pos u *ℤ a +ℤ pos v *ℤ b) +ℤ (pos w *ℤ c +ℤ pos x *ℤ d)) + (u * up a + v * up b + (w * up c + x * up d))
weighted_is u v w x a b c d =
    omega (
      arith,
      product_is (pos u) a,
      product_is (pos v) b,
      product_is (pos w) c,
      product_is (pos x) d,
      sum_is_lem (pos u *ℤ a) (pos v *ℤ b),
      sum_is_lem (pos w *ℤ c) (pos x *ℤ d),
      sum_is_lem (pos u *ℤ a +ℤ pos v *ℤ b) (pos w *ℤ c +ℤ pos x *ℤ d),
    )

sum_is : (a b c d : ℤ) (k : ℕ) → k ≤ 64
    → up (sum_at a b c d k) + having k (down a) (down b) (down c) (down d) + lacking k (up a) (up b) (up c) (up d)
    ≡ down (sum_at a b c d k) + having k (up a) (up b) (up c) (up d) + lacking k (down a) (down b) (down c) (down d)
sum_is a b c d k h =
    let j = 64 - k in
    let e : j + k ≡ 64 = omega arith in
    let w = weighted_is (j * j * j) (3 * j * j * k) (3 * j * k * k) (k * k * k) a b c d in
    let p = powers j k (up a) (up b) (up c) (up d) e in
    let q = powers j k (down a) (down b) (down c) (down d) e in
    omega (arith, w, p, q)

-- ---- coefficients

linear_is : (p : WholeCubic) → up (linear p) + 12288 * (down p.first + up p.start) ≡ down (linear p) + 12288 * (up p.first + down p.start)
linear_is p = omega (arith, ints)

square_is : (p : WholeCubic)
    → up (square p) + 192 * (down p.start + 2 * up p.first + down p.second) ≡ down (square p) + 192 * (up p.start + 2 * down p.first + up p.second)
square_is p = omega (arith, ints)

cube_is : (p : WholeCubic)
    → up (cube p) + (down p.end + up p.start) + 3 * (down p.first + up p.second) ≡ down (cube p) + (up p.end + down p.start) + 3 * (up p.first + down p.second)
cube_is p = omega (arith, ints)

-- ---- differences

abbrev pub first_at : ℤ → ℤ → ℤ → ℕ → ℤ
first_at p q r k = pos (3 * k * k + 3 * k + 1) *ℤ p +ℤ pos (2 * k + 1) *ℤ q +ℤ r

abbrev pub second_at : ℤ → ℤ → ℕ → ℤ
second_at p q k = pos (6 * k + 6) *ℤ p +ℤ pos 2 *ℤ q

first_is : (p q r : ℤ) (k : ℕ)
    → up (first_at p q r k) + (3 * k * k + 3 * k + 1) * down p + (2 * k + 1) * down q + down r
    ≡ down (first_at p q r k) + (3 * k * k + 3 * k + 1) * up p + (2 * k + 1) * up q + up r
first_is p q r k =
    let u = pos (3 * k * k + 3 * k + 1) *ℤ p in
    let v = pos (2 * k + 1) *ℤ q in
    omega (arith, product_is (pos (3 * k * k + 3 * k + 1)) p, product_is (pos (2 * k + 1)) q, sum_is_lem u v, sum_is_lem (u +ℤ v) r)

second_is : (p q : ℤ) (k : ℕ) → up (second_at p q k) + (6 * k + 6) * down p + 2 * down q ≡ down (second_at p q k) + (6 * k + 6) * up p + 2 * up q
second_is p q k =
    omega (arith, product_is (pos (6 * k + 6)) p, product_is (pos 2) q, sum_is_lem (pos (6 * k + 6) *ℤ p) (pos 2 *ℤ q))

pub first_next : (p q r : ℤ) (k : ℕ) → first_at p q r (k + 1) ≡ first_at p q r k +ℤ second_at p q k
first_next p q r k =
    same_in _ _ (omega (arith, first_is p q r k, first_is p q r (k + 1), second_is p q k, sum_is_lem (first_at p q r k) (second_at p q k)))

pub second_next : (p q : ℤ) (k : ℕ) → second_at p q (k + 1) ≡ second_at p q k +ℤ pos 6 *ℤ p
second_next p q k =
    same_in _ _ (omega (arith, second_is p q k, second_is p q (k + 1), product_is (pos 6) p, sum_is_lem (second_at p q k) (pos 6 *ℤ p)))

pub value_next : (p : WholeCubic) (k : ℕ) → k < 64 → value_at p (k + 1) ≡ value_at p k +ℤ first_at (cube p) (square p) (linear p) k
value_next p k h =
    same_in _ _ (
    omega (
      arith,
      sum_is p.start p.first p.second p.end k (omega arith),
      sum_is p.start p.first p.second p.end (k + 1) (omega arith),
      first_is (cube p) (square p) (linear p) k,
      sum_is_lem (value_at p k) (first_at (cube p) (square p) (linear p) k),
      ap (λ x. (3 * k * k + 3 * k + 1) * x) (cube_is p),
      ap (λ x. (2 * k + 1) * x) (square_is p),
      linear_is p,
    )
    )

pub first_start : (p q r : ℤ) → first_at p q r 0 ≡ p +ℤ q +ℤ r
first_start p q r = same_in _ _ (omega (arith, first_is p q r 0, sum_is_lem p q, sum_is_lem (p +ℤ q) r))

pub second_start : (p q : ℤ) → second_at p q 0 ≡ pos 6 *ℤ p +ℤ pos 2 *ℤ q
second_start p q = refl
