-- Sides of extremes as numerators in 64 bits.
use Rattle.std.proofs.Common.{◌≡◌, ℕ, ◌*◌, ◌≤◌, ◌^◌, ℤ, pos, ◌*ℤ◌, Bool, true, false, arith, refl, sym, ◌∙◌, ap, subst}
use Rattle.std.specs.Prelude.{if◌then◌else◌}
use Rattle.std.specs.Int.{int_min, int_max}
use Rattle.std.specs.Int.RustNames.{unsigned_abs, int_lt}
use Rattle.t1_frac.specs.Fraction.{Fraction, lowest}
use Rattle.t1_frac.specs.Limits.{IsCoordinate}
use Rattle.t1_frac.proofs.SameLowest.{same_lowest}
use borrow.Author.Differences.{product_is, same_in}
use Rattle.t1_afm.proofs.Longs.{read, read_small}
use Rattle.t1_extent.specs.Sides.{in_lowest_terms}

-- a number of 39 bits at most, read from 64
abbrev pub IsReadAs : ℕ → ℤ → ℤ → Type 0
IsReadAs n x a = (read x ≡ a) × (unsigned_abs (read x) ≤ n)

read_as : (n : ℕ) (x a : ℤ) → n ≤ 2 ^ 38 → x ≡ a → unsigned_abs a ≤ n → IsReadAs n x a
read_as n x a short e h =
    let small : read x ≡ a = ap read e ∙ read_small a (omega (arith, short, h)) in
    (small, subst (λ y. unsigned_abs y ≤ n) (sym small) h)

one_of : (n : ℕ) (t : Bool) (a b : ℤ) → unsigned_abs a ≤ n → unsigned_abs b ≤ n → unsigned_abs (if t then a else b) ≤ n
one_of n true a b h k = h
one_of n false a b h k = k

pub least_read : (n : ℕ) (x a b : ℤ) → n ≤ 2 ^ 38 → x ≡ int_min (read a) (read b) → unsigned_abs a ≤ n → unsigned_abs b ≤ n → IsReadAs n x (int_min a b)
least_read n x a b short e h k =
    read_as n x (int_min a b) short (e ∙ rw (read_small a (omega (arith, short, h)), read_small b (omega (arith, short, k))) refl) (one_of n (int_lt b a) b a k h)

pub greatest_read : (n : ℕ) (x a b : ℤ) → n ≤ 2 ^ 38 → x ≡ int_max (read a) (read b) → unsigned_abs a ≤ n → unsigned_abs b ≤ n → IsReadAs n x (int_max a b)
greatest_read n x a b short e h k =
    read_as n x (int_max a b) short (e ∙ rw (read_small a (omega (arith, short, h)), read_small b (omega (arith, short, k))) refl) (one_of n (int_lt b a) a b h k)

-- a whole coordinate over 64^3
pub cubed : (p : Fraction) → p.den ≡ 1 → in_lowest_terms 262144 (pos 262144 *ℤ p.num) ≡ lowest p
cubed p e =
    same_lowest (record { num = pos 262144 *ℤ p.num; den = 262144 }) p (omega arith) (omega (arith, e))
    (rw e (same_in _ _ (omega (arith, product_is (pos 262144 *ℤ p.num) (pos 1), product_is (pos 262144) p.num, product_is p.num (pos 262144)))))

-- its numerator, as it is computed
pub cubed_read : (p : Fraction) (n x : ℤ) → n ≡ p.num → p.den ≡ 1 → IsCoordinate p → x ≡ pos 262144 *ℤ read n → unsigned_abs x ≤ 2 ^ 38 → in_lowest_terms 262144 (read x) ≡ lowest p
cubed_read p n x is e h made size =
    let small : unsigned_abs p.num ≤ 2 ^ 20 * 1 = rw e at h.size in
    ap (in_lowest_terms 262144) (read_small x (omega (arith, size)) ∙ made ∙ ap (λ y. pos 262144 *ℤ y) (ap read is ∙ read_small p.num (omega (arith, small)))) ∙ cubed p e

pub num_read : (p : Fraction) (x : ℤ) → x ≡ p.num → p.den ≡ 1 → IsCoordinate p → read x ≡ p.num
num_read p x is e h =
    let small : unsigned_abs p.num ≤ 2 ^ 20 * 1 = rw e at h.size in
    ap read is ∙ read_small p.num (omega (arith, small))
