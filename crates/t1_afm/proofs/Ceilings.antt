-- The ceiling of a fraction that isn't whole is the next whole number after its floor.
use Rattle.std.proofs.Common.{◌≡◌, ℕ, ◌+◌, ◌*◌, ◌<◌, ◌≤◌, ℤ, pos, ◌+ℤ◌, neg_ℤ, Bool, true, false, arith, refl}
use Rattle.std.specs.Prelude.{◌==◌}
use Rattle.std.proofs.Math.Dec.{ltb}
use Rattle.std.proofs.lemmas.Bool.{ltb-true, ltb-false}
use Rattle.std.proofs.Math.Nat.{lt_of_mul-lt-mul_right, mul-le-mul_right}
use borrow.Author.Differences.{up, down, sum_is_lem, product_is, neg_is, same_in}
use Rattle.t1_frac.specs.Fraction.{Fraction, IsLowest, IsSame, whole, negated, floor_of, ceiling_of}
use Rattle.t1_frac.proofs.Rounded.{floor_is}
use Rattle.t1_frac.proofs.SameLowest.{whole_is_over_one}

pub ceiling_next : (a : Fraction) → IsLowest a → (a.den == 1) ≡ false → ceiling_of a ≡ floor_of a +ℤ pos 1
ceiling_next a lowest broken = by (ltb (up f + up g) (down f + down g)) refl where
  f : ℤ
  f = floor_of a

  g : ℤ
  g = floor_of (negated a)

  n : ℤ
  n = a.num

  d : ℕ
  d = a.den

  under : up f * d + down n ≤ up n + down f * d
  under = (floor_is n d lowest.above).below

  over : up g * d + up n ≤ down n + down g * d
  over = omega (arith, (floor_is (neg_ℤ n) d lowest.above).below, neg_is n)

  close : down n + down g * d < up n + up g * d + d
  close = omega (arith, (floor_is (neg_ℤ n) d lowest.above).above, neg_is n)

  before : up n + down f * d < down n + up f * d + d
  before = (floor_is n d lowest.above).above

  few : down f + down g < up f + up g + 2
  few = lt_of_mul-lt-mul_right d (omega (arith, before, close))

  by : (b : Bool) → ltb (up f + up g) (down f + down g) ≡ b → ceiling_of a ≡ f +ℤ pos 1
  by true more = same_in _ _ (omega (arith, ltb-true _ _ more, few, neg_is g, sum_is_lem f (pos 1)))
  by false same =
      let least : (down f + down g) * d ≤ (up f + up g) * d = mul-le-mul_right d (ltb-false _ _ same) in
      let even : IsSame a (whole f) = same_in _ _ (omega (arith, product_is n (pos 1), product_is f (pos d), under, over, least)) in
      let one : d ≡ 1 = (whole_is_over_one a lowest).1 f even in
      let never : (1 == 1) ≡ false = rw one at broken in
      absurd (cc)
