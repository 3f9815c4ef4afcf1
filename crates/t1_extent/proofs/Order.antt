-- The order of fractions, and the lesser and the greater of two.
use Rattle.std.proofs.Common.{◌≡◌, ◌+◌, ◌*◌, ◌<◌, ◌≤◌, ◌⊎◌, inl, inr, pos, ◌*ℤ◌, Bool, true, false, arith, refl, sym, ◌∙◌, ap, subst}
use Rattle.std.specs.Prelude.{if◌then◌else◌}
use Rattle.std.specs.Int.{int_min, int_max}
use Rattle.std.proofs.lemmas.Int.{int_min_is, int_max_is}
use Rattle.std.proofs.Math.Nat.{mul-le-mul_right, le_of_mul-le-mul_right}
use borrow.Author.Differences.{up, down, product_is, same_in, lt-true, lt-false}
use Rattle.t1_frac.specs.Fraction.{Fraction, IsSame, lowest, floor_of, ceiling_of}
use Rattle.t1_afm.proofs.Between.{IsBelow, least_from_floor, floor_from_least, most_from_ceiling, ceiling_from_most}
use Rattle.t1_extent.specs.Extremes.{is_less, lesser, greater}
use Rattle.t1_frac.proofs.SameLowest.{same_lowest}
use Rattle.t1_extent.proofs.Canonical.{lowest_above, lowest_again}

-- a isn't above b
pub record IsUnder (a b : Fraction) : Type 0 where
  pub under : up a.num * b.den + down b.num * a.den ≤ up b.num * a.den + down a.num * b.den

-- in lowest terms
pub record IsCanonical (a : Fraction) : Type 0 where
  pub above : 0 < a.den
  pub lowest : lowest a ≡ a

pub under_refl : (a : Fraction) → IsUnder a a
under_refl a = record { under = omega arith }

pub under_trans : (a b c : Fraction) → 0 < b.den → IsUnder a b → IsUnder b c → IsUnder a c
under_trans a b c some h k = record {
  under =
      let x = mul-le-mul_right c.den h.under in
      let y = mul-le-mul_right a.den k.under in
      le_of_mul-le-mul_right {m = up a.num * c.den + down c.num * a.den} {n = up c.num * a.den + down a.num * c.den} (omega (arith, x, y)) some;
}

pub same_from_under : (a b : Fraction) → IsUnder a b → IsUnder b a → IsSame a b
same_from_under a b h k =
    same_in _ _ (omega (arith, product_is a.num (pos b.den), product_is b.num (pos a.den), h.under, k.under))

pub under_from_same : (a b : Fraction) → IsSame a b → IsUnder a b
under_from_same a b e = record {
  under =
      let x = product_is a.num (pos b.den) in
      let y = product_is b.num (pos a.den) in
      omega (arith, x, y, ap up e, ap down e);
}

pub canonical_same : (a b : Fraction) → IsCanonical a → IsCanonical b → IsUnder a b → IsUnder b a → a ≡ b
canonical_same a b ha hb h k = sym ha.lowest ∙ same_lowest a b ha.above hb.above (same_from_under a b h k) ∙ hb.lowest

pub canonical : (a : Fraction) → 0 < a.den → IsCanonical (lowest a)
canonical a h = record { above = lowest_above a h; lowest = lowest_again a h }

-- ---- tests

pub less_true : (a b : Fraction) → is_less a b ≡ true → IsUnder a b
less_true a b e = record {
  under = omega (arith, lt-true (a.num *ℤ pos b.den) (b.num *ℤ pos a.den) e, product_is a.num (pos b.den), product_is b.num (pos a.den));
}

pub less_false : (a b : Fraction) → is_less a b ≡ false → IsUnder b a
less_false a b e = record {
  under = omega (arith, lt-false (a.num *ℤ pos b.den) (b.num *ℤ pos a.den) e, product_is a.num (pos b.den), product_is b.num (pos a.den));
}

-- m is one of two, and above neither
pub record IsLesser (a b m : Fraction) : Type 0 where
  pub left : IsUnder m a
  pub right : IsUnder m b
  pub one : (m ≡ a) ⊎ (m ≡ b)

pub record IsGreater (a b m : Fraction) : Type 0 where
  pub left : IsUnder a m
  pub right : IsUnder b m
  pub one : (m ≡ a) ⊎ (m ≡ b)

lesser_by : (a b : Fraction) (t : Bool) → is_less b a ≡ t → IsLesser a b (if t then b else a)
lesser_by a b true e = record { left = less_true b a e; right = under_refl b; one = inr refl }
lesser_by a b false e = record { left = under_refl a; right = less_false b a e; one = inl refl }

pub lesser_is : (a b : Fraction) → IsLesser a b (lesser a b)
lesser_is a b = lesser_by a b (is_less b a) refl

greater_by : (a b : Fraction) (t : Bool) → is_less a b ≡ t → IsGreater a b (if t then b else a)
greater_by a b true e = record { left = less_true a b e; right = under_refl b; one = inr refl }
greater_by a b false e = record { left = under_refl a; right = less_false a b e; one = inl refl }

pub greater_is : (a b : Fraction) → IsGreater a b (greater a b)
greater_is a b = greater_by a b (is_less a b) refl

-- what holds of both holds of the one
pub either : (P : Fraction → Type 0) (a b m : Fraction) → (m ≡ a) ⊎ (m ≡ b) → P a → P b → P m
either P a b m (inl e) h k = subst P (sym e) h
either P a b m (inr e) h k = subst P (sym e) k

pub lesser_canonical : (a b : Fraction) → IsCanonical a → IsCanonical b → IsCanonical (lesser a b)
lesser_canonical a b ha hb = either IsCanonical a b (lesser a b) (lesser_is a b).one ha hb

pub greater_canonical : (a b : Fraction) → IsCanonical a → IsCanonical b → IsCanonical (greater a b)
greater_canonical a b ha hb = either IsCanonical a b (greater a b) (greater_is a b).one ha hb

-- there is one alone
pub lesser_one : (a b m : Fraction) → IsCanonical a → IsCanonical b → IsCanonical m → IsUnder m a → IsUnder m b → (m ≡ a) ⊎ (m ≡ b) → m ≡ lesser a b
lesser_one a b m ha hb hm h k one =
    let l = lesser_is a b in
    canonical_same m (lesser a b) hm (lesser_canonical a b ha hb)
    (either (IsUnder m) a b (lesser a b) l.one h k)
    (either (IsUnder (lesser a b)) a b m one l.left l.right)

pub greater_one : (a b m : Fraction) → IsCanonical a → IsCanonical b → IsCanonical m → IsUnder a m → IsUnder b m → (m ≡ a) ⊎ (m ≡ b) → m ≡ greater a b
greater_one a b m ha hb hm h k one =
    let l = greater_is a b in
    canonical_same m (greater a b) hm (greater_canonical a b ha hb)
    (either (λ x. IsUnder x (greater a b)) a b m one l.left l.right)
    (either (λ x. IsUnder x m) a b (greater a b) l.one h k)

pub lesser_assoc : (a b c : Fraction) → IsCanonical a → IsCanonical b → IsCanonical c → lesser (lesser a b) c ≡ lesser a (lesser b c)
lesser_assoc a b c ha hb hc =
    let ab = lesser_is a b in let abc = lesser_is (lesser a b) c in let bc = lesser_is b c in let rest = lesser_is a (lesser b c) in
    let hab = lesser_canonical a b ha hb in let hbc = lesser_canonical b c hb hc in
    let m = lesser (lesser a b) c in let n = lesser a (lesser b c) in
    let ma = under_trans m (lesser a b) a hab.above abc.left ab.left in
    let mb = under_trans m (lesser a b) b hab.above abc.left ab.right in
    let nb = under_trans n (lesser b c) b hbc.above rest.right bc.left in
    let nc = under_trans n (lesser b c) c hbc.above rest.right bc.right in
    canonical_same m n (lesser_canonical (lesser a b) c hab hc) (lesser_canonical a (lesser b c) ha hbc)
    (either (IsUnder m) a (lesser b c) n rest.one ma (either (IsUnder m) b c (lesser b c) bc.one mb abc.right))
    (either (IsUnder n) (lesser a b) c m abc.one (either (IsUnder n) a b (lesser a b) ab.one rest.left nb) nc)

pub greater_assoc : (a b c : Fraction) → IsCanonical a → IsCanonical b → IsCanonical c → greater (greater a b) c ≡ greater a (greater b c)
greater_assoc a b c ha hb hc =
    let ab = greater_is a b in let abc = greater_is (greater a b) c in let bc = greater_is b c in let rest = greater_is a (greater b c) in
    let hab = greater_canonical a b ha hb in let hbc = greater_canonical b c hb hc in
    let m = greater (greater a b) c in let n = greater a (greater b c) in
    let ma = under_trans a (greater a b) m hab.above ab.left abc.left in
    let mb = under_trans b (greater a b) m hab.above ab.right abc.left in
    let nb = under_trans b (greater b c) n hbc.above bc.left rest.right in
    let nc = under_trans c (greater b c) n hbc.above bc.right rest.right in
    canonical_same m n (greater_canonical (greater a b) c hab hc) (greater_canonical a (greater b c) ha hbc)
    (either (λ x. IsUnder x n) (greater a b) c m abc.one (either (λ x. IsUnder x n) a b (greater a b) ab.one rest.left nb) nc)
    (either (λ x. IsUnder x m) a (greater b c) n rest.one ma (either (λ x. IsUnder x m) b c (greater b c) bc.one mb abc.right))

-- ---- rounding

pub floor_under : (a b : Fraction) → 0 < a.den → 0 < b.den → IsUnder a b → IsBelow (floor_of a) (floor_of b)
floor_under a b ha hb h =
    let q = floor_of a in
    let l = least_from_floor q a ha (record { below = omega arith }) in
    let x = mul-le-mul_right b.den l.least in
    floor_from_least q b hb (record {
      least = le_of_mul-le-mul_right {m = up q * b.den + down b.num} {n = up b.num + down q * b.den} (omega (arith, x, h.under)) ha;
    })

pub ceiling_under : (a b : Fraction) → 0 < a.den → 0 < b.den → IsUnder a b → IsBelow (ceiling_of a) (ceiling_of b)
ceiling_under a b ha hb h =
    let q = ceiling_of b in
    let m = most_from_ceiling q b hb (record { below = omega arith }) in
    let x = mul-le-mul_right a.den m.most in
    ceiling_from_most q a ha (record {
      most = le_of_mul-le-mul_right {m = up a.num + down q * a.den} {n = up q * a.den + down a.num} (omega (arith, x, h.under)) hb;
    })

pub floor_lesser : (a b : Fraction) → 0 < a.den → 0 < b.den → floor_of (lesser a b) ≡ int_min (floor_of a) (floor_of b)
floor_lesser a b ha hb = by (is_less b a) refl
  where
    by : (t : Bool) → is_less b a ≡ t → floor_of (if t then b else a) ≡ int_min (floor_of a) (floor_of b)
    by true e = same_in _ _ (omega (arith, int_min_is (floor_of a) (floor_of b), (floor_under b a hb ha (less_true b a e)).below))
    by false e = same_in _ _ (omega (arith, int_min_is (floor_of a) (floor_of b), (floor_under a b ha hb (less_false b a e)).below))

pub ceiling_greater : (a b : Fraction) → 0 < a.den → 0 < b.den → ceiling_of (greater a b) ≡ int_max (ceiling_of a) (ceiling_of b)
ceiling_greater a b ha hb = by (is_less a b) refl
  where
    by : (t : Bool) → is_less a b ≡ t → ceiling_of (if t then b else a) ≡ int_max (ceiling_of a) (ceiling_of b)
    by true e = same_in _ _ (omega (arith, int_max_is (ceiling_of a) (ceiling_of b), (ceiling_under a b ha hb (less_true a b e)).below))
    by false e = same_in _ _ (omega (arith, int_max_is (ceiling_of a) (ceiling_of b), (ceiling_under b a hb ha (less_false a b e)).below))
