-- Fractions moved, and the values of a cubic that is moved.
use Rattle.std.proofs.Common.{◌≡◌, ℕ, ◌+◌, ◌-◌, ◌*◌, ◌<◌, ◌≤◌, inl, inr, ⊎_elim, ℤ, pos, ◌+ℤ◌, ◌*ℤ◌, arith, refl, sym, ◌∙◌, ap, subst, mul-pos}
use Rattle.std.proofs.Math.Nat.{mul-le-mul_right}
use borrow.Author.Differences.{up, down, neg_is, sum_is_lem, product_is, same_in}
use Rattle.t1_frac.specs.Fraction.{Fraction, IsSame, lowest, plus, minus, negated}
use Rattle.t1_frac.proofs.Exact.{lowest_same}
use Rattle.t1_afm.specs.Points.{times, over_whole, weighted, cubic_at}
use Rattle.t1_afm.proofs.Convex.{weights}
use Rattle.t1_extent.specs.Extremes.{lesser, greater, shifted}
use Rattle.t1_frac.proofs.SameLowest.{same_lowest}
use Rattle.t1_extent.proofs.Canonical.{lowest_above}
use Rattle.t1_extent.proofs.Order.{IsUnder, IsCanonical, under_trans, under_from_same, same_from_under, canonical, either, lesser_is, greater_is, lesser_one, greater_one}

-- the whole number is p less q
record HasParts (z : ℤ) (p q : ℕ) : Type 0 where
  parts : up z + q ≡ p + down z

-- the fraction is p less q, over d
record Has (a : Fraction) (p q d : ℕ) : Type 0 where
  num : HasParts a.num p q
  den : a.den ≡ d

has : (a : Fraction) → Has a (up a.num) (down a.num) a.den
has a = record { num = record { parts = refl }; den = refl }

scaled_parts : (z : ℤ) (p q n : ℕ) → HasParts z p q → HasParts (z *ℤ pos n) (p * n) (q * n)
scaled_parts z p q n h = record { parts = omega (arith, product_is z (pos n), ap (λ x. x * n) h.parts) }

weighed_parts : (z : ℤ) (p q n : ℕ) → HasParts z p q → HasParts (pos n *ℤ z) (n * p) (n * q)
weighed_parts z p q n h = record { parts = omega (arith, product_is (pos n) z, ap (λ x. n * x) h.parts) }

sum_parts : (y z : ℤ) (p q r s : ℕ) → HasParts y p q → HasParts z r s → HasParts (y +ℤ z) (p + r) (q + s)
sum_parts y z p q r s h k = record { parts = omega (arith, sum_is_lem y z, h.parts, k.parts) }

has_plus : (a b : Fraction) (p q d r s e : ℕ) → Has a p q d → Has b r s e → Has (plus a b) (p * e + r * d) (q * e + s * d) (d * e)
has_plus a b p q d r s e h k = record {
  num = rw (h.den, k.den) (sum_parts (a.num *ℤ pos e) (b.num *ℤ pos d) (p * e) (q * e) (r * d) (s * d) (scaled_parts a.num p q e h.num) (scaled_parts b.num r s d k.num));
  den = rw (h.den, k.den) refl;
}

has_times : (n : ℕ) (a : Fraction) (p q d : ℕ) → Has a p q d → Has (times n a) (n * p) (n * q) d
has_times n a p q d h = record { num = weighed_parts a.num p q n h.num; den = h.den }

has_over : (n : ℕ) (a : Fraction) (p q d : ℕ) → Has a p q d → Has (over_whole n a) p q (n * d)
has_over n a p q d h = record { num = h.num; den = ap (λ x. n * x) h.den }

same_has : (a b : Fraction) (p q d r s e : ℕ) → Has a p q d → Has b r s e → p * e + s * d ≡ r * d + q * e → IsSame a b
same_has a b p q d r s e h k same =
    let x = scaled_parts a.num p q e h.num in
    let y = scaled_parts b.num r s d k.num in
    let z : a.num *ℤ pos e ≡ b.num *ℤ pos d = same_in _ _ (omega (arith, x.parts, y.parts, same)) in
    rw (h.den, k.den) z

-- crossed terms of equal fractions
crossed : (a b : Fraction) → IsSame a b → up a.num * b.den + down b.num * a.den ≡ up b.num * a.den + down a.num * b.den
crossed a b same =
    let x = product_is a.num (pos b.den) in
    let y = product_is b.num (pos a.den) in
    omega (arith, x, y, ap up same, ap down same)

-- ---- equal fractions in sums

same_refl : (a : Fraction) → IsSame a a
same_refl a = refl

pub same_trans : (a b c : Fraction) → 0 < b.den → IsSame a b → IsSame b c → IsSame a c
same_trans a b c some h k =
    same_from_under a c
    (under_trans a b c some (under_from_same a b h) (under_from_same b c k))
    (under_trans c b a some (under_from_same c b (sym k)) (under_from_same b a (sym h)))

pub plus_same : (a b c d : Fraction) → IsSame a b → IsSame c d → IsSame (plus a c) (plus b d)
plus_same a b c d h k =
    same_has _ _ _ _ _ _ _ _ (has_plus a c _ _ _ _ _ _ (has a) (has c)) (has_plus b d _ _ _ _ _ _ (has b) (has d))
    (omega (arith, ap (λ x. x * (c.den * d.den)) (crossed a b h), ap (λ x. x * (a.den * b.den)) (crossed c d k)))

times_same : (n : ℕ) (a b : Fraction) → IsSame a b → IsSame (times n a) (times n b)
times_same n a b h =
    same_has _ _ _ _ _ _ _ _ (has_times n a _ _ _ (has a)) (has_times n b _ _ _ (has b)) (omega (arith, ap (λ x. n * x) (crossed a b h)))

over_same : (n : ℕ) (a b : Fraction) → IsSame a b → IsSame (over_whole n a) (over_whole n b)
over_same n a b h =
    same_has _ _ _ _ _ _ _ _ (has_over n a _ _ _ (has a)) (has_over n b _ _ _ (has b)) (omega (arith, ap (λ x. n * x) (crossed a b h)))

-- ---- a cubic, moved

-- two weighed fractions, moved
pair_moved : (u v : ℕ) (a b d : Fraction) → IsSame (plus (times u (plus a d)) (times v (plus b d))) (plus (plus (times u a) (times v b)) (times (u + v) d))
pair_moved u v a b d =
    same_has _ _ _ _ _ _ _ _
    (has_plus _ _ _ _ _ _ _ _ (has_times u _ _ _ _ (has_plus a d _ _ _ _ _ _ (has a) (has d))) (has_times v _ _ _ _ (has_plus b d _ _ _ _ _ _ (has b) (has d))))
    (has_plus _ _ _ _ _ _ _ _ (has_plus _ _ _ _ _ _ _ _ (has_times u a _ _ _ (has a)) (has_times v b _ _ _ (has b))) (has_times (u + v) d _ _ _ (has d)))
    (omega arith)

-- both moved
both_moved : (m n : ℕ) (x y d : Fraction) → IsSame (plus (plus x (times m d)) (plus y (times n d))) (plus (plus x y) (times (m + n) d))
both_moved m n x y d =
    same_has _ _ _ _ _ _ _ _
    (has_plus _ _ _ _ _ _ _ _ (has_plus _ _ _ _ _ _ _ _ (has x) (has_times m d _ _ _ (has d))) (has_plus _ _ _ _ _ _ _ _ (has y) (has_times n d _ _ _ (has d))))
    (has_plus _ _ _ _ _ _ _ _ (has_plus x y _ _ _ _ _ _ (has x) (has y)) (has_times (m + n) d _ _ _ (has d)))
    (omega arith)

whole_moved : (n : ℕ) (x d : Fraction) → IsSame (over_whole n (plus x (times n d))) (plus (over_whole n x) d)
whole_moved n x d =
    same_has _ _ _ _ _ _ _ _
    (has_over n _ _ _ _ (has_plus _ _ _ _ _ _ _ _ (has x) (has_times n d _ _ _ (has d))))
    (has_plus _ _ _ _ _ _ _ _ (has_over n x _ _ _ (has x)) (has d))
    (omega arith)

-- four weighed fractions, moved
weighted_moved : (u v w x total : ℕ) (a b c e d : Fraction) → u + v + (w + x) ≡ total → 0 < total → 0 < a.den → 0 < b.den → 0 < c.den → 0 < e.den → 0 < d.den
    → IsSame (over_whole total (weighted u v w x (plus a d) (plus b d) (plus c d) (plus e d))) (plus (over_whole total (weighted u v w x a b c e)) d)
weighted_moved u v w x total a b c e d all some ha hb hc he hd =
    let p = plus (times u a) (times v b) in
    let q = plus (times w c) (times x e) in
    let left = plus (times u (plus a d)) (times v (plus b d)) in
    let right = plus (times w (plus c d)) (times x (plus e d)) in
    let left' = plus p (times (u + v) d) in
    let right' = plus q (times (w + x) d) in
    let sum = plus (plus p q) (times total d) in
    let hp : 0 < a.den * b.den = mul-pos ha hb in
    let hq : 0 < c.den * e.den = mul-pos hc he in
    let h' : 0 < (a.den * b.den) * d.den * ((c.den * e.den) * d.den) = mul-pos (mul-pos hp hd) (mul-pos hq hd) in
    let hs : 0 < (a.den * b.den) * (c.den * e.den) * d.den = mul-pos (mul-pos hp hq) hd in
    let first : IsSame (plus left right) (plus left' right') = plus_same left left' right right' (pair_moved u v a b d) (pair_moved w x c e d) in
    let second : IsSame (plus left' right') sum = subst (λ t. IsSame (plus left' right') (plus (plus p q) (times t d))) all (both_moved (u + v) (w + x) p q d) in
    let third : IsSame (plus left right) sum = same_trans (plus left right) (plus left' right') sum h' first second in
    same_trans (over_whole total (plus left right)) (over_whole total sum) (plus (over_whole total (plus p q)) d) (mul-pos some hs)
    (over_same total (plus left right) sum third) (whole_moved total (plus p q) d)

-- a cubic of moved points is the cubic, moved
pub cubic_moved : (a b c e d : Fraction) (k : ℕ) → k ≤ 64 → 0 < a.den → 0 < b.den → 0 < c.den → 0 < e.den → 0 < d.den
    → IsSame (cubic_at (plus a d) (plus b d) (plus c d) (plus e d) k) (plus (cubic_at a b c e k) d)
cubic_moved a b c e d k inside ha hb hc he hd =
    let j = 64 - k in
    let all : j + k ≡ 64 = omega arith in
    weighted_moved (j * j * j) (3 * j * j * k) (3 * j * k * k) (k * k * k) 262144 a b c e d (weights j k all) (omega arith) ha hb hc he hd

pub cubic_same : (a b c e a' b' c' e' : Fraction) (k : ℕ) → IsSame a a' → IsSame b b' → IsSame c c' → IsSame e e' → IsSame (cubic_at a b c e k) (cubic_at a' b' c' e' k)
cubic_same a b c e a' b' c' e' k ha hb hc he =
    let j = 64 - k in
    let u = j * j * j in let v = 3 * j * j * k in let w = 3 * j * k * k in let x = k * k * k in
    over_same 262144 (weighted u v w x a b c e) (weighted u v w x a' b' c' e')
    (plus_same (plus (times u a) (times v b)) (plus (times u a') (times v b')) (plus (times w c) (times x e)) (plus (times w c') (times x e'))
    (plus_same (times u a) (times u a') (times v b) (times v b') (times_same u a a' ha) (times_same v b b' hb))
    (plus_same (times w c) (times w c') (times x e) (times x e') (times_same w c c' hc) (times_same x e e' he)))

pub cubic_above : (a b c e : Fraction) (k : ℕ) → 0 < a.den → 0 < b.den → 0 < c.den → 0 < e.den → 0 < (cubic_at a b c e k).den
cubic_above a b c e k ha hb hc he = mul-pos {m = 262144} (omega arith) (mul-pos (mul-pos ha hb) (mul-pos hc he))

-- ---- moved fractions in lowest terms

pub plus_above : (a b : Fraction) → 0 < a.den → 0 < b.den → 0 < (plus a b).den
plus_above a b ha hb = mul-pos ha hb

-- a fraction in lowest terms is moved as the fraction is
pub shifted_lowest : (d a : Fraction) → 0 < d.den → 0 < a.den → shifted d (lowest a) ≡ shifted d a
shifted_lowest d a hd ha =
    same_lowest (plus (lowest a) d) (plus a d) (mul-pos (lowest_above a ha) hd) (mul-pos ha hd) (plus_same (lowest a) a d d (lowest_same a) (same_refl d))

under_plus : (a b d : Fraction) → IsUnder a b → IsUnder (plus a d) (plus b d)
under_plus a b d h = record {
  under =
      let x = (has_plus a d _ _ _ _ _ _ (has a) (has d)).num.parts in
      let y = (has_plus b d _ _ _ _ _ _ (has b) (has d)).num.parts in
      let m = mul-le-mul_right (d.den * d.den) h.under in
      omega (arith, ap (λ z. z * (b.den * d.den)) x, ap (λ z. z * (a.den * d.den)) y, m);
}

pub shifted_under : (d a b : Fraction) → 0 < d.den → 0 < a.den → 0 < b.den → IsUnder a b → IsUnder (shifted d a) (shifted d b)
shifted_under d a b hd ha hb h =
    let x = mul-pos ha hd in
    let y = mul-pos hb hd in
    under_trans (shifted d a) (plus a d) (shifted d b) x (under_from_same (shifted d a) (plus a d) (lowest_same (plus a d)))
    (under_trans (plus a d) (plus b d) (shifted d b) y (under_plus a b d h) (under_from_same (plus b d) (shifted d b) (sym (lowest_same (plus b d)))))

pub shifted_canonical : (d a : Fraction) → 0 < d.den → 0 < a.den → IsCanonical (shifted d a)
shifted_canonical d a hd ha = canonical (plus a d) (mul-pos ha hd)

pub shifted_lesser : (d a b : Fraction) → 0 < d.den → IsCanonical a → IsCanonical b → shifted d (lesser a b) ≡ lesser (shifted d a) (shifted d b)
shifted_lesser d a b hd ha hb =
    let l = lesser_is a b in
    let m = either IsCanonical a b (lesser a b) l.one ha hb in
    lesser_one (shifted d a) (shifted d b) (shifted d (lesser a b)) (shifted_canonical d a hd ha.above) (shifted_canonical d b hd hb.above) (shifted_canonical d (lesser a b) hd m.above)
    (shifted_under d (lesser a b) a hd m.above ha.above l.left) (shifted_under d (lesser a b) b hd m.above hb.above l.right)
    (⊎_elim (λ e. inl (ap (shifted d) e)) (λ e. inr (ap (shifted d) e)) l.one)

pub shifted_greater : (d a b : Fraction) → 0 < d.den → IsCanonical a → IsCanonical b → shifted d (greater a b) ≡ greater (shifted d a) (shifted d b)
shifted_greater d a b hd ha hb =
    let l = greater_is a b in
    let m = either IsCanonical a b (greater a b) l.one ha hb in
    greater_one (shifted d a) (shifted d b) (shifted d (greater a b)) (shifted_canonical d a hd ha.above) (shifted_canonical d b hd hb.above) (shifted_canonical d (greater a b) hd m.above)
    (shifted_under d a (greater a b) hd ha.above m.above l.left) (shifted_under d b (greater a b) hd hb.above m.above l.right)
    (⊎_elim (λ e. inl (ap (shifted d) e)) (λ e. inr (ap (shifted d) e)) l.one)

pub shifted_above : (d a : Fraction) → 0 < d.den → 0 < a.den → 0 < (shifted d a).den
shifted_above d a hd ha = lowest_above (plus a d) (mul-pos ha hd)

-- the value of a cubic of moved points is the value, moved
pub cubic_shifted : (d a b c e : Fraction) (k : ℕ) → k ≤ 64 → 0 < d.den → 0 < a.den → 0 < b.den → 0 < c.den → 0 < e.den
    → lowest (cubic_at (shifted d a) (shifted d b) (shifted d c) (shifted d e) k) ≡ shifted d (lowest (cubic_at a b c e k))
cubic_shifted d a b c e k inside hd ha hb hc he =
    let sa = shifted_above d a hd ha in let sb = shifted_above d b hd hb in let sc = shifted_above d c hd hc in let se = shifted_above d e hd he in
    let pa = mul-pos ha hd in let pb = mul-pos hb hd in let pc = mul-pos hc hd in let pe = mul-pos he hd in
    let value = cubic_at a b c e k in
    let hv = cubic_above a b c e k ha hb hc he in
    same_lowest (cubic_at (shifted d a) (shifted d b) (shifted d c) (shifted d e) k) (cubic_at (plus a d) (plus b d) (plus c d) (plus e d) k)
    (cubic_above (shifted d a) (shifted d b) (shifted d c) (shifted d e) k sa sb sc se) (cubic_above (plus a d) (plus b d) (plus c d) (plus e d) k pa pb pc pe)
    (cubic_same (shifted d a) (shifted d b) (shifted d c) (shifted d e) (plus a d) (plus b d) (plus c d) (plus e d) k
    (lowest_same (plus a d)) (lowest_same (plus b d)) (lowest_same (plus c d)) (lowest_same (plus e d)))
    ∙ same_lowest (cubic_at (plus a d) (plus b d) (plus c d) (plus e d) k) (plus value d) (cubic_above (plus a d) (plus b d) (plus c d) (plus e d) k pa pb pc pe) (mul-pos hv hd)
    (cubic_moved a b c e d k inside ha hb hc he hd)
    ∙ sym (shifted_lowest d value hd hv)

-- ---- a distance that is moved

has_negated : (a : Fraction) (p q d : ℕ) → Has a p q d → Has (negated a) q p d
has_negated a p q d h = let n = neg_is a.num in record { num = record { parts = omega (arith, n.0, n.1, h.num.parts) }; den = h.den }

moved_apart : (v q n m : Fraction) → IsSame (plus (plus v (plus q n)) m) (plus v (plus (plus q m) n))
moved_apart v q n m =
    same_has _ _ _ _ _ _ _ _
    (has_plus _ _ _ _ _ _ _ _ (has_plus _ _ _ _ _ _ _ _ (has v) (has_plus q n _ _ _ _ _ _ (has q) (has n))) (has m))
    (has_plus _ _ _ _ _ _ _ _ (has v) (has_plus _ _ _ _ _ _ _ _ (has_plus q m _ _ _ _ _ _ (has q) (has m)) (has n)))
    (omega arith)

not_moved : (v s : Fraction) → IsSame (plus v (minus s s)) v
not_moved v s =
    same_has _ _ _ _ _ _ _ _
    (has_plus _ _ _ _ _ _ _ _ (has v) (has_plus s (negated s) _ _ _ _ _ _ (has s) (has_negated s _ _ _ (has s)))) (has v)
    (omega arith)

-- what was moved as a place was from a start, and is moved again, was moved as the place was in all
pub shifted_apart : (m q s v : Fraction) → 0 < m.den → 0 < q.den → 0 < s.den → 0 < v.den → shifted m (shifted (minus q s) v) ≡ shifted (minus (shifted m q) s) v
shifted_apart m q s v hm hq hs hv =
    let n = negated s in
    let far = plus q m in
    let hqn = mul-pos hq hs in
    let hfar = mul-pos hq hm in
    let hlow = lowest_above far hfar in
    shifted_lowest m (plus v (plus q n)) hm (mul-pos hv hqn)
    ∙ same_lowest (plus (plus v (plus q n)) m) (plus v (plus far n)) (mul-pos (mul-pos hv hqn) hm) (mul-pos hv (mul-pos hfar hs)) (moved_apart v q n m)
    ∙ same_lowest (plus v (plus far n)) (plus v (plus (lowest far) n)) (mul-pos hv (mul-pos hfar hs)) (mul-pos hv (mul-pos hlow hs))
    (plus_same v v (plus far n) (plus (lowest far) n) (same_refl v) (plus_same far (lowest far) n n (sym (lowest_same far)) (same_refl n)))

pub shifted_nowhere : (s v : Fraction) → 0 < s.den → IsCanonical v → shifted (minus s s) v ≡ v
shifted_nowhere s v hs h = same_lowest (plus v (minus s s)) v (mul-pos h.above (mul-pos hs hs)) h.above (not_moved v s) ∙ h.lowest
