-- The span of a cubic between fractions, by the sums of their numerators over a common denominator.
use Rattle.std.proofs.Common.{◌≡◌, Bool, true, false, ℕ, zero, suc, ◌+◌, ◌-◌, ◌*◌, ◌/◌, ◌%◌, ◌≤◌, ◌<◌, ◌^◌, ℤ, pos, negsuc, neg_ℤ, ◌+ℤ◌, ◌*ℤ◌, List, [], ◌∷◌, map, arith, refl, ap, ap₂, ◌∙◌, sym, mul-pos, inl, inr}
use Rattle.std.specs.Prelude.{fold, ◌⊎◌, Option, Some, None, IfSome}
use mir.Syntax.{w32}
use mir.Val.{to_z, of_z}
use lib.Signed.{mag}
use Rattle.std.specs.Int.{int_min, int_max, int_div_euclid}
use Rattle.std.specs.List.{range_with_len}
use Rattle.std.specs.Int.RustNames.{unsigned_abs}
use Rattle.std.proofs.Math.Dec.{ltb}
use Rattle.std.proofs.Math.Nat.{lt_of_mul-lt-mul_right, mul-le-mul_left, div-mul_cancel}
use Rattle.std.proofs.lemmas.Bool.{ltb-true, ltb-false}
use Rattle.std.proofs.lemmas.Int.{ints, int_min_is, int_max_is}
use Rattle.std.proofs.lemmas.Nat.Gcd.{dvd_of_mod-eq-zero}
use borrow.Author.Differences.{up, down, sum_is_lem, product_is, neg_is, same_in}
use Rattle.t1_frac.specs.Fraction.{Fraction, IsSame, plus, negated, floor_of, ceiling_of}
use Rattle.t1_frac.specs.Limits.{IsCoordinate}
use Rattle.t1_frac.proofs.Rounded.{IsFloor, floor_is, round_alike}
use Rattle.t1_afm.specs.declared.span.Span.{Span}
use Rattle.t1_afm.specs.declared.common.CommonCubic.{CommonCubic}
use Rattle.t1_afm.specs.Points.{times, over_whole, cubic_at, sixty_fourths}
use Rattle.t1_afm.specs.CubicValues.{cubic_values}
use Rattle.t1_afm.specs.Spans.{span_of}
use Rattle.t1_afm.specs.Bounds.{over_cube, over_den, over_cube_and}
use Rattle.t1_afm.specs.Common.{IsCommon, common_values}
use Rattle.t1_afm.specs.Differences.{sum_at, picked_sum, least_sum, greatest_sum}
use Rattle.t1_afm.proofs.Between.{IsBelow, same_span}
use Rattle.t1_afm.proofs.Longs.{read, read_int, read_small}

-- ---- products and sums of numerators

joined : (a b : ℤ) (d : ℕ) → a *ℤ pos d +ℤ b *ℤ pos d ≡ (a +ℤ b) *ℤ pos d
joined a b d =
    let wide = ap (λ x. x * d) (sum_is_lem a b) in
    same_in _ _ (omega (arith, wide, sum_is_lem (a *ℤ pos d) (b *ℤ pos d), product_is a (pos d), product_is b (pos d), product_is (a +ℤ b) (pos d)))

nested : (x : ℤ) (m n : ℕ) → x *ℤ pos m *ℤ pos n ≡ x *ℤ pos (m * n)
nested x m n =
    let one = product_is x (pos m) in
    let ups : up (x *ℤ pos m) * n ≡ (up x * m + down x * 0) * n = ap (λ t. t * n) one.0 in
    let downs : down (x *ℤ pos m) * n ≡ (up x * 0 + down x * m) * n = ap (λ t. t * n) one.1 in
    same_in _ _ (omega (arith, product_is (x *ℤ pos m) (pos n), product_is x (pos (m * n)), ups, downs))

swapped : (x : ℤ) (m n : ℕ) → x *ℤ pos m *ℤ pos n ≡ x *ℤ pos n *ℤ pos m
swapped x m n = let e : m * n ≡ n * m = omega arith in nested x m n ∙ ap (λ k. x *ℤ pos k) e ∙ sym (nested x n m)

weighed : (k : ℕ) (x : ℤ) (n : ℕ) → pos k *ℤ x *ℤ pos n ≡ pos k *ℤ (x *ℤ pos n)
weighed k x n =
    let one = product_is (pos k) x in
    let two = product_is x (pos n) in
    let ups : up (pos k *ℤ x) * n ≡ (k * up x + 0 * down x) * n = ap (λ t. t * n) one.0 in
    let downs : down (pos k *ℤ x) * n ≡ (k * down x + 0 * up x) * n = ap (λ t. t * n) one.1 in
    let ups' : k * up (x *ℤ pos n) ≡ k * (up x * n + down x * 0) = ap (λ t. k * t) two.0 in
    let downs' : k * down (x *ℤ pos n) ≡ k * (up x * 0 + down x * n) = ap (λ t. k * t) two.1 in
    same_in _ _ (omega (arith, product_is (pos k *ℤ x) (pos n), product_is (pos k) (x *ℤ pos n), ups, downs, ups', downs'))

-- ---- equal fractions have equal sums

same_times : (n : ℕ) (a b : Fraction) → IsSame a b → IsSame (times n a) (times n b)
same_times n a b h = weighed n a.num b.den ∙ ap (λ z. pos n *ℤ z) h ∙ sym (weighed n b.num a.den)

same_over : (n : ℕ) (a b : Fraction) → IsSame a b → IsSame (over_whole n a) (over_whole n b)
same_over n a b h =
    let e : n * b.den ≡ b.den * n = omega arith in
    let f : a.den * n ≡ n * a.den = omega arith in
    ap (λ k. a.num *ℤ pos k) e ∙ sym (nested a.num b.den n) ∙ ap (λ z. z *ℤ pos n) h ∙ nested b.num a.den n ∙ ap (λ k. b.num *ℤ pos k) f

-- a numerator over its own and another denominator, over those of an equal fraction
crossed : (x y : ℤ) (d e k l : ℕ) → x *ℤ pos e ≡ y *ℤ pos d → x *ℤ pos k *ℤ pos (e * l) ≡ y *ℤ pos l *ℤ pos (d * k)
crossed x y d e k l h =
    let p : k * (e * l) ≡ e * (k * l) = omega arith in
    let q : d * (k * l) ≡ l * (d * k) = omega arith in
    nested x k (e * l) ∙ ap (λ m. x *ℤ pos m) p ∙ sym (nested x e (k * l)) ∙ ap (λ z. z *ℤ pos (k * l)) h ∙ nested y d (k * l) ∙ ap (λ m. y *ℤ pos m) q ∙ sym (nested y l (d * k))

same_plus : (a a' b b' : Fraction) → IsSame a a' → IsSame b b' → IsSame (plus a b) (plus a' b')
same_plus a a' b b' h g =
    let turn : a'.den * b'.den ≡ b'.den * a'.den = omega arith in
    let back : b.den * a.den ≡ a.den * b.den = omega arith in
    let left : a.num *ℤ pos b.den *ℤ pos (a'.den * b'.den) ≡ a'.num *ℤ pos b'.den *ℤ pos (a.den * b.den) = crossed a.num a'.num a.den a'.den b.den b'.den h in
    let right : b.num *ℤ pos a.den *ℤ pos (a'.den * b'.den) ≡ b'.num *ℤ pos a'.den *ℤ pos (a.den * b.den) =
    ap (λ m. b.num *ℤ pos a.den *ℤ pos m) turn ∙ crossed b.num b'.num b.den b'.den a.den a'.den g ∙ ap (λ m. b'.num *ℤ pos a'.den *ℤ pos m) back in
    sym (joined (a.num *ℤ pos b.den) (b.num *ℤ pos a.den) (a'.den * b'.den)) ∙ ap₂ ◌+ℤ◌ left right
    ∙ joined (a'.num *ℤ pos b'.den) (b'.num *ℤ pos a'.den) (a.den * b.den)

same_cubic : (a a' b b' c c' d d' : Fraction) (k : ℕ) → IsSame a a' → IsSame b b' → IsSame c c' → IsSame d d' → IsSame (cubic_at a b c d k) (cubic_at a' b' c' d' k)
same_cubic a a' b b' c c' d d' k ha hb hc hd =
    let j = 64 - k in
    let u = j * j * j in let v = 3 * j * j * k in let w = 3 * j * k * k in let x = k * k * k in
    let front = same_plus (times u a) (times u a') (times v b) (times v b') (same_times u a a' ha) (same_times v b b' hb) in
    let back = same_plus (times w c) (times w c') (times x d) (times x d') (same_times w c c' hc) (same_times x d d' hd) in
    let one = plus (times u a) (times v b) in let one' = plus (times u a') (times v b') in
    let two = plus (times w c) (times x d) in let two' = plus (times w c') (times x d') in
    same_over 262144 (plus one two) (plus one' two') (same_plus one one' two two' front back)

-- ---- a cubic over one denominator

sum_num : (p q r s : ℤ) (n : ℕ)
    → (p *ℤ pos n +ℤ q *ℤ pos n) *ℤ pos (n * n) +ℤ (r *ℤ pos n +ℤ s *ℤ pos n) *ℤ pos (n * n) ≡ ((p +ℤ q) +ℤ (r +ℤ s)) *ℤ pos (n * (n * n))
sum_num p q r s n =
    joined (p *ℤ pos n +ℤ q *ℤ pos n) (r *ℤ pos n +ℤ s *ℤ pos n) (n * n)
    ∙ ap (λ z. z *ℤ pos (n * n)) (ap₂ ◌+ℤ◌ (joined p q n) (joined r s n) ∙ joined (p +ℤ q) (r +ℤ s) n)
    ∙ nested ((p +ℤ q) +ℤ (r +ℤ s)) n (n * n)

-- its values are the sums of its numerators, over 64^3 and the denominator
value_same : (n : ℕ) (a b c d : ℤ) (k : ℕ) → IsSame (cubic_at (over_den n a) (over_den n b) (over_den n c) (over_den n d) k) (over_cube_and n (sum_at a b c d k))
value_same n a b c d k =
    let j = 64 - k in
    let e : n * (n * n) * (262144 * n) ≡ 262144 * ((n * n) * (n * n)) = omega arith in
    ap (λ z. z *ℤ pos (262144 * n)) (sum_num (pos (j * j * j) *ℤ a) (pos (3 * j * j * k) *ℤ b) (pos (3 * j * k * k) *ℤ c) (pos (k * k * k) *ℤ d) n)
    ∙ nested (sum_at a b c d k) (n * (n * n)) (262144 * n) ∙ ap (λ m. sum_at a b c d k *ℤ pos m) e

-- ---- rounding over one denominator

below_or : (x y : ℤ) → IsBelow x y ⊎ IsBelow y x
below_or x y = by (ltb (up y + down x) (up x + down y)) refl where
  by : (b : Bool) → ltb (up y + down x) (up x + down y) ≡ b → IsBelow x y ⊎ IsBelow y x
  by true less = inr (record { below = omega (arith, ltb-true _ _ less) })
  by false more = inl (record { below = omega (arith, ltb-false _ _ more) })

floor_below : (d : ℕ) (x y : ℤ) → 0 < d → IsBelow x y → IsBelow (floor_of (over_den d x)) (floor_of (over_den d y))
floor_below d x y some h =
    let f = floor_is x d some in
    let g = floor_is y d some in
    let q = floor_of (over_den d x) in
    let r = floor_of (over_den d y) in
    let less : up q + down r < up r + down q + 1 = lt_of_mul-lt-mul_right d (omega (arith, f.below, g.above, h.below)) in
    record { below = omega (arith, less) }

below_negated : (x y : ℤ) → IsBelow x y → IsBelow (neg_ℤ y) (neg_ℤ x)
below_negated x y h = record { below = omega (arith, neg_is x, neg_is y, h.below) }

ceiling_below : (d : ℕ) (x y : ℤ) → 0 < d → IsBelow x y → IsBelow (ceiling_of (over_den d x)) (ceiling_of (over_den d y))
ceiling_below d x y some h = below_negated _ _ (floor_below d (neg_ℤ y) (neg_ℤ x) some (below_negated x y h))

lesser_first : (x y : ℤ) → IsBelow x y → int_min x y ≡ x
lesser_first x y h = same_in _ _ (omega (arith, int_min_is x y, h.below))

lesser_second : (x y : ℤ) → IsBelow y x → int_min x y ≡ y
lesser_second x y h = same_in _ _ (omega (arith, int_min_is x y, h.below))

greater_first : (x y : ℤ) → IsBelow y x → int_max x y ≡ x
greater_first x y h = same_in _ _ (omega (arith, int_max_is x y, h.below))

greater_second : (x y : ℤ) → IsBelow x y → int_max x y ≡ y
greater_second x y h = same_in _ _ (omega (arith, int_max_is x y, h.below))

floor_lesser : (d : ℕ) → 0 < d → (x y : ℤ) → int_min (floor_of (over_den d x)) (floor_of (over_den d y)) ≡ floor_of (over_den d (int_min x y))
floor_lesser d some x y = by (below_or x y) where
  by : IsBelow x y ⊎ IsBelow y x → int_min (floor_of (over_den d x)) (floor_of (over_den d y)) ≡ floor_of (over_den d (int_min x y))
  by (inl h) = lesser_first _ _ (floor_below d x y some h) ∙ sym (ap (λ z. floor_of (over_den d z)) (lesser_first x y h))
  by (inr h) = lesser_second _ _ (floor_below d y x some h) ∙ sym (ap (λ z. floor_of (over_den d z)) (lesser_second x y h))

ceiling_greater : (d : ℕ) → 0 < d → (x y : ℤ) → int_max (ceiling_of (over_den d x)) (ceiling_of (over_den d y)) ≡ ceiling_of (over_den d (int_max x y))
ceiling_greater d some x y = by (below_or x y) where
  by : IsBelow x y ⊎ IsBelow y x → int_max (ceiling_of (over_den d x)) (ceiling_of (over_den d y)) ≡ ceiling_of (over_den d (int_max x y))
  by (inl h) = greater_second _ _ (ceiling_below d x y some h) ∙ sym (ap (λ z. ceiling_of (over_den d z)) (greater_second x y h))
  by (inr h) = greater_first _ _ (ceiling_below d y x some h) ∙ sym (ap (λ z. ceiling_of (over_den d z)) (greater_first x y h))

-- rounded down in two steps
floor_nested : (s : ℤ) (d : ℕ) → 0 < d → floor_of (over_den d (floor_of (over_cube s))) ≡ floor_of (over_cube_and d s)
floor_nested s d some =
    let f = floor_is s 262144 (omega arith) in
    let w = floor_of (over_cube s) in
    let g = floor_is w d some in
    let q = floor_of (over_den d w) in
    let h = floor_is s (262144 * d) (omega (arith, some)) in
    let r = floor_of (over_cube_and d s) in
    let one : up q + down r < up r + down q + 1 = lt_of_mul-lt-mul_right (262144 * d) (omega (arith, f.below, g.below, h.above)) in
    let two : up r + down q < up q + down r + 1 = lt_of_mul-lt-mul_right (262144 * d) (omega (arith, f.above, g.above, h.below)) in
    same_in _ _ (omega (arith, one, two))

pub floor_of_floor : (s : ℤ) (d : ℕ) → 0 < d → floor_of (over_den d (floor_of (over_cube s))) ≡ floor_of (over_cube_and d s)
floor_of_floor = floor_nested

-- ---- the span of the values

rounded_map : (h : Fraction → ℤ) (f g : ℕ → Fraction) (ks : List ℕ) → ((k : ℕ) → h (f k) ≡ h (g k)) → map h (map f ks) ≡ map h (map g ks)
rounded_map h f g [] same = refl
rounded_map h f g (k ∷ ks) same = ap₂ ◌∷◌ (same k) (rounded_map h f g ks same)

picked_map : (pick : ℤ → ℤ → ℤ) (h : ℤ → ℤ) → ((x y : ℤ) → pick (h x) (h y) ≡ h (pick x y)) → (s : ℕ → ℤ) (x : ℤ) (ks : List ℕ)
    → fold pick (h x) (map (λ k. h (s k)) ks) ≡ h (fold pick x (map s ks))
picked_map pick h same s x [] = refl
picked_map pick h same s x (k ∷ ks) = ap (λ z. fold pick z (map (λ i. h (s i)) ks)) (same x (s k)) ∙ picked_map pick h same s (pick x (s k)) ks

map_twice : (h : Fraction → ℤ) (f : ℕ → Fraction) (g : ℕ → ℤ) (ks : List ℕ) → ((k : ℕ) → h (f k) ≡ g k) → map h (map f ks) ≡ map g ks
map_twice h f g [] same = refl
map_twice h f g (k ∷ ks) same = ap₂ ◌∷◌ (same k) (map_twice h f g ks same)

-- where each value, rounded, is a sum rounded, so is the least
picked_rounded : (pick : ℤ → ℤ → ℤ) (round : Fraction → ℤ) (h : ℤ → ℤ) → ((x y : ℤ) → pick (h x) (h y) ≡ h (pick x y))
    → (f : ℕ → Fraction) (a b c d : ℤ) → ((k : ℕ) → round (f k) ≡ h (sum_at a b c d k))
    → fold pick (round (f 0)) (map round (map f (range_with_len 1 64))) ≡ h (picked_sum pick a b c d)
unfolding picked_sum
picked_rounded pick round h same f a b c d is =
    ap₂ (fold pick) (is 0) (map_twice round f (λ k. h (sum_at a b c d k)) (range_with_len 1 64) is)
    ∙ picked_map pick h same (sum_at a b c d) (sum_at a b c d 0) (range_with_len 1 64)

-- the points and the values of both are above a denominator of 0
values_above : (n : ℕ) → 0 < n → 0 < 262144 * ((n * n) * (n * n))
values_above n some = mul-pos {m = 262144} (omega arith) (mul-pos (mul-pos some some) (mul-pos some some))

den_above : (n : ℕ) → 0 < n → 0 < 262144 * n
den_above n some = omega (arith, some)

span_common : (n : ℕ) (a b c d : ℤ) → 0 < n
    → ◌≡◌ {A = Span} (record { low = floor_of (over_cube_and n (least_sum a b c d)); high = ceiling_of (over_cube_and n (greatest_sum a b c d)) })
    (span_of (cubic_values (over_den n a) (over_den n b) (over_den n c) (over_den n d)))
unfolding sixty_fourths
span_common n a b c d some =
    let f = cubic_at (over_den n a) (over_den n b) (over_den n c) (over_den n d) in
    let both = λ (k : ℕ). round_alike (f k) (over_cube_and n (sum_at a b c d k)) (values_above n some) (den_above n some) (value_same n a b c d k) in
    same_span _ _ _ _
    (sym (picked_rounded int_min floor_of (λ x. floor_of (over_cube_and n x)) (floor_lesser (262144 * n) (den_above n some)) f a b c d (λ k. (both k).0)))
    (sym (picked_rounded int_max ceiling_of (λ x. ceiling_of (over_cube_and n x)) (ceiling_greater (262144 * n) (den_above n some)) f a b c d (λ k. (both k).1)))

pub span_of_common : (p : CommonCubic) (s t : ℤ) → s ≡ least_sum p.cubic.start p.cubic.first p.cubic.second p.cubic.end → t ≡ greatest_sum p.cubic.start p.cubic.first p.cubic.second p.cubic.end
    → ◌≡◌ {A = Span} (record { low = floor_of (over_cube_and p.den s); high = ceiling_of (over_cube_and p.den t) }) (span_of (common_values p))
span_of_common p s t e f =
    same_span _ _ _ _ (ap (λ x. floor_of (over_cube_and p.den x)) e) (ap (λ x. ceiling_of (over_cube_and p.den x)) f)
    ∙ span_common p.den p.cubic.start p.cubic.first p.cubic.second p.cubic.end p.above

-- ---- the span of the fractions that these are

span_same : (a a' b b' c c' d d' : Fraction) → 0 < a.den → 0 < b.den → 0 < c.den → 0 < d.den → 0 < a'.den → 0 < b'.den → 0 < c'.den → 0 < d'.den
    → IsSame a a' → IsSame b b' → IsSame c c' → IsSame d d' → span_of (cubic_values a b c d) ≡ span_of (cubic_values a' b' c' d')
unfolding sixty_fourths
span_same a a' b b' c c' d d' la lb lc ld la' lb' lc' ld' ha hb hc hd =
    let f = cubic_at a b c d in
    let g = cubic_at a' b' c' d' in
    let above : 0 < 262144 * ((a.den * b.den) * (c.den * d.den)) = mul-pos {m = 262144} (omega arith) (mul-pos (mul-pos la lb) (mul-pos lc ld)) in
    let above' : 0 < 262144 * ((a'.den * b'.den) * (c'.den * d'.den)) = mul-pos {m = 262144} (omega arith) (mul-pos (mul-pos la' lb') (mul-pos lc' ld')) in
    let both = λ (k : ℕ). round_alike (f k) (g k) above above' (same_cubic a a' b b' c c' d d' k ha hb hc hd) in
    same_span _ _ _ _
    (ap₂ (fold int_min) (both 0).0 (rounded_map floor_of f g (range_with_len 1 64) (λ k. (both k).0)))
    (ap₂ (fold int_max) (both 0).1 (rounded_map ceiling_of f g (range_with_len 1 64) (λ k. (both k).1)))

pub span_of_fractions : (a b c d : Fraction) (p : CommonCubic) → IsCoordinate a → IsCoordinate b → IsCoordinate c → IsCoordinate d → IsCommon a b c d p
    → span_of (common_values p) ≡ span_of (cubic_values a b c d)
span_of_fractions a b c d p ha hb hc hd h =
    span_same _ a _ b _ c _ d p.above p.above p.above p.above ha.above hb.above hc.above hd.above h.start h.first h.second h.end

-- ---- a numerator over a multiple of its denominator

pub widened_same : (a : Fraction) (n : ℤ) (d q : ℕ) → q * a.den ≡ d → n ≡ a.num *ℤ pos q → IsSame (over_den d n) a
widened_same a n d q e is = ap (λ z. z *ℤ pos a.den) is ∙ nested a.num q a.den ∙ ap (λ k. a.num *ℤ pos k) e

-- ---- numbers of 32 and 64 bits

divisor_read : (d : ℕ) → d ≤ 2 ^ 20 → to_z w32 d ≡ pos d
divisor_read d h = omega (arith, ints, h)

dividend_read : (f : ℤ) → unsigned_abs f ≤ 2 ^ 20 → to_z w32 (of_z w32 f) ≡ f
dividend_read f h = omega (arith, ints, h)

pub floor_read : (f r s : ℤ) (d : ℕ) → f ≡ floor_of (over_cube s) → unsigned_abs f ≤ 2 ^ 20 → 0 < d → d ≤ 2 ^ 20
    → r ≡ int_div_euclid (to_z w32 (of_z w32 f)) (to_z w32 d) → mag r < 2 ^ 31 → to_z w32 (of_z w32 r) ≡ floor_of (over_cube_and d s)
floor_read f r s d is size some fine e bits =
    read_int r bits ∙ e ∙ ap₂ int_div_euclid (dividend_read f size) (divisor_read d fine)
    ∙ ap (λ x. floor_of (over_den d x)) is ∙ floor_of_floor s d some

-- a coordinate's numerator over a multiple of its denominator
own_read : (a : Fraction) (z : ℤ) (own : ℕ) → IsCoordinate a → z ≡ pos a.den → own ≡ unsigned_abs (read z) → own ≡ a.den
own_read a z own h e f =
    let is : read (pos a.den) ≡ pos a.den = read_small (pos a.den) (omega (arith, h.fine)) in
    f ∙ ap (λ x. unsigned_abs (read x)) e ∙ ap unsigned_abs is

num_small : (a : Fraction) → IsCoordinate a → unsigned_abs a.num ≤ 2 ^ 60
num_small a h =
    let most : 2 ^ 20 * a.den ≤ 2 ^ 20 * 2 ^ 20 = mul-le-mul_left (2 ^ 20) h.fine in
    omega (arith, h.size, most)

pub widened_over : (a : Fraction) (z num wide : ℤ) (own d : ℕ) (found : Option ℤ) → IsCoordinate a → z ≡ pos a.den → own ≡ unsigned_abs (read z) → d % own ≡ 0
    → num ≡ a.num → wide ≡ read num *ℤ pos (d / own) → unsigned_abs wide ≤ 2 ^ 60 → IfSome found (λ n. n ≡ read wide) → IfSome found (λ n. IsSame (over_den d n) a)
widened_over a z num wide own d None h e f multiple is wide_is size found = tt
widened_over a z num wide own d (Some n) h e f multiple is wide_is size found =
    let own_is = own_read a z own h e f in
    let same : n ≡ a.num *ℤ pos (d / own) =
    found ∙ read_small wide size ∙ wide_is ∙ ap (λ x. read x *ℤ pos (d / own)) is ∙ ap (λ x. x *ℤ pos (d / own)) (read_small a.num (num_small a h)) in
    widened_same a n d (d / own) (ap (λ k. d / own * k) (sym own_is) ∙ div-mul_cancel own (dvd_of_mod-eq-zero own multiple)) same
