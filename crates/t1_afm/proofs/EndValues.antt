-- The values of a cubic at its ends are its ends.
use Rattle.std.proofs.Common.{◌≡◌, ℕ, ◌*◌, ◌<◌, ℤ, pos, ◌+ℤ◌, ◌*ℤ◌, [], ◌∷◌, arith, ap, ◌∙◌, mul-pos}
use borrow.Author.Differences.{up, down, sum_is_lem, product_is, same_in}
use Rattle.t1_frac.specs.Fraction.{Fraction, IsSame}
use Rattle.t1_frac.specs.Limits.{IsCoordinate}
use Rattle.t1_frac.proofs.Rounded.{round_alike}
use Rattle.t1_afm.specs.declared.span.Span.{Span}
use Rattle.t1_afm.specs.Points.{cubic_at}
use Rattle.t1_afm.specs.Spans.{span_of, span_around, span_around_one, end_span}
use Rattle.t1_afm.proofs.Between.{same_span}

zero_times : (x : ℤ) → pos 0 *ℤ x ≡ pos 0
zero_times x = same_in _ _ (omega (arith, product_is (pos 0) x))

plus_zero : (x : ℤ) → x +ℤ pos 0 ≡ x
plus_zero x = same_in _ _ (omega (arith, sum_is_lem x (pos 0)))

zero_plus : (x : ℤ) → pos 0 +ℤ x ≡ x
zero_plus x = same_in _ _ (omega (arith, sum_is_lem (pos 0) x))

-- a numerator over one denominator after another
widened : (x : ℤ) (n k d : ℕ) → (((pos 262144 *ℤ x) *ℤ pos n) *ℤ pos k) *ℤ pos d ≡ x *ℤ pos (262144 * ((d * n) * k))
widened x n k d =
    let one = product_is (pos 262144) x in
    let two = product_is (pos 262144 *ℤ x) (pos n) in
    let three = product_is ((pos 262144 *ℤ x) *ℤ pos n) (pos k) in
    let four = product_is (((pos 262144 *ℤ x) *ℤ pos n) *ℤ pos k) (pos d) in
    let whole = product_is x (pos (262144 * ((d * n) * k))) in
    let two-up : up ((pos 262144 *ℤ x) *ℤ pos n) ≡ 262144 * up x * n = omega (arith, two, ap (λ t. t * n) one.0) in
    let two-down : down ((pos 262144 *ℤ x) *ℤ pos n) ≡ 262144 * down x * n = omega (arith, two, ap (λ t. t * n) one.1) in
    let three-up : up (((pos 262144 *ℤ x) *ℤ pos n) *ℤ pos k) ≡ 262144 * up x * n * k = omega (arith, three, ap (λ t. t * k) two-up) in
    let three-down : down (((pos 262144 *ℤ x) *ℤ pos n) *ℤ pos k) ≡ 262144 * down x * n * k = omega (arith, three, ap (λ t. t * k) two-down) in
    same_in _ _ (omega (arith, four, whole, ap (λ t. t * d) three-up, ap (λ t. t * d) three-down))

nothing : (x : ℤ) (n : ℕ) → (pos 0 *ℤ x) *ℤ pos n ≡ pos 0
nothing x n = ap (λ z. z *ℤ pos n) (zero_times x) ∙ zero_times (pos n)

first_num : (a b c d : ℤ) (k l m n : ℕ)
    → ((pos 262144 *ℤ a) *ℤ pos l +ℤ (pos 0 *ℤ b) *ℤ pos k) *ℤ pos (m * n) +ℤ ((pos 0 *ℤ c) *ℤ pos n +ℤ (pos 0 *ℤ d) *ℤ pos m) *ℤ pos (k * l)
    ≡ ((pos 262144 *ℤ a) *ℤ pos l) *ℤ pos (m * n)
first_num a b c d k l m n =
    rw (nothing b k, nothing c n, nothing d m, plus_zero ((pos 262144 *ℤ a) *ℤ pos l), zero_times (pos (k * l))) (plus_zero _)

last_num : (a b c d : ℤ) (k l m n : ℕ)
    → ((pos 0 *ℤ a) *ℤ pos l +ℤ (pos 0 *ℤ b) *ℤ pos k) *ℤ pos (m * n) +ℤ ((pos 0 *ℤ c) *ℤ pos n +ℤ (pos 262144 *ℤ d) *ℤ pos m) *ℤ pos (k * l)
    ≡ ((pos 262144 *ℤ d) *ℤ pos m) *ℤ pos (k * l)
last_num a b c d k l m n =
    rw (nothing a l, nothing b k, nothing c n, zero_plus ((pos 262144 *ℤ d) *ℤ pos m), zero_times (pos (m * n))) (zero_plus _)

first_same : (a b c d : Fraction) → IsSame (cubic_at a b c d 0) a
first_same a b c d =
    ap (λ n. n *ℤ pos a.den) (first_num a.num b.num c.num d.num a.den b.den c.den d.den) ∙ widened a.num b.den (c.den * d.den) a.den

last_same : (a b c d : Fraction) → IsSame (cubic_at a b c d 64) d
last_same a b c d =
    let turned : 262144 * ((d.den * c.den) * (a.den * b.den)) ≡ 262144 * ((a.den * b.den) * (c.den * d.den)) = omega arith in
    ap (λ n. n *ℤ pos d.den) (last_num a.num b.num c.num d.num a.den b.den c.den d.den) ∙ widened d.num c.den (a.den * b.den) d.den
    ∙ ap (λ n. d.num *ℤ pos n) turned

around_same : (v a : Fraction) → 0 < v.den → 0 < a.den → IsSame v a → span_around_one v ≡ span_around_one a
around_same v a some above same = let both = round_alike v a some above same in same_span _ _ _ _ both.0 both.1

-- the span around the values at both ends is that around the ends
pub ends_are : (a b c d : Fraction) → IsCoordinate a → IsCoordinate b → IsCoordinate c → IsCoordinate d → end_span a b c d ≡ span_of (a ∷ d ∷ [])
ends_are a b c d ha hb hc hd =
    let some : 0 < 262144 * ((a.den * b.den) * (c.den * d.den)) = mul-pos {m = 262144} (omega arith) (mul-pos (mul-pos ha.above hb.above) (mul-pos hc.above hd.above)) in
    ap (λ (s : Span). span_around s (span_around_one (cubic_at a b c d 64))) (around_same (cubic_at a b c d 0) a some ha.above (first_same a b c d))
    ∙ ap (λ (s : Span). span_around (span_around_one a) s) (around_same (cubic_at a b c d 64) d some hd.above (last_same a b c d))
