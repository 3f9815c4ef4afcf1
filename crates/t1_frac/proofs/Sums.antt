-- A sum over one denominator, and over none.
use Rattle.std.proofs.Common.{◌≡◌, ℕ, ◌+◌, ◌*◌, ◌<◌, ℤ, pos, ◌+ℤ◌, ◌*ℤ◌, ◌∙◌, arith, refl, sym, ap, ap₂, subst, mul-pos}
use Rattle.std.proofs.Math.IntN.{+ℤ_comm}
use Rattle.std.proofs.Math.Nat.{mul_comm}
use borrow.Author.Differences.{up, down, sum_is_lem, product_is, same_in}
use Rattle.t1_frac.specs.Fraction.{Fraction, IsSame, lowest, plus, whole}
use Rattle.t1_frac.proofs.Exact.{lowest_whole}
use Rattle.t1_frac.proofs.SameLowest.{same_lowest}

joined : (a b : ℤ) (d : ℕ) → (a +ℤ b) *ℤ pos d ≡ a *ℤ pos d +ℤ b *ℤ pos d
joined a b d =
    let wide = ap (λ x. x * d) (sum_is_lem a b) in
    same_in _ _ (omega (arith, wide, sum_is_lem, product_is))

twice : (n : ℤ) (d : ℕ) → n *ℤ pos (d * d) ≡ n *ℤ pos d *ℤ pos d
twice n d =
    let a = product_is n (pos d) in
    let b = product_is (n *ℤ pos d) (pos d) in
    let c = product_is n (pos (d * d)) in
    let ups : up (n *ℤ pos d) * d ≡ (up n * d + down n * 0) * d = ap (λ x. x * d) a.0 in
    let downs : down (n *ℤ pos d) * d ≡ (up n * 0 + down n * d) * d = ap (λ x. x * d) a.1 in
    let left : up (n *ℤ pos (d * d)) ≡ up n * (d * d) + down n * 0 = c.0 in
    let right : down (n *ℤ pos (d * d)) ≡ up n * 0 + down n * (d * d) = c.1 in
    let up_right : up (n *ℤ pos d *ℤ pos d) ≡ up (n *ℤ pos d) * d + down (n *ℤ pos d) * 0 = b.0 in
    let down_right : down (n *ℤ pos d *ℤ pos d) ≡ up (n *ℤ pos d) * 0 + down (n *ℤ pos d) * d = b.1 in
    same_in _ _ (omega arith)

-- (a + b) / d is a / d + b / d
over_alike : (a b : ℤ) (d : ℕ) → (a +ℤ b) *ℤ pos (d * d) ≡ (a *ℤ pos d +ℤ b *ℤ pos d) *ℤ pos d
over_alike a b d = twice (a +ℤ b) d ∙ ap (λ n. n *ℤ pos d) (joined a b d)

alike_same : (a b : Fraction) → a.den ≡ b.den → IsSame (record { num = a.num +ℤ b.num; den = a.den }) (plus a b)
alike_same a b alike =
    subst (λ e. (a.num +ℤ b.num) *ℤ pos (a.den * e) ≡ (a.num *ℤ pos e +ℤ b.num *ℤ pos a.den) *ℤ pos a.den) alike
    (over_alike a.num b.num a.den)

pub sum_alike : (a b : Fraction) → 0 < a.den → a.den ≡ b.den → lowest (record { num = a.num +ℤ b.num; den = a.den }) ≡ lowest (plus a b)
sum_alike a b some alike =
    same_lowest (record { num = a.num +ℤ b.num; den = a.den }) (plus a b) some (mul-pos some (rw (← alike) some)) (alike_same a b alike)

-- the sum of two whole numbers
pub sum_whole : (a b : Fraction) → a.den ≡ 1 → b.den ≡ 1 → lowest (plus a b) ≡ whole (a.num +ℤ b.num)
sum_whole a b e f =
    let alike : a.den ≡ b.den = omega arith in
    sym (sum_alike a b (omega arith) alike) ∙ ap (λ d. lowest (record { num = a.num +ℤ b.num; den = d })) e ∙ lowest_whole (a.num +ℤ b.num)

-- ---- over a multiple

nested : (x : ℤ) (m n : ℕ) → x *ℤ pos m *ℤ pos n ≡ x *ℤ pos (m * n)
nested x m n =
    let one = product_is x (pos m) in
    let ups : up (x *ℤ pos m) * n ≡ (up x * m + down x * 0) * n = ap (λ t. t * n) one.0 in
    let downs : down (x *ℤ pos m) * n ≡ (up x * 0 + down x * m) * n = ap (λ t. t * n) one.1 in
    same_in _ _ (omega (arith, product_is (x *ℤ pos m) (pos n), product_is x (pos (m * n)), ups, downs))

-- a numerator over its own and another denominator, over those of an equal fraction
crossed : (x y : ℤ) (d e k l : ℕ) → x *ℤ pos e ≡ y *ℤ pos d → x *ℤ pos k *ℤ pos (e * l) ≡ y *ℤ pos l *ℤ pos (d * k)
crossed x y d e k l h =
    let p : k * (e * l) ≡ e * (k * l) = omega arith in
    let q : d * (k * l) ≡ l * (d * k) = omega arith in
    nested x k (e * l) ∙ ap (λ m. x *ℤ pos m) p ∙ sym (nested x e (k * l)) ∙ ap (λ z. z *ℤ pos (k * l)) h ∙ nested y d (k * l) ∙ ap (λ m. y *ℤ pos m) q ∙ sym (nested y l (d * k))

-- equal fractions have equal sums
pub same_plus : (a a' b b' : Fraction) → IsSame a a' → IsSame b b' → IsSame (plus a b) (plus a' b')
same_plus a a' b b' h g =
    let turn : a'.den * b'.den ≡ b'.den * a'.den = omega arith in
    let back : b.den * a.den ≡ a.den * b.den = omega arith in
    let left : a.num *ℤ pos b.den *ℤ pos (a'.den * b'.den) ≡ a'.num *ℤ pos b'.den *ℤ pos (a.den * b.den) = crossed a.num a'.num a.den a'.den b.den b'.den h in
    let right : b.num *ℤ pos a.den *ℤ pos (a'.den * b'.den) ≡ b'.num *ℤ pos a'.den *ℤ pos (a.den * b.den) =
    ap (λ m. b.num *ℤ pos a.den *ℤ pos m) turn ∙ crossed b.num b'.num b.den b'.den a.den a'.den g ∙ ap (λ m. b'.num *ℤ pos a'.den *ℤ pos m) back in
    joined (a.num *ℤ pos b.den) (b.num *ℤ pos a.den) (a'.den * b'.den) ∙ ap₂ ◌+ℤ◌ left right
    ∙ sym (joined (a'.num *ℤ pos b'.den) (b'.num *ℤ pos a'.den) (a.den * b.den))

pub sum_multiple : (a b : Fraction) (q : ℕ) → 0 < a.den → 0 < b.den → q * b.den ≡ a.den
    → lowest (record { num = a.num +ℤ b.num *ℤ pos q; den = a.den }) ≡ lowest (plus a b)
sum_multiple a b q some above e =
    let c : Fraction = record { num = b.num *ℤ pos q; den = a.den } in
    let is : IsSame c b = nested b.num q b.den ∙ ap (λ k. b.num *ℤ pos k) e in
    sum_alike a c some refl ∙ same_lowest (plus a c) (plus a b) (mul-pos some some) (mul-pos some above) (same_plus a a c b refl is)

pub sum_turned : (a b : Fraction) → plus a b ≡ plus b a
sum_turned a b = rw (+ℤ_comm (a.num *ℤ pos b.den) (b.num *ℤ pos a.den), mul_comm a.den b.den) refl
