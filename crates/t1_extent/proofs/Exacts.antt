-- Fractions that aren't in lowest terms, compared and rounded.
use Rattle.std.proofs.Common.{◌≡◌, ℕ, ◌+◌, ◌*◌, ◌<◌, ◌≤◌, ◌^◌, ◌⊎◌, inl, inr, ℤ, pos, negsuc, neg_ℤ, ◌+ℤ◌, ◌-ℤ◌, ◌*ℤ◌, Bool, true, false, arith, refl, sym, ◌∙◌, ap, mul-pos}
use Rattle.std.specs.Prelude.{◌||◌, if◌then◌else◌, MatchResult, IfOk, Result, Ok, Err, Some}
use Rattle.std.specs.Int.{int_div_euclid}
use Rattle.std.specs.Int.RustNames.{unsigned_abs, int_lt, FitsSigned}
use Rattle.std.proofs.Math.Nat.{div-le_self, mul-le-mul, mul-le-mul_right, mul-lt-mul_of_pos_right}
use Rattle.std.proofs.lemmas.Int.{ints}
use borrow.Author.Differences.{up, down, neg_is, product_is, lt-true, lt-false}
use mir.Syntax.{w64, w128}
use mir.Val.{to_z, of_z}
use lib.Signed.{mag}
use Rattle.t1_afm.proofs.Longs.{read, read_small}
use Rattle.t1_afm.proofs.Products.{long_product, product_size}
use Rattle.t1_frac.specs.Fraction.{Fraction, IsSame, lowest, plus, minus, floor_of, ceiling_of}
use Rattle.t1_frac.specs.Limits.{exceeds, IsCoordinate}
use Rattle.t1_frac.specs.declared.fault.Code.{Code}
use Rattle.t1_frac.specs.declared.fault.Code.TheVariants.{F40}
use Rattle.t1_extent.specs.declared.exact.Exact.{Exact}
use Rattle.t1_run.specs.declared.outline.Point.{Point}
use Rattle.t1_run.proofs.FoundByUsers.{both-ways}
use Rattle.t1_extent.specs.Exacts.{kept_number, exact_value}
use Rattle.t1_frac.proofs.Exact.{lowest_same}
use Rattle.t1_frac.proofs.Rounded.{round_alike}
use Rattle.t1_extent.specs.Extremes.{Extremes, is_less, lesser, greater, reaching, shifted, shift_checked, limit_check, move_check, shifted_by}
use Rattle.t1_extent.proofs.Canonical.{lowest_above}
use Rattle.t1_extent.proofs.Order.{IsUnder, under_trans, under_from_same, less_false}
use Rattle.t1_extent.proofs.Checking.{is_below, is_above, check, below_under, above_under, exceeds_is}
use Rattle.t1_extent.proofs.Shifting.{shifted_lowest}

-- a is less than b
record IsStrict (a b : Fraction) : Type 0 where
  strict : up a.num * b.den + down b.num * a.den < up b.num * a.den + down a.num * b.den

less_strict : (a b : Fraction) → is_less a b ≡ true → IsStrict a b
less_strict a b e = record {
  strict = omega (arith, lt-true (a.num *ℤ pos b.den) (b.num *ℤ pos a.den) e, product_is a.num (pos b.den), product_is b.num (pos a.den));
}

both : (a b : Fraction) → IsStrict a b → IsUnder b a → true ≡ false
both a b h k = absurd (omega (arith, h.strict, k.under))

-- equal fractions are compared alike
less_alike : (a b c d : Fraction) → 0 < a.den → 0 < b.den → 0 < c.den → 0 < d.den → IsSame a c → IsSame b d → is_less a b ≡ is_less c d
less_alike a b c d ha hb hc hd e f = by (is_less a b) (is_less c d) refl refl
  where
    by : (t u : Bool) → is_less a b ≡ t → is_less c d ≡ u → t ≡ u
    by true true p q = refl
    by false false p q = refl
    by true false p q =
        both a b (less_strict a b p)
        (under_trans b d a hd (under_from_same b d f) (under_trans d c a hc (less_false c d q) (under_from_same c a (sym e))))
    by false true p q =
        sym (both c d (less_strict c d q)
        (under_trans d b c hb (under_from_same d b (sym f)) (under_trans b a c ha (less_false a b p) (under_from_same a c e))))

pub less_value : (a b : Fraction) → 0 < a.den → 0 < b.den → is_less (lowest a) (lowest b) ≡ is_less a b
less_value a b ha hb = less_alike (lowest a) (lowest b) a b (lowest_above a ha) (lowest_above b hb) ha hb (lowest_same a) (lowest_same b)

less_from_strict : (a b : Fraction) → (t u : Bool) → is_less a b ≡ t → int_lt a.num b.num ≡ u → 0 < a.den → a.den ≡ b.den → u ≡ t
less_from_strict a b true true p q some e = refl
less_from_strict a b false false p q some e = refl
less_from_strict a b true false p q some e =
    let l = (less_strict a b p).strict in
    let m = lt-false a.num b.num q in
    let k : (up b.num + down a.num) * b.den ≤ (up a.num + down b.num) * b.den = mul-le-mul_right b.den (omega (arith, m)) in
    absurd (omega (arith, (rw e at l), k))
less_from_strict a b false true p q some e =
    let l = (less_false a b p).under in
    let m = lt-true a.num b.num q in
    let k : (up a.num + down b.num) * b.den < (up b.num + down a.num) * b.den = mul-lt-mul_of_pos_right (omega (arith, m)) (rw (← e) some) in
    absurd (omega (arith, (rw e at l), k))

-- over one denominator the numerators are compared
pub less_over_one : (n m : ℤ) (d e : ℕ) → 0 < d → d ≡ e → int_lt n m ≡ is_less (lowest (record { num = n; den = d })) (lowest (record { num = m; den = e }))
less_over_one n m d e some same =
    let a : Fraction = record { num = n; den = d } in
    let b : Fraction = record { num = m; den = e } in
    less_from_strict a b (is_less a b) (int_lt n m) refl refl some same ∙ sym (less_value a b some (rw (← same) some))

pub floor_value : (a : Fraction) → 0 < a.den → floor_of (lowest a) ≡ floor_of a
floor_value a h = (round_alike (lowest a) a (lowest_above a h) h (lowest_same a)).0

pub ceiling_value : (a : Fraction) → 0 < a.den → ceiling_of (lowest a) ≡ ceiling_of a
ceiling_value a h = (round_alike (lowest a) a (lowest_above a h) h (lowest_same a)).1

-- ---- rounding in 64 bits

pub floor_small : (z : ℤ) (d : ℕ) → unsigned_abs z ≤ 2 ^ 60 → unsigned_abs (int_div_euclid z (pos d)) ≤ 2 ^ 61
floor_small (pos n) d h = omega (arith, div-le_self n d, h)
floor_small (negsuc n) d h = omega (arith, div-le_self n d, h)

-- ---- limits

pub exceeds_lowest : (a : Fraction) → 0 < a.den → exceeds (2 ^ 20) (lowest a) ≡ exceeds (2 ^ 20) a
exceeds_lowest a h =
    let l = lowest_above a h in
    let down' = under_from_same (lowest a) a (lowest_same a) in
    let up' = under_from_same a (lowest a) (sym (lowest_same a)) in
    exceeds_is (lowest a)
    ∙ ap (λ t. t || is_above (lowest a)) (both-ways (is_below (lowest a)) (is_below a) (below_under (lowest a) a l h up') (below_under a (lowest a) h l down'))
    ∙ ap (λ t. is_below a || t) (both-ways (is_above (lowest a)) (is_above a) (above_under (lowest a) a l h down') (above_under a (lowest a) h l up'))
    ∙ sym (exceeds_is a)

-- the number, moved, or F40, by terms that aren't lowest
pub shift_raw : (a d : Fraction) → 0 < a.den → 0 < d.den → shift_checked d (lowest a) ≡ (if exceeds (2 ^ 20) (plus a d) then Err F40 else Ok (lowest (plus a d)))
shift_raw a d ha hd =
    ap (λ s. if exceeds (2 ^ 20) s then Err F40 else Ok s) (shifted_lowest d a hd ha)
    ∙ ap (λ t. if t then Err F40 else Ok (lowest (plus a d))) (exceeds_lowest (plus a d) (mul-pos ha hd))

alike_terms : (a p q : Fraction) → p ≡ q → exceeds (2 ^ 20) p ≡ false → a ≡ p → (if exceeds (2 ^ 20) q then Err F40 else Ok (lowest q)) ≡ Ok (lowest a)
alike_terms a p q e f g =
    ap (λ (r : Fraction). if exceeds (2 ^ 20) r then Err F40 else Ok (lowest r)) (sym e)
    ∙ ap (λ t. if t then Err F40 else Ok (lowest p)) f ∙ ap (λ (r : Fraction). Ok (lowest r)) (sym g)

past_terms : (p q : Fraction) → p ≡ q → exceeds (2 ^ 20) p ≡ true → (if exceeds (2 ^ 20) q then Err F40 else Ok (lowest q)) ≡ Err F40
past_terms p q e f =
    ap (λ (r : Fraction). if exceeds (2 ^ 20) r then Err F40 else Ok (lowest r)) (sym e) ∙ ap (λ t. if t then Err F40 else Ok (lowest p)) f

-- what the limit leaves of moved terms
pub shifted_from : (r : Result Exact Code) (a : Exact) (d p : Fraction) → 0 < a.den → 0 < d.den → p ≡ plus (kept_number a) d
    → MatchResult r (λ e. (kept_number e ≡ p) × (exceeds (2 ^ 20) p ≡ false)) (λ c. (c ≡ F40) × (exceeds (2 ^ 20) p ≡ true))
    → MatchResult r (λ e. shift_checked d (exact_value a) ≡ Ok (exact_value e)) (λ c. shift_checked d (exact_value a) ≡ Err c)
shifted_from (Ok e) a d p ha hd is h = shift_raw (kept_number a) d ha hd ∙ alike_terms (kept_number e) p (plus (kept_number a) d) is h.1 h.0
shifted_from (Err c) a d p ha hd is h = shift_raw (kept_number a) d ha hd ∙ past_terms p (plus (kept_number a) d) is h.1 ∙ ap Err (sym h.0)

-- ---- read from 64 and 128 bits

pub read_long : (x : ℤ) → mag x < 2 ^ 63 → read x ≡ x
read_long x h = omega (arith, ints, h)

pub read_wide : (x : ℤ) → mag x < 2 ^ 127 → to_z w128 (of_z w128 x) ≡ x
read_wide x h = omega (arith, ints, h)

pub distance_den : (u bd : ℕ) (d : ℤ) → u ≡ unsigned_abs (read d) → d ≡ pos bd → bd ≤ 2 ^ 20 → u ≡ bd
distance_den u bd d e f h = e ∙ ap unsigned_abs (ap read f ∙ read_small (pos bd) (omega (arith, h)))

pub left_term : (x num : ℤ) (u bd : ℕ) → x ≡ read num *ℤ pos u → unsigned_abs num ≤ 2 ^ 60 → u ≡ bd → x ≡ num *ℤ pos bd
left_term x num u bd e h f = e ∙ ap (λ n. n *ℤ pos u) (read_small num (omega (arith, h))) ∙ ap (λ k. num *ℤ pos k) f

pub right_term : (x n num : ℤ) (d : ℕ) → x ≡ read n *ℤ pos d → mag n < 2 ^ 63 → n ≡ num → x ≡ num *ℤ pos d
right_term x n num d e h f = e ∙ ap (λ k. k *ℤ pos d) (read_long n h ∙ f)

pub terms_are : (n m : ℤ) (d u bd : ℕ) → mag n < 2 ^ 127 → n ≡ m → u ≡ bd → ◌≡◌ {A = Fraction} (record { num = to_z w128 (of_z w128 n); den = d * u }) (record { num = m; den = d * bd })
terms_are n m d u bd h e f = rw (read_wide n h, e, f) refl

-- two over one denominator, compared by their numerators
pub less_read : (a b : Exact) → a.den ≡ b.den → int_lt (read a.num) (read b.num) ≡ is_less (exact_value a) (exact_value b)
less_read a b same =
    ap (λ x. int_lt x (read b.num)) (read_small a.num a.size) ∙ ap (λ y. int_lt a.num y) (read_small b.num b.size)
    ∙ less_over_one a.num b.num a.den b.den a.above same

-- two over different denominators, compared in 128 bits
pub less_wide : (a b : Exact) (x y : ℤ) → mag x < 2 ^ 127 → mag y < 2 ^ 127 → x ≡ a.num *ℤ pos b.den → y ≡ b.num *ℤ pos a.den
    → int_lt (to_z w128 (of_z w128 x)) (to_z w128 (of_z w128 y)) ≡ is_less (exact_value a) (exact_value b)
less_wide a b x y h k e f =
    ap (λ z. int_lt z (to_z w128 (of_z w128 y))) (read_wide x h ∙ e) ∙ ap (λ z. int_lt (a.num *ℤ pos b.den) z) (read_wide y k ∙ f)
    ∙ sym (less_value (kept_number a) (kept_number b) a.above b.above)

-- where it is moved, it is the number, moved
pub shifted_value : (r : Result Exact Code) (a : Exact) (d p : Fraction) → 0 < a.den → 0 < d.den → p ≡ plus (kept_number a) d
    → MatchResult r (λ e. (kept_number e ≡ p) × (exceeds (2 ^ 20) p ≡ false)) (λ c. (c ≡ F40) × (exceeds (2 ^ 20) p ≡ true))
    → IfOk r (λ e. exact_value e ≡ shifted d (exact_value a))
shifted_value (Ok e) a d p ha hd is h = ap lowest (h.0 ∙ is) ∙ sym (shifted_lowest d (kept_number a) hd ha)
shifted_value (Err c) a d p ha hd is h = tt

pub product_small : (a b : ℕ) → (a ≤ 2 ^ 20) ⊎ (b ≡ 1) → a ≤ 2 ^ 40 → b ≤ 2 ^ 20 → a * b ≤ 2 ^ 40
product_small a b (inl fine) h k = let x : a * b ≤ 2 ^ 20 * 2 ^ 20 = mul-le-mul fine k in omega (arith, x)
product_small a b (inr one) h k = rw one (omega (arith, h))

-- ---- four sides

code_is : (d a : Fraction) (c : Code) → shift_checked d a ≡ Err c → (exceeds (2 ^ 20) (shifted d a) ≡ true) × (c ≡ F40)
code_is d a c h = by (exceeds (2 ^ 20) (shifted d a)) refl
  where
    by : (t : Bool) → exceeds (2 ^ 20) (shifted d a) ≡ t → (exceeds (2 ^ 20) (shifted d a) ≡ true) × (c ≡ F40)
    by true e = let same : ◌≡◌ {A = Result Fraction Code} (Err F40) (Err c) = rw e at h in (e, cc)
    by false e = let same : ◌≡◌ {A = Result Fraction Code} (Ok (shifted d a)) (Err c) = rw e at h in absurd (cc)

inside_is : (d a v : Fraction) → shift_checked d a ≡ Ok v → exceeds (2 ^ 20) (shifted d a) ≡ false
inside_is d a v h = by (exceeds (2 ^ 20) (shifted d a)) refl
  where
    by : (t : Bool) → exceeds (2 ^ 20) (shifted d a) ≡ t → exceeds (2 ^ 20) (shifted d a) ≡ false
    by true e = let same : ◌≡◌ {A = Result Fraction Code} (Err F40) (Ok v) = rw e at h in absurd (cc)
    by false e = e

-- a test of four sides
four : Bool → Bool → Bool → Bool → Result (Unit {0}) Code
four l r b t = if (l || r) || (b || t) then Err F40 else Ok tt

past_first : (l r b t : Bool) → l ≡ true → four l r b t ≡ Err F40
unfolding four
past_first l r b t h = rw h refl

past_second : (l r b t : Bool) → r ≡ true → four l r b t ≡ Err F40
unfolding four
past_second true r b t h = refl
past_second false r b t h = rw h refl

past_third : (l r b t : Bool) → b ≡ true → four l r b t ≡ Err F40
unfolding four
past_third true r b t h = refl
past_third false true b t h = refl
past_third false false b t h = rw h refl

past_fourth : (l r b t : Bool) → t ≡ true → four l r b t ≡ Err F40
unfolding four
past_fourth true r b t h = refl
past_fourth false true b t h = refl
past_fourth false false true t h = refl
past_fourth false false false t h = rw h refl

pub left_out : (by : Point) (e : Extremes) (c : Code) → shift_checked by.x e.left ≡ Err c → move_check by (Some e) ≡ Err c
unfolding four
left_out by e c h =
    let k = code_is by.x e.left c h in
    past_first (exceeds (2 ^ 20) (shifted by.x e.left)) (exceeds (2 ^ 20) (shifted by.x e.right)) (exceeds (2 ^ 20) (shifted by.y e.bottom)) (exceeds (2 ^ 20) (shifted by.y e.top)) k.0
    ∙ ap Err (sym k.1)

pub right_out : (by : Point) (e : Extremes) (c : Code) → shift_checked by.x e.right ≡ Err c → move_check by (Some e) ≡ Err c
unfolding four
right_out by e c h =
    let k = code_is by.x e.right c h in
    past_second (exceeds (2 ^ 20) (shifted by.x e.left)) (exceeds (2 ^ 20) (shifted by.x e.right)) (exceeds (2 ^ 20) (shifted by.y e.bottom)) (exceeds (2 ^ 20) (shifted by.y e.top)) k.0
    ∙ ap Err (sym k.1)

pub bottom_out : (by : Point) (e : Extremes) (c : Code) → shift_checked by.y e.bottom ≡ Err c → move_check by (Some e) ≡ Err c
unfolding four
bottom_out by e c h =
    let k = code_is by.y e.bottom c h in
    past_third (exceeds (2 ^ 20) (shifted by.x e.left)) (exceeds (2 ^ 20) (shifted by.x e.right)) (exceeds (2 ^ 20) (shifted by.y e.bottom)) (exceeds (2 ^ 20) (shifted by.y e.top)) k.0
    ∙ ap Err (sym k.1)

pub top_out : (by : Point) (e : Extremes) (c : Code) → shift_checked by.y e.top ≡ Err c → move_check by (Some e) ≡ Err c
unfolding four
top_out by e c h =
    let k = code_is by.y e.top c h in
    past_fourth (exceeds (2 ^ 20) (shifted by.x e.left)) (exceeds (2 ^ 20) (shifted by.x e.right)) (exceeds (2 ^ 20) (shifted by.y e.bottom)) (exceeds (2 ^ 20) (shifted by.y e.top)) k.0
    ∙ ap Err (sym k.1)

pub none_out : (by : Point) (e : Extremes) (l b r t : Fraction) → shift_checked by.x e.left ≡ Ok l → shift_checked by.y e.bottom ≡ Ok b → shift_checked by.x e.right ≡ Ok r
    → shift_checked by.y e.top ≡ Ok t → move_check by (Some e) ≡ Ok tt
none_out by e l b r t hl hb hr ht = rw (inside_is by.x e.left l hl, inside_is by.x e.right r hr, inside_is by.y e.bottom b hb, inside_is by.y e.top t ht) refl

-- the moved extremes, side by side
pub moved_sides : (by : Point) (e : Extremes) (l b r t : Fraction) → l ≡ shifted by.x e.left → b ≡ shifted by.y e.bottom → r ≡ shifted by.x e.right → t ≡ shifted by.y e.top
    → ◌≡◌ {A = Extremes} (record { left = l; bottom = b; right = r; top = t }) (shifted_by by e)
moved_sides by e l b r t hl hb hr ht = rw (hl, hb, hr, ht) refl

-- moved extremes that a check let through are within the limits
pub moved_within : (by : Point) (d e : Extremes) → d ≡ shifted_by by e → move_check by (Some e) ≡ Ok tt → limit_check (Some d) ≡ Ok tt
moved_within by d e h k = rw h k

-- a whole side's denominator, moved
pub whole_moved : (d n m : ℕ) → d ≡ n * m → n ≤ 1 → m ≤ 2 ^ 20 → d ≤ 2 ^ 20
whole_moved d n m e h k = rw e (mul-le-mul h k)

-- a side's denominator, moved by a whole distance
pub moved_whole : (d n m k : ℕ) → d ≡ n * m → m ≡ 1 → n ≤ k → d ≤ k
moved_whole d n m k e one h = rw (e, one) (omega (arith, h))

pub shifted_fine : (r : Result Exact Code) (a : Exact) (d p : Fraction) → p ≡ plus (kept_number a) d
    → MatchResult r (λ e. (kept_number e ≡ p) × (exceeds (2 ^ 20) p ≡ false)) (λ c. (c ≡ F40) × (exceeds (2 ^ 20) p ≡ true))
    → IfOk r (λ e. e.den ≡ a.den * d.den)
shifted_fine (Ok e) a d p is h = ap (λ (f : Fraction). f.den) (h.0 ∙ is)
shifted_fine (Err c) a d p is h = tt

-- ---- the limit of two in one

lesser_inside : (a b : Fraction) → exceeds (2 ^ 20) a ≡ false → exceeds (2 ^ 20) b ≡ false → exceeds (2 ^ 20) (lesser a b) ≡ false
lesser_inside a b h k = by (is_less b a)
  where
    by : (t : Bool) → exceeds (2 ^ 20) (if t then b else a) ≡ false
    by true = k
    by false = h

greater_inside : (a b : Fraction) → exceeds (2 ^ 20) a ≡ false → exceeds (2 ^ 20) b ≡ false → exceeds (2 ^ 20) (greater a b) ≡ false
greater_inside a b h k = by (is_less a b)
  where
    by : (t : Bool) → exceeds (2 ^ 20) (if t then b else a) ≡ false
    by true = k
    by false = h

-- the four sides that the limit lets through
pub four_sides : (e : Extremes) → limit_check (Some e) ≡ Ok tt
    → (exceeds (2 ^ 20) e.left ≡ false) × (exceeds (2 ^ 20) e.bottom ≡ false) × (exceeds (2 ^ 20) e.right ≡ false) × (exceeds (2 ^ 20) e.top ≡ false)
four_sides e h = by (exceeds (2 ^ 20) e.left) (exceeds (2 ^ 20) e.right) (exceeds (2 ^ 20) e.bottom) (exceeds (2 ^ 20) e.top) h
  where
    by : (l r b t : Bool) → check ((l || r) || (b || t)) ≡ Ok tt → (l ≡ false) × (b ≡ false) × (r ≡ false) × (t ≡ false)
    by false false false false h = (refl, refl, refl, refl)
    by true r b t h = absurd (cc)
    by false true b t h = absurd (cc)
    by false false true t h = absurd (cc)
    by false false false true h = absurd (cc)

pub reaching_inside : (d e : Extremes) → limit_check (Some d) ≡ Ok tt → limit_check (Some e) ≡ Ok tt → limit_check (Some (reaching d e)) ≡ Ok tt
reaching_inside d e h k =
    let x = four_sides d h in
    let y = four_sides e k in
    rw (lesser_inside d.left e.left x.0 y.0, greater_inside d.right e.right x.2 y.2, lesser_inside d.bottom e.bottom x.1 y.1, greater_inside d.top e.top x.3 y.3) refl

-- ---- distances

-- the difference of two coordinates, in 64 bits
pub record IsDifference (n m d : ℤ) (to from : Fraction) : Type 0 where
  pub product_fits : FitsSigned w64 (read m *ℤ read d)
  pub fits : FitsSigned w64 (read n -ℤ read (read m *ℤ read d))
  pub same : read (read n -ℤ read (read m *ℤ read d)) ≡ to.num -ℤ from.num *ℤ pos to.den
  pub bound : unsigned_abs (read (read n -ℤ read (read m *ℤ read d))) ≤ 2 ^ 60

pub difference_is : (n m d : ℤ) (to from : Fraction) → IsCoordinate from → IsCoordinate to → from.den ≡ 1 → n ≡ to.num → m ≡ from.num → d ≡ pos to.den → IsDifference n m d to from
difference_is n m d to from cf ct one en em ed =
    let small : unsigned_abs from.num ≤ 2 ^ 20 = omega (arith, cf.size, one) in
    let tall : unsigned_abs to.num ≤ 2 ^ 40 = omega (arith, ct.size, ct.fine) in
    let num_is : read m ≡ from.num = ap read em ∙ read_small from.num (omega (arith, small)) in
    let den_is : read d ≡ pos to.den = ap read ed ∙ read_small (pos to.den) (omega (arith, ct.fine)) in
    let to_is : read n ≡ to.num = ap read en ∙ read_small to.num (omega (arith, tall)) in
    let product = long_product (read m) (read d) from.num (pos to.den) (2 ^ 20) (2 ^ 20) num_is den_is small ct.fine (omega arith) in
    let size = product_size from.num (pos to.den) (2 ^ 20) (2 ^ 20) small ct.fine in
    let wide : unsigned_abs (to.num -ℤ from.num *ℤ pos to.den) ≤ 2 ^ 60 = apart_small to.num (from.num *ℤ pos to.den) tall (omega (arith, size)) in
    let inside : read n -ℤ read (read m *ℤ read d) ≡ to.num -ℤ from.num *ℤ pos to.den =
    ap (λ x. x -ℤ read (read m *ℤ read d)) to_is ∙ ap (λ x. to.num -ℤ x) product.same in
    let same : read (read n -ℤ read (read m *ℤ read d)) ≡ to.num -ℤ from.num *ℤ pos to.den = ap read inside ∙ read_small (to.num -ℤ from.num *ℤ pos to.den) wide in
    record { product_fits = product.fits; fits = rw inside (fits_long (to.num -ℤ from.num *ℤ pos to.den) wide); same = same; bound = rw same wide }
  where
    apart_small : (a b : ℤ) → unsigned_abs a ≤ 2 ^ 40 → unsigned_abs b ≤ 2 ^ 40 → unsigned_abs (a -ℤ b) ≤ 2 ^ 60
    apart_small a b h k = omega (arith, ints, h, k)

    fits_long : (x : ℤ) → unsigned_abs x ≤ 2 ^ 60 → FitsSigned w64 x
    fits_long x h = omega (arith, ints, h)

pub between_is : (n m d : ℤ) (u : ℕ) (to from : Fraction) → IsDifference n m d to from → from.den ≡ 1 → u ≡ to.den
    → ◌≡◌ {A = Fraction} (record { num = read (read n -ℤ read (read m *ℤ read d)); den = u }) (minus to from)
between_is n m d u to from h one eu =
    let den : u ≡ to.den * from.den = eu ∙ over_one to.den from.den one in
    same_terms _ _ u (to.den * from.den) (h.same ∙ crossed_one to.num from.num to.den from.den one) den
  where
    over_one : (a b : ℕ) → b ≡ 1 → a ≡ a * b
    over_one a b e = rw e (omega arith)

    crossed_one : (a b : ℤ) (k l : ℕ) → l ≡ 1 → a -ℤ b *ℤ pos k ≡ a *ℤ pos l +ℤ neg_ℤ b *ℤ pos k
    crossed_one a b k l e =
        let n = neg_is b in
        let x = product_is a (pos 1) in
        let y = product_is b (pos k) in
        let z = product_is (neg_ℤ b) (pos k) in
        rw e (omega (arith, ints, x, y, z, ap (λ m. m * k) n.0, ap (λ m. m * k) n.1))

    same_terms : (a b : ℤ) (k l : ℕ) → a ≡ b → k ≡ l → ◌≡◌ {A = Fraction} (record { num = a; den = k }) (record { num = b; den = l })
    same_terms a b k l e f = rw (e, f) refl
