-- Whether an outline can be moved is passed by its extremes.
use Rattle.std.proofs.Common.{◌≡◌, ℕ, zero, suc, ◌+◌, ◌*◌, ◌/◌, ◌<◌, ◌≤◌, ◌^◌, ◌⊎◌, inl, inr, List, [], ◌∷◌, ◌++◌, map, arith, refl, ap, ◌∙◌, sym, ℤ, pos, negsuc, neg_ℤ, Bool, true, false}
use Rattle.std.specs.Prelude.{fold, ◌||◌, if◌then◌else◌, nat_lt, Result, Ok, Err}
use Rattle.std.specs.List.{list_any, AllByRecursion}
use Rattle.std.specs.Int.RustNames.{unsigned_abs, int_lt}
use Rattle.std.proofs.lemmas.Bool.Decides.{nat_tests}
use Rattle.std.proofs.Math.Nat.{div-le_self, lt_of_mul-lt-mul_right, mul-lt-mul_of_pos_right}
use Rattle.std.proofs.Math.Bool.{or-false, or-true}
use borrow.Author.Differences.{up, down, neg_is, lt-true, lt-false}
use Rattle.t1_frac.specs.Fraction.{Fraction, lowest, plus, gcd}
use Rattle.t1_frac.specs.Limits.{coordinate_sum, exceeds, is_too_fine}
use Rattle.t1_frac.specs.Outcome.{◌>>=◌}
use Rattle.t1_frac.specs.declared.fault.Code.{Code}
use Rattle.t1_frac.specs.declared.fault.Code.TheVariants.{F39, F40}
use Rattle.t1_run.specs.declared.outline.Point.{Point}
use Rattle.t1_run.specs.declared.outline.Segment.{Segment}
use Rattle.t1_run.specs.declared.outline.Segment.TheVariants.{Line, Curve}
use Rattle.t1_run.specs.Composite.{moved_point, moved_segment, moved_outline}
use Rattle.t1_extent.specs.Extremes.{Extremes, is_less, lesser, greater, point_extremes, reaching, extremes, corners_of, corners, shifted, shifted_by, is_out, move_check}
use Rattle.t1_extent.proofs.Canonical.{lowest_above}
use Rattle.t1_extent.proofs.Order.{IsUnder, under_refl, under_trans, less_true, less_false, lesser_is, greater_is}
use Rattle.t1_extent.proofs.Folding.{IsNumber, AreLowest, point_lowest, points_lowest, reaching_lowest, fold_lowest}
use Rattle.t1_extent.proofs.Moving.{shifted_fold}
use Rattle.t1_extent.proofs.Shifting.{shifted_canonical, shifted_lowest}

-- ---- tests on fractions

-- below -1,048,576, or above 1,048,576
abbrev pub is_below : Fraction → Bool
is_below a = int_lt a.num (neg_ℤ (pos (2 ^ 20 * a.den)))

abbrev pub is_above : Fraction → Bool
is_above a = int_lt (pos (2 ^ 20 * a.den)) a.num

-- the least sides are below the limit, or the greatest above it
abbrev pub is_past : Extremes → Bool
is_past e = (is_below e.left || is_above e.right) || (is_below e.bottom || is_above e.top)

lt-true-in : (a b : ℤ) → up a + down b < up b + down a → int_lt a b ≡ true
lt-true-in a b h = by (int_lt a b) refl
  where
    by : (t : Bool) → int_lt a b ≡ t → t ≡ true
    by true e = refl
    by false e = let k = lt-false a b e in absurd (omega arith)

pub below_under : (a b : Fraction) → 0 < a.den → 0 < b.den → IsUnder b a → is_below a ≡ true → is_below b ≡ true
below_under a b ha hb h e =
    let l = lt-true a.num (neg_ℤ (pos (2 ^ 20 * a.den))) e in
    let n = neg_is (pos (2 ^ 20 * a.den)) in
    let n' = neg_is (pos (2 ^ 20 * b.den)) in
    let far : up a.num + 2 ^ 20 * a.den < down a.num = omega (arith, l, n) in
    let wide : (up a.num + 2 ^ 20 * a.den) * b.den < down a.num * b.den = mul-lt-mul_of_pos_right far hb in
    let near : up b.num + 2 ^ 20 * b.den < down b.num = lt_of_mul-lt-mul_right a.den (omega (arith, wide, h.under)) in
    lt-true-in b.num (neg_ℤ (pos (2 ^ 20 * b.den))) (omega (arith, near, n'))

pub above_under : (a b : Fraction) → 0 < a.den → 0 < b.den → IsUnder a b → is_above a ≡ true → is_above b ≡ true
above_under a b ha hb h e =
    let l = lt-true (pos (2 ^ 20 * a.den)) a.num e in
    let far : 2 ^ 20 * a.den + down a.num < up a.num = omega (arith, l) in
    let wide : (2 ^ 20 * a.den + down a.num) * b.den < up a.num * b.den = mul-lt-mul_of_pos_right far hb in
    let near : 2 ^ 20 * b.den + down b.num < up b.num = lt_of_mul-lt-mul_right a.den (omega (arith, wide, h.under)) in
    lt-true-in (pos (2 ^ 20 * b.den)) b.num (omega (arith, near))

or_second : (x y : Bool) → (x ≡ true → y ≡ true) → y ≡ (x || y)
or_second true y h = h refl
or_second false y h = refl

or_first : (x y : Bool) → (y ≡ true → x ≡ true) → x ≡ (x || y)
or_first true y h = refl
or_first false true h = h refl
or_first false false h = refl

below_lesser : (a b : Fraction) → 0 < a.den → 0 < b.den → is_below (lesser a b) ≡ (is_below a || is_below b)
below_lesser a b ha hb = by (is_less b a) refl
  where
    by : (t : Bool) → is_less b a ≡ t → is_below (if t then b else a) ≡ (is_below a || is_below b)
    by true e = or_second (is_below a) (is_below b) (below_under a b ha hb (less_true b a e))
    by false e = or_first (is_below a) (is_below b) (below_under b a hb ha (less_false b a e))

above_greater : (a b : Fraction) → 0 < a.den → 0 < b.den → is_above (greater a b) ≡ (is_above a || is_above b)
above_greater a b ha hb = by (is_less a b) refl
  where
    by : (t : Bool) → is_less a b ≡ t → is_above (if t then b else a) ≡ (is_above a || is_above b)
    by true e = or_second (is_above a) (is_above b) (above_under a b ha hb (less_true a b e))
    by false e = or_first (is_above a) (is_above b) (above_under b a hb ha (less_false a b e))

-- ---- any of several

or_assoc : (x y z : Bool) → ((x || y) || z) ≡ (x || (y || z))
or_assoc true y z = refl
or_assoc false y z = refl

or_swap : (a b c d : Bool) → ((a || b) || (c || d)) ≡ ((a || c) || (b || d))
or_swap true b c d = refl
or_swap false b true d = or-true b
or_swap false b false d = refl

any_append : {X : Type 0} (test : X → Bool) (xs ys : List X) → list_any test (xs ++ ys) ≡ (list_any test xs || list_any test ys)
any_append test [] ys = refl
any_append test (x ∷ xs) ys = ap (λ t. test x || t) (any_append test xs ys) ∙ sym (or_assoc (test x) (list_any test xs) (list_any test ys))

past_reaching : (d e : Extremes) → AreLowest d → AreLowest e → is_past (reaching d e) ≡ (is_past d || is_past e)
past_reaching d e h k =
    rw (
      below_lesser d.left e.left h.left.above k.left.above,
      below_lesser d.bottom e.bottom h.bottom.above k.bottom.above,
      above_greater d.right e.right h.right.above k.right.above,
      above_greater d.top e.top h.top.above k.top.above,
    )
    (ap (λ t. t || ((is_below d.bottom || is_below e.bottom) || (is_above d.top || is_above e.top))) (or_swap (is_below d.left) (is_below e.left) (is_above d.right) (is_above e.right))
    ∙ ap (λ t. ((is_below d.left || is_above d.right) || (is_below e.left || is_above e.right)) || t) (or_swap (is_below d.bottom) (is_below e.bottom) (is_above d.top) (is_above e.top))
    ∙ or_swap (is_below d.left || is_above d.right) (is_below e.left || is_above e.right) (is_below d.bottom || is_above d.top) (is_below e.bottom || is_above e.top))

pub past_fold : (e : Extremes) (es : List Extremes) → AreLowest e → AllByRecursion AreLowest es → is_past (fold reaching e es) ≡ (is_past e || list_any is_past es)
past_fold e [] h hs = sym (or-false (is_past e))
past_fold e (f ∷ fs) h hs =
    past_fold (reaching e f) fs (reaching_lowest e f h hs.0) hs.1 ∙ ap (λ t. t || list_any is_past fs) (past_reaching e f h hs.0)
    ∙ or_assoc (is_past e) (is_past f) (list_any is_past fs)

shifted_point : (by p : Point) → IsNumber by → IsNumber p → AreLowest (shifted_by by (point_extremes p))
shifted_point by p h k =
    let x = shifted_canonical by.x (lowest p.x) h.x (lowest_above p.x k.x) in
    let y = shifted_canonical by.y (lowest p.y) h.y (lowest_above p.y k.y) in
    record { left = x; bottom = y; right = x; top = y }

suc_test : (m n : ℕ) → nat_lt (suc m) (suc n) ≡ nat_lt m n
suc_test m n = grind (arith, nat_tests)

pub exceeds_is : (a : Fraction) → exceeds (2 ^ 20) a ≡ (is_below a || is_above a)
exceeds_is a = exceeds_at a.num (2 ^ 20 * a.den)
  where
    not_below : (n m : ℕ) → int_lt (pos n) (neg_ℤ (pos m)) ≡ false
    not_below n zero = grind (arith, nat_tests)
    not_below n (suc m) = refl

    below : (n m : ℕ) → nat_lt m (suc n) ≡ int_lt (negsuc n) (neg_ℤ (pos m))
    below n zero = grind (arith, nat_tests)
    below n (suc m) = suc_test m n

    exceeds_at : (z : ℤ) (m : ℕ) → nat_lt m (unsigned_abs z) ≡ (int_lt z (neg_ℤ (pos m)) || int_lt (pos m) z)
    exceeds_at (pos n) m = ap (λ t. t || nat_lt m n) (sym (not_below n m))
    exceeds_at (negsuc n) m = below n m ∙ sym (or-false (int_lt (negsuc n) (neg_ℤ (pos m))))

-- ---- no side is past the limit where the least and the greatest aren't

pub record IsOrdered (e : Extremes) : Type 0 where
  pub x : IsUnder e.left e.right
  pub y : IsUnder e.bottom e.top

reaching_ordered : (d e : Extremes) → AreLowest d → IsOrdered d → IsOrdered (reaching d e)
reaching_ordered d e h k =
    let l = lesser_is d.left e.left in
    let b = lesser_is d.bottom e.bottom in
    let r = greater_is d.right e.right in
    let t = greater_is d.top e.top in
    record {
      x = under_trans (lesser d.left e.left) d.left (greater d.right e.right) h.left.above l.left (under_trans d.left d.right (greater d.right e.right) h.right.above k.x r.left);
      y = under_trans (lesser d.bottom e.bottom) d.bottom (greater d.top e.top) h.bottom.above b.left (under_trans d.bottom d.top (greater d.top e.top) h.top.above k.y t.left);
    }

pub fold_ordered : (e : Extremes) (es : List Extremes) → AreLowest e → AllByRecursion AreLowest es → IsOrdered e → IsOrdered (fold reaching e es)
fold_ordered e [] h hs k = k
fold_ordered e (f ∷ fs) h hs k = fold_ordered (reaching e f) fs (reaching_lowest e f h hs.0) hs.1 (reaching_ordered e f h k)

four_tests : (below above below' above' : Bool) → (above ≡ true → above' ≡ true) → (below' ≡ true → below ≡ true)
    → ((below || above) || (below' || above')) ≡ (below || above')
four_tests true above below' above' upper lower = refl
four_tests false true below' above' upper lower = sym (upper refl)
four_tests false false true above' upper lower = let e : false ≡ true = lower refl in absurd (cc)
four_tests false false false above' upper lower = refl

pair_past : (a b : Fraction) → 0 < a.den → 0 < b.den → IsUnder a b → (exceeds (2 ^ 20) a || exceeds (2 ^ 20) b) ≡ (is_below a || is_above b)
pair_past a b ha hb h =
    ap (λ t. t || exceeds (2 ^ 20) b) (exceeds_is a) ∙ ap (λ t. (is_below a || is_above a) || t) (exceeds_is b)
    ∙ four_tests (is_below a) (is_above a) (is_below b) (is_above b) (above_under a b ha hb h) (below_under b a hb ha h)

pub out_past : (e : Extremes) → AreLowest e → IsOrdered e → is_out e ≡ is_past e
out_past e h k =
    ap (λ t. t || (exceeds (2 ^ 20) e.bottom || exceeds (2 ^ 20) e.top)) (pair_past e.left e.right h.left.above h.right.above k.x)
    ∙ ap (λ t. (is_below e.left || is_above e.right) || t) (pair_past e.bottom e.top h.bottom.above h.top.above k.y)

-- the moved point is past the limits
abbrev out_at : Point → Point → Bool
out_at by p = is_past (shifted_by by (point_extremes p))

abbrev pub check : Bool → Result (Unit {0}) Code
check t = if t then Err F40 else Ok tt

shifted_lowest_all : (by : Point) (ps : List Point) → IsNumber by → AllByRecursion IsNumber ps → AllByRecursion AreLowest (map (shifted_by by) (map point_extremes ps))
shifted_lowest_all by [] h hs = tt
shifted_lowest_all by (p ∷ ps) h hs = (shifted_point by p h hs.0, shifted_lowest_all by ps h hs.1)

any_past : (by : Point) (ps : List Point) → list_any is_past (map (shifted_by by) (map point_extremes ps)) ≡ list_any (out_at by) ps
any_past by [] = refl
any_past by (p ∷ ps) = ap (λ t. out_at by p || t) (any_past by ps)

check_any : (by : Point) (ps : List Point) → IsNumber by → AllByRecursion IsNumber ps → move_check by (extremes ps) ≡ check (list_any (out_at by) ps)
check_any by [] h hs = refl
check_any by (p ∷ ps) h hs =
    let first = shifted_by by (point_extremes p) in
    let rest = map (shifted_by by) (map point_extremes ps) in
    let one = shifted_point by p h hs.0 in
    let all = shifted_lowest_all by ps h hs.1 in
    ap check
    (ap is_out (sym (shifted_fold by (point_extremes p) (map point_extremes ps) h (point_lowest p hs.0) (points_lowest ps hs.1)))
    ∙ out_past (fold reaching first rest) (fold_lowest first rest one all)
    (fold_ordered first rest one all (record { x = under_refl first.left; y = under_refl first.bottom }))
    ∙ past_fold first rest one all
    ∙ ap (λ t. out_at by p || t) (any_past by ps))

-- ---- steps that are refused by F40 alone

abbrev pub passed : {A : Type 0} → Result A Code → Result (Unit {0}) Code
passed r = r >>= λ _. Ok tt

passed_bind : {A B : Type 0} (r : Result A Code) (f : A → Result B Code) (t u : Bool) → passed r ≡ check t → ((x : A) → passed (f x) ≡ check u) → passed (r >>= f) ≡ check (t || u)
passed_bind (Ok x) f true u e h = absurd (cc)
passed_bind (Ok x) f false u e h = h x
passed_bind (Err c) f true u e h = e
passed_bind (Err c) f false u e h = absurd (cc)

-- one of two is whole
abbrev pub OneWhole : Fraction → Fraction → Type 0
OneWhole a b = (a.den ≡ 1) ⊎ (b.den ≡ 1)

product_fine : (m n : ℕ) → (m ≡ 1) ⊎ (n ≡ 1) → m ≤ 2 ^ 20 → n ≤ 2 ^ 20 → m * n ≤ 2 ^ 20
product_fine m n (inl e) h k = rw e (omega (arith, k))
product_fine m n (inr e) h k = rw e (omega (arith, h))

at_most_test : (n : ℕ) → n ≤ 2 ^ 20 → nat_lt (2 ^ 20) n ≡ false
at_most_test n h = grind (arith, nat_tests)

pub fine_sum : (a b : Fraction) → a.den * b.den ≤ 2 ^ 20 → is_too_fine (lowest (plus a b)) ≡ false
unfolding lowest
fine_sum a b small =
    let less : (a.den * b.den) / gcd (unsigned_abs (plus a b).num) (a.den * b.den) ≤ a.den * b.den = div-le_self (a.den * b.den) (gcd (unsigned_abs (plus a b).num) (a.den * b.den)) in
    at_most_test ((a.den * b.den) / gcd (unsigned_abs (plus a b).num) (a.den * b.den)) (omega (arith, small, less))

pub not_fine : (a b : Fraction) → OneWhole a b → a.den ≤ 2 ^ 20 → b.den ≤ 2 ^ 20 → is_too_fine (lowest (plus a b)) ≡ false
not_fine a b one h k = fine_sum a b (product_fine a.den b.den one h k)

passed_within : (s : Fraction) (ex fine : Bool) → fine ≡ false → passed (if ex then Err F40 else (if fine then Err F39 else Ok s)) ≡ check ex
passed_within s true fine e = refl
passed_within s false true e = absurd (cc)
passed_within s false false e = refl

sum_passed : (a d : Fraction) → is_too_fine (lowest (plus a d)) ≡ false → passed (coordinate_sum a d) ≡ check (is_below (shifted d a) || is_above (shifted d a))
unfolding coordinate_sum
sum_passed a d fine = passed_within (shifted d a) (exceeds (2 ^ 20) (shifted d a)) (is_too_fine (shifted d a)) fine ∙ ap check (exceeds_is (shifted d a))

-- ---- points

-- the point can be moved by this distance, but for the limit of coordinates
pub record IsEasy (by p : Point) : Type 0 where
  pub x : is_too_fine (lowest (plus p.x by.x)) ≡ false
  pub y : is_too_fine (lowest (plus p.y by.y)) ≡ false
  pub number : IsNumber p

point_passed : (by p : Point) → IsNumber by → IsEasy by p → passed (moved_point by p) ≡ check (out_at by p)
point_passed by p hb h =
    passed_bind (coordinate_sum p.x by.x) _ (is_below (shifted by.x p.x) || is_above (shifted by.x p.x)) ((is_below (shifted by.y p.y) || is_above (shifted by.y p.y)) || false)
    (sum_passed p.x by.x h.x) (λ x.
    passed_bind (coordinate_sum p.y by.y) _ (is_below (shifted by.y p.y) || is_above (shifted by.y p.y)) false (sum_passed p.y by.y h.y) (λ y. refl))
    ∙ ap (λ t. check ((is_below (shifted by.x p.x) || is_above (shifted by.x p.x)) || t)) (or-false (is_below (shifted by.y p.y) || is_above (shifted by.y p.y)))
    ∙ rw (shifted_lowest by.x p.x hb.x h.number.x, shifted_lowest by.y p.y hb.y h.number.y) refl

-- ---- segments and outlines

segment_passed : (by : Point) (s : Segment) → IsNumber by → AllByRecursion (IsEasy by) (corners_of s) → passed (moved_segment by s) ≡ check (list_any (out_at by) (corners_of s))
segment_passed by (Line a b) hb h =
    passed_bind (moved_point by a) _ (out_at by a) (out_at by b || false) (point_passed by a hb h.0) (λ a'.
    passed_bind (moved_point by b) _ (out_at by b) false (point_passed by b hb h.1.0) (λ b'. refl))
segment_passed by (Curve a b c e) hb h =
    passed_bind (moved_point by a) _ (out_at by a) (out_at by b || (out_at by c || (out_at by e || false))) (point_passed by a hb h.0) (λ a'.
    passed_bind (moved_point by b) _ (out_at by b) (out_at by c || (out_at by e || false)) (point_passed by b hb h.1.0) (λ b'.
    passed_bind (moved_point by c) _ (out_at by c) (out_at by e || false) (point_passed by c hb h.1.1.0) (λ c'.
    passed_bind (moved_point by e) _ (out_at by e) false (point_passed by e hb h.1.1.1.0) (λ e'. refl))))

all_first : {X : Type 0} (P : X → Type 0) (xs ys : List X) → AllByRecursion P (xs ++ ys) → AllByRecursion P xs
all_first P [] ys h = tt
all_first P (x ∷ xs) ys h = (h.0, all_first P xs ys h.1)

all_second : {X : Type 0} (P : X → Type 0) (xs ys : List X) → AllByRecursion P (xs ++ ys) → AllByRecursion P ys
all_second P [] ys h = h
all_second P (x ∷ xs) ys h = all_second P xs ys h.1

outline_any : (by : Point) (ss : List Segment) → IsNumber by → AllByRecursion (IsEasy by) (corners ss) → passed (moved_outline by ss) ≡ check (list_any (out_at by) (corners ss))
outline_any by [] hb h = refl
outline_any by (s ∷ ss) hb h =
    passed_bind (moved_segment by s) _ (list_any (out_at by) (corners_of s)) (list_any (out_at by) (corners ss) || false)
    (segment_passed by s hb (all_first (IsEasy by) (corners_of s) (corners ss) h)) (λ s'.
    passed_bind (moved_outline by ss) _ (list_any (out_at by) (corners ss)) false (outline_any by ss hb (all_second (IsEasy by) (corners_of s) (corners ss) h)) (λ ss'. refl))
    ∙ ap (λ t. check (list_any (out_at by) (corners_of s) || t)) (or-false (list_any (out_at by) (corners ss)))
    ∙ ap check (sym (any_append (out_at by) (corners_of s) (corners ss)))

easy_numbers : (by : Point) (ps : List Point) → AllByRecursion (IsEasy by) ps → AllByRecursion IsNumber ps
easy_numbers by [] h = tt
easy_numbers by (p ∷ ps) h = (h.0.number, easy_numbers by ps h.1)

-- whether an outline can be moved is passed by the extremes of its corners, where no moved coordinate is too fine
pub outline_passed : (by : Point) (ss : List Segment) → IsNumber by → AllByRecursion (IsEasy by) (corners ss) → passed (moved_outline by ss) ≡ move_check by (extremes (corners ss))
outline_passed by ss hb h = outline_any by ss hb h ∙ sym (check_any by (corners ss) hb (easy_numbers by (corners ss) h))
