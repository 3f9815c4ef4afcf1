-- Fractions, points and segments that a run holds are in lowest terms, and within their limits.
use Rattle.std.proofs.Common.{◌≡◌, ℕ, ◌*◌, ◌/◌, ◌^◌, ◌<◌, ◌≤◌, Bool, true, false, List, [], ◌∷◌, ◌++◌, take, drop, zero, suc, arith, refl, sym, ◌∙◌, ap, inl, inr, Some, None, ℤ, pos, ◌+ℤ◌, ◌*ℤ◌}
use Rattle.std.specs.Prelude.{Result, Ok, Err, IfOk, nat_lt, ◌==◌, if◌then◌else◌}
use Rattle.std.specs.List.{AllByRecursion, list_any}
use Rattle.std.specs.Int.RustNames.{unsigned_abs, int_div}
use Rattle.std.proofs.Math.Nat.{div-one}
use Rattle.std.proofs.lemmas.Bool.{cases_Bool, or_parts}
use Rattle.std.proofs.lemmas.Bool.Decides.{nat_tests}
use borrow.Author.Differences.{sum_is_lem, product_is, same_in}
use Rattle.t1_frac.specs.Fraction.{Fraction, IsLowest, gcd, lowest, whole, plus, minus, over}
use Rattle.t1_frac.specs.Limits.{exceeds, is_too_fine, within, coordinate_sum, coordinate_difference, quotient}
use Rattle.t1_frac.specs.Outcome.{◌>>=◌}
use Rattle.t1_frac.specs.declared.fault.Code.{Code}
use Rattle.t1_frac.specs.declared.fault.Code.TheVariants.{F37, F40}
use Rattle.t1_frac.proofs.Divisors.{gcd_is}
use Rattle.t1_frac.proofs.Exact.{lowest_terms, lowest_whole}
use Rattle.t1_run.specs.declared.outline.Point.{Point}
use Rattle.t1_run.specs.declared.outline.Segment.{Segment}
use Rattle.t1_run.specs.declared.outline.Segment.TheVariants.{Line, Curve}
use Rattle.t1_run.specs.Composite.{moved_point, moved_segment}
use Rattle.t1_run.specs.Operands.{size_fault}
use Rattle.t1_run.specs.State.{origin}
use Rattle.t1_run.specs.Step.{moved}
use Rattle.t1_run.specs.Within.{Stays}
use Rattle.t1_code.proofs.Segmenting.{some_of}
use Rattle.t1_frac.proofs.Exact.{div_one_abs}

-- a value of a run: in lowest terms, over a denominator of at most 2^20
pub record IsValue (a : Fraction) : Type 0 where
  pub terms : IsLowest a
  pub fine : a.den ≤ 2 ^ 20

-- a value of at most 2^20 in size
pub record IsPlace (a : Fraction) : Type 0 where
  pub value : IsValue a
  pub size : unsigned_abs a.num ≤ 2 ^ 20 * a.den

pub record IsPlaced (p : Point) : Type 0 where
  pub x : IsPlace p.x
  pub y : IsPlace p.y

abbrev pub IsDrawn : Segment → Type 0
IsDrawn (Line start end) = IsPlaced start × IsPlaced end
IsDrawn (Curve start first second end) = IsPlaced start × IsPlaced first × IsPlaced second × IsPlaced end

abbrev pub AllDrawn : List Segment → Type 0
AllDrawn segments = AllByRecursion IsDrawn segments

-- ---- lists

pub each-append : {X : Type 0} (P : X → Type 0) (xs ys : List X) → AllByRecursion P xs → AllByRecursion P ys → AllByRecursion P (xs ++ ys)
each-append P [] ys h k = k
each-append P (x ∷ xs) ys h k = (h.0, each-append P xs ys h.1 k)

pub each-take : {X : Type 0} (P : X → Type 0) (n : ℕ) (xs : List X) → AllByRecursion P xs → AllByRecursion P (take n xs)
each-take P zero xs h = tt
each-take P (suc n) [] h = tt
each-take P (suc n) (x ∷ xs) h = (h.0, each-take P n xs h.1)

pub each-drop : {X : Type 0} (P : X → Type 0) (n : ℕ) (xs : List X) → AllByRecursion P xs → AllByRecursion P (drop n xs)
each-drop P zero xs h = h
each-drop P (suc n) [] h = tt
each-drop P (suc n) (x ∷ xs) h = each-drop P n xs h.1

-- ---- a step after another

pub bind-ok : {E A B : Type 0} (P : A → Type 0) (Q : B → Type 0) (r : Result A E) (next : A → Result B E)
    → IfOk r P → ((x : A) → P x → IfOk (next x) Q) → IfOk (r >>= next) Q
bind-ok P Q (Ok x) next h k = k x h
bind-ok P Q (Err e) next h k = tt

-- ---- limits

at_most : (limit n : ℕ) → nat_lt limit n ≡ false → n ≤ limit
at_most limit n h = grind (arith, nat_tests)

not_past : (limit n : ℕ) → n ≤ limit → nat_lt limit n ≡ false
not_past limit n h = grind (arith, nat_tests)

fits : (fault : Code) (limit : ℕ) (P : Fraction → Type 0) (a : Fraction) → (exceeds limit a ≡ false → is_too_fine a ≡ false → P a) → IfOk (within fault limit a) P
fits fault limit P a h =
    elim (cases_Bool (exceeds limit a)) [
      | inl large ↦ rw large tt
      | inr small ↦ elim (cases_Bool (is_too_fine a)) [ inl fine ↦ rw (small, fine) tt | inr coarse ↦ rw (small, coarse) (h small coarse) ]
    ]

fits-value : (fault : Code) (limit : ℕ) (a : Fraction) → IsLowest a → IfOk (within fault limit a) IsValue
fits-value fault limit a terms =
    fits fault limit IsValue a (λ small coarse. record { terms = terms; fine = at_most (2 ^ 20) a.den coarse })

fits-place : (fault : Code) (a : Fraction) → IsLowest a → IfOk (within fault (2 ^ 20) a) IsPlace
fits-place fault a terms =
    fits fault (2 ^ 20) IsPlace a (λ small coarse. record {
      value = record { terms = terms; fine = at_most (2 ^ 20) a.den coarse };
      size = at_most (2 ^ 20 * a.den) (unsigned_abs a.num) small;
    })

product_above : (a b : ℕ) → 0 < a → 0 < b → 0 < a * b
product_above a b h k = grind arith

pub sum-place : (a b : Fraction) → IsValue a → IsValue b → IfOk (coordinate_sum a b) IsPlace
unfolding coordinate_sum
sum-place a b h k = fits-place F40 (lowest (plus a b)) (lowest_terms (plus a b) (product_above a.den b.den h.terms.above k.terms.above)).1

pub difference-place : (a b : Fraction) → IsValue a → IsValue b → IfOk (coordinate_difference a b) IsPlace
unfolding coordinate_difference
difference-place a b h k = fits-place F40 (lowest (minus a b)) (lowest_terms (minus a b) (product_above a.den b.den h.terms.above k.terms.above)).1

pub quotient-value : (a b : Fraction) → IsValue a → IfOk (quotient a b) IsValue
unfolding quotient
quotient-value a b h =
    elim (cases_Bool (unsigned_abs b.num == 0)) [
      | inl none ↦ rw none tt
      | inr some ↦
          rw some (fits-value F37 (2 ^ 31) (lowest (over a b))
          (lowest_terms (over a b) (product_above a.den (unsigned_abs b.num) h.terms.above (some_of (unsigned_abs b.num) some))).1)
    ]

-- ---- whole numbers

pub whole-value : (n : ℤ) → IsValue (whole n)
whole-value n =
    let low : IsLowest (lowest (whole n)) = (lowest_terms (whole n) (omega arith)).1 in
    record { terms = rw (lowest_whole n) at low; fine = omega arith }

pub zero-place : IsPlace (whole (pos 0))
zero-place = record { value = whole-value (pos 0); size = omega arith }

-- ---- operands within 32000

test_false : (test : Bool) (fault : Code) → (if test then Some fault else None) ≡ None → test ≡ false
test_false true fault h = absurd (cc)
test_false false fault h = refl

small-place : (a : Fraction) → IsValue a → exceeds 32000 a ≡ false → IsPlace a
small-place a h small =
    let size : unsigned_abs a.num ≤ 32000 * a.den = at_most (32000 * a.den) (unsigned_abs a.num) small in
    record { value = h; size = omega arith }

all-small : (values : List Fraction) → AllByRecursion IsValue values → list_any (exceeds 32000) values ≡ false → AllByRecursion IsPlace values
all-small [] h e = tt
all-small (a ∷ rest) h e =
    let both = or_parts (exceeds 32000 a) (list_any (exceeds 32000) rest) e in
    (small-place a h.0 both.0, all-small rest h.1 both.1)

pub sized-places : (values : List Fraction) → AllByRecursion IsValue values → size_fault values ≡ None → AllByRecursion IsPlace values
sized-places values h e = all-small values h (test_false (list_any (exceeds 32000) values) F37 e)

-- ---- points

pub moved-placed : (p : Point) (dx dy : Fraction) → IsPlaced p → IsValue dx → IsValue dy → IfOk (moved p dx dy) IsPlaced
moved-placed p dx dy h hx hy =
    bind-ok IsPlace IsPlaced (coordinate_sum p.x dx) _ (sum-place p.x dx h.x.value hx) (λ x placed_x.
    bind-ok IsPlace IsPlaced (coordinate_sum p.y dy) _ (sum-place p.y dy h.y.value hy) (λ y placed_y.
    record { x = placed_x; y = placed_y }))

-- ---- moved by zero

-- 1 divides every whole number

lowest-stays : (a : Fraction) → IsLowest a → lowest a ≡ a
unfolding lowest
lowest-stays a h =
    let one : 1 ≡ gcd (unsigned_abs a.num) a.den = gcd_is (unsigned_abs a.num) a.den 1 h.coprime in
    let divided : ◌≡◌ {A = Fraction} (record { num = int_div a.num (pos 1); den = a.den / 1 }) a = rw (div_one_abs a.num, div-one a.den) refl in
    ap (λ g. record { num = int_div a.num (pos g); den = a.den / g }) (sym one) ∙ divided

num-stays : (n : ℤ) (d : ℕ) → n *ℤ pos 1 +ℤ pos 0 *ℤ pos d ≡ n
num-stays n d =
    let a = product_is n (pos 1) in
    let b = product_is (pos 0) (pos d) in
    let s = sum_is_lem (n *ℤ pos 1) (pos 0 *ℤ pos d) in
    same_in _ _ (omega arith)

plus-stays : (a : Fraction) → plus a (whole (pos 0)) ≡ a
plus-stays a = let den : a.den * 1 ≡ a.den = omega arith in rw (num-stays a.num a.den, den) refl

within-stays : (a : Fraction) → IsPlace a → within F40 (2 ^ 20) a ≡ Ok a
within-stays a h =
    let small : exceeds (2 ^ 20) a ≡ false = not_past (2 ^ 20 * a.den) (unsigned_abs a.num) h.size in
    let coarse : is_too_fine a ≡ false = not_past (2 ^ 20) a.den h.value.fine in
    rw (small, coarse) refl

sum-stays : (a : Fraction) → IsPlace a → coordinate_sum a (whole (pos 0)) ≡ Ok a
unfolding coordinate_sum
sum-stays a h = ap (λ b. within F40 (2 ^ 20) (lowest b)) (plus-stays a) ∙ ap (within F40 (2 ^ 20)) (lowest-stays a h.value.terms) ∙ within-stays a h

point-stays : (p : Point) → IsPlaced p → moved_point origin p ≡ Ok p
point-stays p h = rw (sum-stays p.x h.x, sum-stays p.y h.y) refl

segment-stays : (s : Segment) → IsDrawn s → moved_segment origin s ≡ Ok s
segment-stays (Line start end) h = rw (point-stays start h.0, point-stays end h.1) refl
segment-stays (Curve start first second end) h =
    rw (point-stays start h.0, point-stays first h.1, point-stays second h.2, point-stays end h.3) refl

pub outline-stays : (segments : List Segment) → AllDrawn segments → Stays segments
outline-stays [] h = refl
outline-stays (s ∷ ss) h = rw (segment-stays s h.0, outline-stays ss h.1) refl
