-- Extremes of outlines within the limits.
use Rattle.std.proofs.Common.{◌≡◌, ℕ, zero, suc, ◌+◌, ◌*◌, ◌<◌, ◌≤◌, ◌^◌, List, [], ◌∷◌, map, ℤ, false, arith, refl, ap, ◌∙◌, sym}
use Rattle.std.specs.Prelude.{fold, ◌||◌, nat_lt, IfOk, Result, Ok, Err}
use Rattle.std.specs.List.{AllByRecursion, list_any, range_with_len}
use Rattle.std.specs.Int.RustNames.{unsigned_abs, FitsSigned}
use Rattle.std.proofs.lemmas.Bool.Decides.{nat_tests}
use Rattle.std.proofs.lemmas.Int.{ints}
use mir.Syntax.{w32}
use mir.Val.{to_z, of_z}
use Rattle.t1_frac.specs.Fraction.{Fraction, lowest, floor_of, ceiling_of, negated}
use Rattle.t1_frac.specs.Limits.{exceeds}
use Rattle.t1_frac.specs.declared.fault.Code.{Code}
use Rattle.t1_run.specs.declared.outline.Point.{Point}
use Rattle.t1_run.specs.declared.outline.Segment.{Segment}
use Rattle.t1_run.specs.declared.outline.Segment.TheVariants.{Line, Curve}
use Rattle.t1_run.specs.Composite.{moved_outline, IsPoint, IsWithin}
use Rattle.t1_run.proofs.Within.{each-append}
use Rattle.t1_afm.specs.Bounds.{IsInRange}
use Rattle.t1_afm.specs.Points.{points, points_of, curve_at, sixty_fourths}
use Rattle.t1_afm.proofs.Longs.{read}
use Rattle.t1_afm.proofs.Convex.{coordinate_in_range, cubic_in_range, floor_small, negated_in_range}
use Rattle.t1_extent.specs.Extremes.{point_extremes, reaching, extremes, corners, limit_check, move_check}
use Rattle.t1_extent.specs.Laws.{Summary, summary, shifted_summary, AreWithin, LimitsLaw, DrawnMovesLaw}
use Rattle.t1_extent.proofs.Canonical.{lowest_above}
use Rattle.t1_extent.proofs.Checking.{is_below, is_above, is_past, check, passed, past_fold, out_past, fold_ordered, exceeds_is}
use Rattle.t1_extent.proofs.Exacts.{exceeds_lowest}
use Rattle.t1_extent.proofs.Folding.{IsNumber, point_lowest, points_lowest, fold_lowest}
use Rattle.t1_extent.proofs.Order.{under_refl}
use Rattle.t1_extent.proofs.Summaries.{check_law, corners_points, moved_law, numbers, outline_within, distance_number}

-- ---- one fraction

size_in_range : (a : Fraction) → IsInRange a → unsigned_abs a.num ≤ 2 ^ 20 * a.den
size_in_range a h = omega (arith, ints, h.least.least, h.most.most)

at_most_test : (m n : ℕ) → n ≤ m → nat_lt m n ≡ false
at_most_test m n h = grind (arith, nat_tests)

inside : (a : Fraction) → IsInRange a → exceeds (2 ^ 20) (lowest a) ≡ false
inside a h = exceeds_lowest a h.above ∙ at_most_test (2 ^ 20 * a.den) (unsigned_abs a.num) (size_in_range a h)

-- ---- points

record IsInside (p : Point) : Type 0 where
  x : IsInRange p.x
  y : IsInRange p.y

point_past : (p : Point) → IsInside p → is_past (point_extremes p) ≡ false
point_past p h =
    ap (λ t. t || (is_below (lowest p.y) || is_above (lowest p.y))) (sym (exceeds_is (lowest p.x)) ∙ inside p.x h.x) ∙ (sym (exceeds_is (lowest p.y)) ∙ inside p.y h.y)

none_past : (ps : List Point) → AllByRecursion IsInside ps → list_any is_past (map point_extremes ps) ≡ false
none_past [] h = refl
none_past (p ∷ ps) h = ap (λ t. t || list_any is_past (map point_extremes ps)) (point_past p h.0) ∙ none_past ps h.1

inside_numbers : (ps : List Point) → AllByRecursion IsInside ps → AllByRecursion IsNumber ps
inside_numbers [] h = tt
inside_numbers (p ∷ ps) h = (record { x = h.0.x.above; y = h.0.y.above }, inside_numbers ps h.1)

points_limited : (ps : List Point) → AllByRecursion IsInside ps → limit_check (extremes ps) ≡ Ok tt
points_limited [] h = refl
points_limited (p ∷ ps) h =
    let n = inside_numbers (p ∷ ps) h in
    let first = point_extremes p in
    let rest = map point_extremes ps in
    let one = point_lowest p n.0 in
    let all = points_lowest ps n.1 in
    ap check
    (out_past (fold reaching first rest) (fold_lowest first rest one all)
    (fold_ordered first rest one all (record { x = under_refl first.left; y = under_refl first.bottom }))
    ∙ past_fold first rest one all
    ∙ ap (λ t. t || list_any is_past rest) (point_past p h.0) ∙ none_past ps h.1)

-- ---- outlines

point_inside : (p : Point) → IsPoint p → IsInside p
point_inside p h = record { x = coordinate_in_range p.x h.x; y = coordinate_in_range p.y h.y }

all_inside : (ps : List Point) → AllByRecursion IsPoint ps → AllByRecursion IsInside ps
all_inside [] h = tt
all_inside (p ∷ ps) h = (point_inside p h.0, all_inside ps h.1)

curve_inside : (a b c d : Point) (s n : ℕ) → s + n ≤ 65 → IsPoint a → IsPoint b → IsPoint c → IsPoint d → AllByRecursion IsInside (map (curve_at a b c d) (range_with_len s n))
curve_inside a b c d s zero h ha hb hc hd = tt
curve_inside a b c d s (suc n) h ha hb hc hd = (
  record {
    x = cubic_in_range a.x b.x c.x d.x s (omega (arith, h)) ha.x hb.x hc.x hd.x;
    y = cubic_in_range a.y b.y c.y d.y s (omega (arith, h)) ha.y hb.y hc.y hd.y;
  },
  curve_inside a b c d (s + 1) n (omega (arith, h)) ha hb hc hd,
)

segment_inside : (s : Segment) → IsWithin s → AllByRecursion IsInside (points_of s)
unfolding sixty_fourths
segment_inside (Line a b) h = (point_inside a h.0, (point_inside b h.1, tt))
segment_inside (Curve a b c d) h = curve_inside a b c d 0 65 (omega arith) h.0 h.1 h.2 h.3

outline_inside : (ss : List Segment) → AreWithin ss → AllByRecursion IsInside (points ss)
outline_inside [] h = tt
outline_inside (s ∷ ss) h = each-append IsInside (points_of s) (points ss) (segment_inside s h.0) (outline_inside ss h.1)

pub limits_law : LimitsLaw
limits_law outline h = (points_limited (points outline) (outline_inside outline h), points_limited (corners outline) (all_inside (corners outline) (corners_points outline h)))

-- ---- moved

drawn_moves : (by : Point) (outline : List Segment) (r : Result (List Segment) Code) → passed r ≡ Ok tt → IfOk r AreWithin
    → IfOk r (λ moved. summary moved ≡ shifted_summary by (summary outline)) → move_check by (summary outline).drawn ≡ Ok tt
drawn_moves by outline (Ok moved) e within same = ap (λ (s : Summary). limit_check s.drawn) (sym same) ∙ (limits_law moved within).0
drawn_moves by outline (Err c) e within same = let f : ◌≡◌ {A = Result (Unit {0}) Code} (Err c) (Ok tt) = e in absurd (cc)

pub drawn_moves_law : DrawnMovesLaw
drawn_moves_law by outline hb h easy e =
    drawn_moves by outline (moved_outline by outline) (check_law by outline hb h easy ∙ e) (outline_within by outline (distance_number by hb) (numbers outline h))
    (moved_law by outline hb h)

-- ---- rounding

tested : (a : Fraction) → 0 < a.den → exceeds (2 ^ 20) a ≡ false → IsInRange a
tested a above e =
    let h : unsigned_abs a.num ≤ 2 ^ 20 * a.den = grind (arith, nat_tests, e) in
    record { above = above; least = record { least = omega (arith, ints, h) }; most = record { most = omega (arith, ints, h) } }

pub floor_limited : (a : Fraction) → 0 < a.den → exceeds (2 ^ 20) (lowest a) ≡ false → unsigned_abs (floor_of (lowest a)) ≤ 2 ^ 20
floor_limited a above e = floor_small (lowest a) (tested (lowest a) (lowest_above a above) e)

pub ceiling_limited : (a : Fraction) → 0 < a.den → exceeds (2 ^ 20) (lowest a) ≡ false → unsigned_abs (ceiling_of (lowest a)) ≤ 2 ^ 20
ceiling_limited a above e =
    let k = floor_small (negated (lowest a)) (negated_in_range (lowest a) (tested (lowest a) (lowest_above a above) e)) in
    omega (arith, ints, k)

-- a number of 64 bits that is small, in 32
pub narrow_fits : (z n : ℤ) → z ≡ n → unsigned_abs n ≤ 2 ^ 20 → FitsSigned w32 (read z)
narrow_fits z n e h = rw e (omega (arith, ints, h))

pub narrow : (z n : ℤ) → z ≡ n → unsigned_abs n ≤ 2 ^ 20 → to_z w32 (of_z w32 (read z)) ≡ n
narrow z n e h = rw e (omega (arith, ints, h))
