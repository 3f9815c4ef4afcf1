-- Where the ends of an outline reach as far as all its points, so do its curves.
use Rattle.std.proofs.Common.{◌≡◌, List, [], ◌∷◌, ℤ, pos, ◌*ℤ◌, Bool, true, false, arith, refl, ap, ◌∙◌, sym, Some, None}
use Rattle.std.specs.Prelude.{if◌then◌else◌}
use Rattle.std.specs.Int.{int_min, int_max}
use Rattle.std.specs.List.{AllByRecursion}
use Rattle.t1_frac.specs.Fraction.{Fraction, lowest, whole}
use Rattle.t1_run.specs.declared.outline.Point.{Point}
use Rattle.t1_run.specs.declared.outline.Segment.{Segment}
use Rattle.t1_run.specs.declared.outline.Segment.TheVariants.{Line, Curve}
use Rattle.t1_run.specs.Composite.{IsWithin}
use Rattle.t1_afm.specs.Differences.{least_sum, greatest_sum}
use Rattle.t1_afm.specs.Points.{points_of, points}
use Rattle.t1_extent.specs.declared.sides.Sides.{Sides}
use Rattle.t1_extent.specs.Ends.{ends_of, ends}
use Rattle.t1_extent.specs.Extremes.{Extremes, is_less, lesser, greater, reaching, extremes, unite_extremes, corners_of, corners, IsWhole, IsWholeSegment}
use Rattle.t1_extent.specs.Laws.{AreWithin}
use Rattle.t1_extent.specs.Sides.{in_lowest_terms, whole_extremes}
use Rattle.t1_extent.proofs.Bending.{bend_is, ends_in_bend, ends_numbers}
use Rattle.t1_afm.proofs.EndSums.{min_multiple, max_multiple}
use Rattle.t1_extent.proofs.Folding.{same_extremes}
use Rattle.t1_extent.proofs.Holding.{least_in_hull, greatest_in_hull}
use Rattle.t1_extent.proofs.Moving.{segment_numbers, corner_numbers, outline_numbers, corners_numbers}
use Rattle.t1_extent.proofs.Siding.{cubed}
use Rattle.t1_extent.proofs.Summaries.{within_numbers, numbers}
use Rattle.t1_extent.proofs.Sums.{lesser_over, greater_over}
use Rattle.t1_extent.proofs.Uniting.{IsUnion, outlines_united, extremes_lowest, unite_turned}

-- ---- the same twice

lesser_again : (a : Fraction) → lesser a a ≡ a
lesser_again a = by (is_less a a)
  where
    by : (t : Bool) → (if t then a else a) ≡ a
    by true = refl
    by false = refl

greater_again : (a : Fraction) → greater a a ≡ a
greater_again a = by (is_less a a)
  where
    by : (t : Bool) → (if t then a else a) ≡ a
    by true = refl
    by false = refl

pub reaching_again : (e : Extremes) → reaching e e ≡ e
reaching_again e = same_extremes _ _ _ _ _ _ _ _ (lesser_again e.left) (lesser_again e.bottom) (greater_again e.right) (greater_again e.top)

-- ---- one axis

lesser_multiple : (a b : ℤ) → lesser (in_lowest_terms 262144 (pos 262144 *ℤ a)) (in_lowest_terms 262144 (pos 262144 *ℤ b)) ≡ in_lowest_terms 262144 (pos 262144 *ℤ int_min a b)
lesser_multiple a b = lesser_over 262144 (pos 262144 *ℤ a) (pos 262144 *ℤ b) (omega arith) ∙ ap (in_lowest_terms 262144) (min_multiple a b)

greater_multiple : (a b : ℤ) → greater (in_lowest_terms 262144 (pos 262144 *ℤ a)) (in_lowest_terms 262144 (pos 262144 *ℤ b)) ≡ in_lowest_terms 262144 (pos 262144 *ℤ int_max a b)
greater_multiple a b = greater_over 262144 (pos 262144 *ℤ a) (pos 262144 *ℤ b) (omega arith) ∙ ap (in_lowest_terms 262144) (max_multiple a b)

-- the least and the greatest of four, one after another
abbrev low_of : Fraction → Fraction → Fraction → Fraction → Fraction
low_of p q r s = lesser (lesser (lesser p q) r) s

abbrev high_of : Fraction → Fraction → Fraction → Fraction → Fraction
high_of p q r s = greater (greater (greater p q) r) s

low_four : (p q r s : Fraction) (a b c d : ℤ) → p ≡ in_lowest_terms 262144 (pos 262144 *ℤ a) → q ≡ in_lowest_terms 262144 (pos 262144 *ℤ b) → r ≡ in_lowest_terms 262144 (pos 262144 *ℤ c) → s ≡ in_lowest_terms 262144 (pos 262144 *ℤ d)
    → low_of p q r s ≡ in_lowest_terms 262144 (pos 262144 *ℤ int_min (int_min (int_min a b) c) d)
low_four p q r s a b c d e f g h =
    ap (λ x. low_of x q r s) e ∙ ap (λ x. low_of (in_lowest_terms 262144 (pos 262144 *ℤ a)) x r s) f ∙ ap (λ x. lesser (lesser x r) s) (lesser_multiple a b)
    ∙ ap (λ x. lesser (lesser (in_lowest_terms 262144 (pos 262144 *ℤ int_min a b)) x) s) g ∙ ap (λ x. lesser x s) (lesser_multiple (int_min a b) c)
    ∙ ap (lesser (in_lowest_terms 262144 (pos 262144 *ℤ int_min (int_min a b) c))) h ∙ lesser_multiple (int_min (int_min a b) c) d

high_four : (p q r s : Fraction) (a b c d : ℤ) → p ≡ in_lowest_terms 262144 (pos 262144 *ℤ a) → q ≡ in_lowest_terms 262144 (pos 262144 *ℤ b) → r ≡ in_lowest_terms 262144 (pos 262144 *ℤ c) → s ≡ in_lowest_terms 262144 (pos 262144 *ℤ d)
    → high_of p q r s ≡ in_lowest_terms 262144 (pos 262144 *ℤ int_max (int_max (int_max a b) c) d)
high_four p q r s a b c d e f g h =
    ap (λ x. high_of x q r s) e ∙ ap (λ x. high_of (in_lowest_terms 262144 (pos 262144 *ℤ a)) x r s) f ∙ ap (λ x. greater (greater x r) s) (greater_multiple a b)
    ∙ ap (λ x. greater (greater (in_lowest_terms 262144 (pos 262144 *ℤ int_max a b)) x) s) g ∙ ap (λ x. greater x s) (greater_multiple (int_max a b) c)
    ∙ ap (greater (in_lowest_terms 262144 (pos 262144 *ℤ int_max (int_max a b) c))) h ∙ greater_multiple (int_max (int_max a b) c) d

low_hull : (a b c d : Fraction) → a.den ≡ 1 → b.den ≡ 1 → c.den ≡ 1 → d.den ≡ 1
    → lesser (in_lowest_terms 262144 (least_sum a.num b.num c.num d.num)) (low_of (lowest a) (lowest b) (lowest c) (lowest d)) ≡ low_of (lowest a) (lowest b) (lowest c) (lowest d)
low_hull a b c d ha hb hc hd =
    let four = low_four (lowest a) (lowest b) (lowest c) (lowest d) a.num b.num c.num d.num (sym (cubed a ha)) (sym (cubed b hb)) (sym (cubed c hc)) (sym (cubed d hd)) in
    ap (lesser (in_lowest_terms 262144 (least_sum a.num b.num c.num d.num))) four
    ∙ lesser_over 262144 (least_sum a.num b.num c.num d.num) (pos 262144 *ℤ int_min (int_min (int_min a.num b.num) c.num) d.num) (omega arith)
    ∙ ap (in_lowest_terms 262144) (least_in_hull a.num b.num c.num d.num) ∙ sym four

high_hull : (a b c d : Fraction) → a.den ≡ 1 → b.den ≡ 1 → c.den ≡ 1 → d.den ≡ 1
    → greater (in_lowest_terms 262144 (greatest_sum a.num b.num c.num d.num)) (high_of (lowest a) (lowest b) (lowest c) (lowest d)) ≡ high_of (lowest a) (lowest b) (lowest c) (lowest d)
high_hull a b c d ha hb hc hd =
    let four = high_four (lowest a) (lowest b) (lowest c) (lowest d) a.num b.num c.num d.num (sym (cubed a ha)) (sym (cubed b hb)) (sym (cubed c hc)) (sym (cubed d hd)) in
    ap (greater (in_lowest_terms 262144 (greatest_sum a.num b.num c.num d.num))) four
    ∙ greater_over 262144 (greatest_sum a.num b.num c.num d.num) (pos 262144 *ℤ int_max (int_max (int_max a.num b.num) c.num) d.num) (omega arith)
    ∙ ap (in_lowest_terms 262144) (greatest_in_hull a.num b.num c.num d.num) ∙ sym four

bend_in_hull : (a b c d : Point) → IsWhole a → IsWhole b → IsWhole c → IsWhole d
    → unite_extremes (extremes (points_of (Curve a b c d))) (extremes (a ∷ b ∷ c ∷ d ∷ [])) ≡ extremes (a ∷ b ∷ c ∷ d ∷ [])
bend_in_hull a b c d ha hb hc hd =
    ap (λ e. unite_extremes e (extremes (a ∷ b ∷ c ∷ d ∷ []))) (sym (bend_is a b c d ha hb hc hd))
    ∙ ap Some (same_extremes _ _ _ _ _ _ _ _
    (low_hull a.x b.x c.x d.x ha.x hb.x hc.x hd.x) (low_hull a.y b.y c.y d.y ha.y hb.y hc.y hd.y)
    (high_hull a.x b.x c.x d.x ha.x hb.x hc.x hd.x) (high_hull a.y b.y c.y d.y ha.y hb.y hc.y hd.y))

-- ---- outlines

ends_in_points : (s : Segment) → IsWithin s → IsWholeSegment s → IsUnion ends_of points_of points_of s
ends_in_points (Line a b) h k =
    let n = segment_numbers (Line a b) (within_numbers (Line a b) h) in
    record { one = n; other = n; both = n; united = ap Some (reaching_again _) }
ends_in_points (Curve a b c d) h k =
    let n = within_numbers (Curve a b c d) h in
    let p = segment_numbers (Curve a b c d) n in
    record { one = ends_numbers (Curve a b c d) n; other = p; both = p; united = ends_in_bend a b c d k.0 k.1 k.2 k.3 }

points_in_corners : (s : Segment) → IsWithin s → IsWholeSegment s → IsUnion points_of corners_of corners_of s
points_in_corners (Line a b) h k =
    let n = segment_numbers (Line a b) (within_numbers (Line a b) h) in
    record { one = n; other = n; both = n; united = ap Some (reaching_again _) }
points_in_corners (Curve a b c d) h k =
    let n = within_numbers (Curve a b c d) h in
    let p = corner_numbers (Curve a b c d) n in
    record { one = segment_numbers (Curve a b c d) n; other = p; both = p; united = bend_in_hull a b c d k.0 k.1 k.2 k.3 }

each_of : (P : Segment → Type 0) (ss : List Segment) → ((s : Segment) → IsWithin s → IsWholeSegment s → P s) → AreWithin ss → AllByRecursion IsWholeSegment ss → AllByRecursion P ss
each_of P [] f h k = tt
each_of P (s ∷ ss) f h k = (f s h.0 k.0, each_of P ss f h.1 k.1)

-- what lies between two that are the same is the same
pub squeezed : (whole ended reached : Extremes) (ss : List Segment) → AreWithin ss → AllByRecursion IsWholeSegment ss
    → Some reached ≡ extremes (corners ss) → Some ended ≡ extremes (ends ss) → ended ≡ reached → whole ≡ reached → Some whole ≡ extremes (points ss)
squeezed whole ended reached ss h k c e same is =
    let n = numbers ss h in
    ap Some is ∙ c
    ∙ sym (outlines_united points_of corners_of corners_of ss (each_of (IsUnion points_of corners_of corners_of) ss points_in_corners h k))
    ∙ unite_turned (extremes (points ss)) (extremes (corners ss)) (extremes_lowest (points ss) (outline_numbers ss n)) (extremes_lowest (corners ss) (corners_numbers ss n))
    ∙ ap (λ x. unite_extremes x (extremes (points ss))) (sym c ∙ ap Some (sym same) ∙ e)
    ∙ outlines_united ends_of points_of points_of ss (each_of (IsUnion ends_of points_of points_of) ss ends_in_points h k)

-- the numerators of whole coordinates
pub same_sides : (left bottom right top : ℤ) (s : Sides 20) → left ≡ pos 262144 *ℤ s.left → bottom ≡ pos 262144 *ℤ s.bottom → right ≡ pos 262144 *ℤ s.right → top ≡ pos 262144 *ℤ s.top
    → record { left = in_lowest_terms 262144 left; bottom = in_lowest_terms 262144 bottom; right = in_lowest_terms 262144 right; top = in_lowest_terms 262144 top } ≡ whole_extremes s
same_sides left bottom right top s e f g h =
    same_extremes _ _ _ _ _ _ _ _
    (ap (in_lowest_terms 262144) e ∙ cubed (whole s.left) refl) (ap (in_lowest_terms 262144) f ∙ cubed (whole s.bottom) refl) (ap (in_lowest_terms 262144) g ∙ cubed (whole s.right) refl) (ap (in_lowest_terms 262144) h ∙ cubed (whole s.top) refl)

-- what has no corners draws nothing
pub no_corners : (ss : List Segment) → extremes (corners ss) ≡ None → extremes (points ss) ≡ None
no_corners [] e = refl
no_corners (Line a b ∷ ss) e = absurd (cc)
no_corners (Curve a b c d ∷ ss) e = absurd (cc)
