-- The extremes of a whole outline's drawn points, from those of its ends and of its curves.
use Rattle.std.proofs.Common.{◌≡◌, List, [], ◌∷◌, ℤ, pos, ◌*ℤ◌, arith, refl, ap, ◌∙◌, sym, Some, None}
use Rattle.std.specs.Prelude.{map}
use Rattle.std.specs.Int.{int_min, int_max}
use Rattle.std.specs.List.{reduce, AllByRecursion}
use Rattle.t1_frac.specs.Fraction.{Fraction, lowest, whole}
use Rattle.t1_run.specs.declared.outline.Point.{Point}
use Rattle.t1_run.specs.declared.outline.Segment.{Segment}
use Rattle.t1_run.specs.declared.outline.Segment.TheVariants.{Line, Curve}
use Rattle.t1_run.specs.Composite.{IsWithin}
use Rattle.t1_afm.specs.Differences.{picked_sum, least_sum, greatest_sum}
use Rattle.t1_afm.specs.Points.{points_of, points}
use Rattle.t1_afm.specs.CubicValues.{cubic_values}
use Rattle.t1_extent.specs.declared.sides.Sides.{Sides}
use Rattle.t1_extent.specs.Ends.{ends_of, ends, bends_of, bends}
use Rattle.t1_extent.specs.Extremes.{Extremes, lesser, greater, extremes, unite_extremes, IsWhole, IsWholeSegment}
use Rattle.t1_extent.specs.Laws.{AreWithin}
use Rattle.t1_extent.specs.Sides.{in_lowest_terms, extremes_over}
use Rattle.t1_extent.proofs.Curves.{curve_extremes, same_least, same_greatest}
use Rattle.t1_extent.proofs.Folding.{IsNumber, AreLowest, same_extremes}
use Rattle.t1_extent.proofs.Holding.{least_of_ends, greatest_of_ends}
use Rattle.t1_extent.proofs.Moving.{AreNumbers, segment_numbers}
use Rattle.t1_extent.proofs.Order.{canonical}
use Rattle.t1_extent.proofs.Siding.{cubed}
use Rattle.t1_extent.proofs.Summaries.{within_numbers}
use Rattle.t1_extent.proofs.Sums.{lesser_over, greater_over, least_of_values, greatest_of_values}
use Rattle.t1_extent.proofs.Uniting.{IsUnion, outlines_united}
use Rattle.t1_afm.proofs.Ends.{with_den}

-- ---- one axis

as_whole : (a : Fraction) → a.den ≡ 1 → whole a.num ≡ a
as_whole a e = with_den a.num 1 a.den (sym e)

least_axis : (a b c d : Fraction) → a.den ≡ 1 → b.den ≡ 1 → c.den ≡ 1 → d.den ≡ 1
    → reduce lesser (map lowest (cubic_values a b c d)) ≡ Some (in_lowest_terms 262144 (least_sum a.num b.num c.num d.num))
least_axis a b c d ha hb hc hd =
    same_least a b c d _ _ _ _ (as_whole a ha) (as_whole b hb) (as_whole c hc) (as_whole d hd) ∙ least_of_values a.num b.num c.num d.num

greatest_axis : (a b c d : Fraction) → a.den ≡ 1 → b.den ≡ 1 → c.den ≡ 1 → d.den ≡ 1
    → reduce greater (map lowest (cubic_values a b c d)) ≡ Some (in_lowest_terms 262144 (greatest_sum a.num b.num c.num d.num))
greatest_axis a b c d ha hb hc hd =
    same_greatest a b c d _ _ _ _ (as_whole a ha) (as_whole b hb) (as_whole c hc) (as_whole d hd) ∙ greatest_of_values a.num b.num c.num d.num

low_with : (low n x : ℤ) → x ≡ int_min low n → in_lowest_terms 262144 x ≡ lesser (in_lowest_terms 262144 low) (in_lowest_terms 262144 n)
low_with low n x e = ap (in_lowest_terms 262144) e ∙ sym (lesser_over 262144 low n (omega arith))

high_with : (high n x : ℤ) → x ≡ int_max high n → in_lowest_terms 262144 x ≡ greater (in_lowest_terms 262144 high) (in_lowest_terms 262144 n)
high_with high n x e = ap (in_lowest_terms 262144) e ∙ sym (greater_over 262144 high n (omega arith))

low_ends : (a b c d : Fraction) → a.den ≡ 1 → d.den ≡ 1
    → lesser (lesser (lowest a) (lowest d)) (in_lowest_terms 262144 (least_sum a.num b.num c.num d.num)) ≡ in_lowest_terms 262144 (least_sum a.num b.num c.num d.num)
low_ends a b c d ha hd =
    let n = least_sum a.num b.num c.num d.num in
    ap (λ x. lesser (lesser x (lowest d)) (in_lowest_terms 262144 n)) (sym (cubed a ha)) ∙ ap (λ x. lesser (lesser (in_lowest_terms 262144 (pos 262144 *ℤ a.num)) x) (in_lowest_terms 262144 n)) (sym (cubed d hd))
    ∙ ap (λ x. lesser x (in_lowest_terms 262144 n)) (lesser_over 262144 (pos 262144 *ℤ a.num) (pos 262144 *ℤ d.num) (omega arith))
    ∙ lesser_over 262144 (int_min (pos 262144 *ℤ a.num) (pos 262144 *ℤ d.num)) n (omega arith)
    ∙ ap (in_lowest_terms 262144) (least_of_ends a.num b.num c.num d.num)

high_ends : (a b c d : Fraction) → a.den ≡ 1 → d.den ≡ 1
    → greater (greater (lowest a) (lowest d)) (in_lowest_terms 262144 (greatest_sum a.num b.num c.num d.num)) ≡ in_lowest_terms 262144 (greatest_sum a.num b.num c.num d.num)
high_ends a b c d ha hd =
    let n = greatest_sum a.num b.num c.num d.num in
    ap (λ x. greater (greater x (lowest d)) (in_lowest_terms 262144 n)) (sym (cubed a ha)) ∙ ap (λ x. greater (greater (in_lowest_terms 262144 (pos 262144 *ℤ a.num)) x) (in_lowest_terms 262144 n)) (sym (cubed d hd))
    ∙ ap (λ x. greater x (in_lowest_terms 262144 n)) (greater_over 262144 (pos 262144 *ℤ a.num) (pos 262144 *ℤ d.num) (omega arith))
    ∙ greater_over 262144 (int_max (pos 262144 *ℤ a.num) (pos 262144 *ℤ d.num)) n (omega arith)
    ∙ ap (in_lowest_terms 262144) (greatest_of_ends a.num b.num c.num d.num)

-- of numbers that are these
pub same_reach : (pick : ℤ → ℤ → ℤ) (x n m a b c d p q r s : ℤ) → x ≡ pick n (picked_sum pick p q r s) → n ≡ m → p ≡ a → q ≡ b → r ≡ c → s ≡ d
    → x ≡ pick m (picked_sum pick a b c d)
same_reach pick x n m a b c d p q r s e is f g h k = rw (is, f, g, h, k) at e

-- ---- curves

-- the extremes of a curve between whole coordinates
abbrev pub bend : Point → Point → Point → Point → Extremes
bend a b c d = record {
  left = in_lowest_terms 262144 (least_sum a.x.num b.x.num c.x.num d.x.num);
  bottom = in_lowest_terms 262144 (least_sum a.y.num b.y.num c.y.num d.y.num);
  right = in_lowest_terms 262144 (greatest_sum a.x.num b.x.num c.x.num d.x.num);
  top = in_lowest_terms 262144 (greatest_sum a.y.num b.y.num c.y.num d.y.num);
}

pub bend_is : (a b c d : Point) → IsWhole a → IsWhole b → IsWhole c → IsWhole d → Some (bend a b c d) ≡ extremes (points_of (Curve a b c d))
bend_is a b c d ha hb hc hd =
    curve_extremes a b c d _ _ _ _
    (least_axis a.x b.x c.x d.x ha.x hb.x hc.x hd.x) (least_axis a.y b.y c.y d.y ha.y hb.y hc.y hd.y)
    (greatest_axis a.x b.x c.x d.x ha.x hb.x hc.x hd.x) (greatest_axis a.y b.y c.y d.y ha.y hb.y hc.y hd.y)

-- extremes with those of a curve
pub with_bend : (a b c d : Point) (l r t u l' r' t' u' : ℤ) → IsWhole a → IsWhole b → IsWhole c → IsWhole d
    → l' ≡ int_min l (least_sum a.x.num b.x.num c.x.num d.x.num) → r' ≡ int_min r (least_sum a.y.num b.y.num c.y.num d.y.num)
    → t' ≡ int_max t (greatest_sum a.x.num b.x.num c.x.num d.x.num) → u' ≡ int_max u (greatest_sum a.y.num b.y.num c.y.num d.y.num)
    → Some (record { left = in_lowest_terms 262144 l'; bottom = in_lowest_terms 262144 r'; right = in_lowest_terms 262144 t'; top = in_lowest_terms 262144 u' })
    ≡ unite_extremes (Some (record { left = in_lowest_terms 262144 l; bottom = in_lowest_terms 262144 r; right = in_lowest_terms 262144 t; top = in_lowest_terms 262144 u })) (extremes (points_of (Curve a b c d)))
with_bend a b c d l r t u l' r' t' u' ha hb hc hd e f g h =
    ap Some (same_extremes _ _ _ _ _ _ _ _ (low_with l _ l' e) (low_with r _ r' f) (high_with t _ t' g) (high_with u _ u' h))
    ∙ ap (unite_extremes (Some (record { left = in_lowest_terms 262144 l; bottom = in_lowest_terms 262144 r; right = in_lowest_terms 262144 t; top = in_lowest_terms 262144 u }))) (bend_is a b c d ha hb hc hd)

pub ends_in_bend : (a b c d : Point) → IsWhole a → IsWhole b → IsWhole c → IsWhole d
    → unite_extremes (extremes (a ∷ d ∷ [])) (extremes (points_of (Curve a b c d))) ≡ extremes (points_of (Curve a b c d))
ends_in_bend a b c d ha hb hc hd =
    let is = bend_is a b c d ha hb hc hd in
    ap (unite_extremes (extremes (a ∷ d ∷ []))) (sym is)
    ∙ ap Some (same_extremes _ _ _ _ _ _ _ _ (low_ends a.x b.x c.x d.x ha.x hd.x) (low_ends a.y b.y c.y d.y ha.y hd.y) (high_ends a.x b.x c.x d.x ha.x hd.x) (high_ends a.y b.y c.y d.y ha.y hd.y))
    ∙ is

-- ---- outlines

pub sides_lowest : (s : Sides 38) → AreLowest (extremes_over 262144 s)
sides_lowest s = record {
  left = canonical (record { num = s.left; den = 262144 }) (omega arith);
  bottom = canonical (record { num = s.bottom; den = 262144 }) (omega arith);
  right = canonical (record { num = s.right; den = 262144 }) (omega arith);
  top = canonical (record { num = s.top; den = 262144 }) (omega arith);
}

pub ends_numbers : (s : Segment) → AreNumbers s → AllByRecursion IsNumber (ends_of s)
ends_numbers (Line a b) h = (h.0, (h.1, tt))
ends_numbers (Curve a b c d) h = (h.0, (h.3, tt))

pub bends_numbers : (s : Segment) → AreNumbers s → AllByRecursion IsNumber (bends_of s)
bends_numbers (Line a b) h = tt
bends_numbers (Curve a b c d) h = segment_numbers (Curve a b c d) h

ends_and_bends : (s : Segment) → IsWithin s → IsWholeSegment s → IsUnion ends_of bends_of points_of s
ends_and_bends (Line a b) h k =
    let n = within_numbers (Line a b) h in
    record { one = ends_numbers (Line a b) n; other = tt; both = segment_numbers (Line a b) n; united = refl }
ends_and_bends (Curve a b c d) h k =
    let n = within_numbers (Curve a b c d) h in
    record {
      one = ends_numbers (Curve a b c d) n;
      other = segment_numbers (Curve a b c d) n;
      both = segment_numbers (Curve a b c d) n;
      united = ends_in_bend a b c d k.0 k.1 k.2 k.3;
    }

each_union : (ss : List Segment) → AreWithin ss → AllByRecursion IsWholeSegment ss → AllByRecursion (IsUnion ends_of bends_of points_of) ss
each_union [] h k = tt
each_union (s ∷ ss) h k = (ends_and_bends s h.0 k.0, each_union ss h.1 k.1)

pub drawn_united : (ss : List Segment) → AreWithin ss → AllByRecursion IsWholeSegment ss → unite_extremes (extremes (ends ss)) (extremes (bends ss)) ≡ extremes (points ss)
drawn_united ss h k = outlines_united ends_of bends_of points_of ss (each_union ss h k)

-- what has no ends draws nothing
pub no_ends : (ss : List Segment) → extremes (ends ss) ≡ None → extremes (points ss) ≡ None
no_ends [] e = refl
no_ends (Line a b ∷ ss) e = absurd (cc)
no_ends (Curve a b c d ∷ ss) e = absurd (cc)

pub drawn_is : (drawn with_bends on_ends : Extremes) (ss : List Segment) → AreWithin ss → AllByRecursion IsWholeSegment ss → drawn ≡ with_bends
    → Some with_bends ≡ unite_extremes (Some on_ends) (extremes (bends ss)) → Some on_ends ≡ extremes (ends ss) → Some drawn ≡ extremes (points ss)
drawn_is drawn with_bends on_ends ss h k e f g = ap Some e ∙ f ∙ ap (λ x. unite_extremes x (extremes (bends ss))) g ∙ drawn_united ss h k
