-- The least and the greatest of a cubic's values, which have one denominator.
use Rattle.std.proofs.Common.{◌≡◌, ℕ, ◌+◌, ◌*◌, ◌≤◌, ◌<◌, ℤ, arith, ap, ap₂, sym, ◌∙◌, subst, map, refl}
use Rattle.std.specs.Int.{int_min, int_max}
use Rattle.std.proofs.lemmas.Int.{int_min_is, int_max_is}
use borrow.Author.Differences.{up, down, same_in}
use Rattle.t1_frac.specs.Fraction.{Fraction, floor_of, ceiling_of}
use Rattle.t1_afm.specs.declared.ratio.Ratio.{Ratio}
use Rattle.t1_afm.specs.declared.span.Span.{Span}
use Rattle.t1_afm.specs.Spans.{span_of, span_around, span_around_one}
use Rattle.t1_afm.specs.Bounds.{IsInRange, fraction_of, over_den}
use Rattle.t1_afm.proofs.Between.{IsBelow, least_from_floor, floor_from_least, most_from_ceiling, ceiling_from_most, same_span}
use Rattle.t1_afm.specs.Points.{sixty_fourths}
use Rattle.t1_afm.proofs.Spans.{Spans, Spans-first, Spans-next}

-- ---- rounded, the order stays

floor_stays : (x y : ℤ) (d : ℕ) → 0 < d → IsBelow x y → IsBelow (floor_of (over_den d x)) (floor_of (over_den d y))
floor_stays x y d some h =
    let q = floor_of (over_den d x) in
    let l = least_from_floor q (over_den d x) some (record { below = omega arith }) in
    floor_from_least q (over_den d y) some (record { least = omega (arith, h.below, l.least) })

floor_least : (x y : ℤ) (d : ℕ) → 0 < d → floor_of (over_den d (int_min x y)) ≡ int_min (floor_of (over_den d x)) (floor_of (over_den d y))
floor_least x y d some =
    let m = int_min x y in
    let f = floor_of (over_den d x) in
    let g = floor_of (over_den d y) in
    let q = int_min f g in
    let a = floor_stays m x d some (record { below = omega (arith, int_min_is x y) }) in
    let b = floor_stays m y d some (record { below = omega (arith, int_min_is x y) }) in
    let k = least_from_floor q (over_den d x) some (record { below = omega (arith, int_min_is f g) }) in
    let l = least_from_floor q (over_den d y) some (record { below = omega (arith, int_min_is f g) }) in
    let c = floor_from_least q (over_den d m) some (record { least = omega (arith, int_min_is x y, k.least, l.least) }) in
    same_in _ _ (omega (arith, a.below, b.below, c.below, int_min_is f g))

ceiling_stays : (x y : ℤ) (d : ℕ) → 0 < d → IsBelow x y → IsBelow (ceiling_of (over_den d x)) (ceiling_of (over_den d y))
ceiling_stays x y d some h =
    let q = ceiling_of (over_den d y) in
    let l = most_from_ceiling q (over_den d y) some (record { below = omega arith }) in
    ceiling_from_most q (over_den d x) some (record { most = omega (arith, h.below, l.most) })

ceiling_greatest : (x y : ℤ) (d : ℕ) → 0 < d → ceiling_of (over_den d (int_max x y)) ≡ int_max (ceiling_of (over_den d x)) (ceiling_of (over_den d y))
ceiling_greatest x y d some =
    let m = int_max x y in
    let f = ceiling_of (over_den d x) in
    let g = ceiling_of (over_den d y) in
    let q = int_max f g in
    let a = ceiling_stays x m d some (record { below = omega (arith, int_max_is x y) }) in
    let b = ceiling_stays y m d some (record { below = omega (arith, int_max_is x y) }) in
    let k = most_from_ceiling q (over_den d x) some (record { below = omega (arith, int_max_is f g) }) in
    let l = most_from_ceiling q (over_den d y) some (record { below = omega (arith, int_max_is f g) }) in
    let c = ceiling_from_most q (over_den d m) some (record { most = omega (arith, int_max_is x y, k.most, l.most) }) in
    same_in _ _ (omega (arith, a.below, b.below, c.below, int_max_is f g))

-- ---- the least and the greatest so far

least_in_range : (x y : ℤ) (d : ℕ) → IsInRange (over_den d x) → IsInRange (over_den d y) → IsInRange (over_den d (int_min x y))
least_in_range x y d h k = record {
  above = h.above;
  least = record { least = omega (arith, int_min_is x y, h.least.least, k.least.least) };
  most = record { most = omega (arith, int_min_is x y, h.most.most, k.most.most) };
}

greatest_in_range : (x y : ℤ) (d : ℕ) → IsInRange (over_den d x) → IsInRange (over_den d y) → IsInRange (over_den d (int_max x y))
greatest_in_range x y d h k = record {
  above = h.above;
  least = record { least = omega (arith, int_max_is x y, h.least.least, k.least.least) };
  most = record { most = omega (arith, int_max_is x y, h.most.most, k.most.most) };
}

abbrev pub rounded : Ratio → Ratio → Span
rounded least greatest = record { low = floor_of (fraction_of least); high = ceiling_of (fraction_of greatest) }

-- the least and the greatest value so far, over the denominator of all, and the span that they and those that are left have
pub record AreExtremes (f : ℕ → Fraction) (d k : ℕ) (least greatest : Ratio) (whole : Span) : Type 0 where
  pub low_den : least.den ≡ d
  pub high_den : greatest.den ≡ d
  pub low : IsInRange (fraction_of least)
  pub high : IsInRange (fraction_of greatest)
  pub spans : Spans f k (rounded least greatest) whole

-- what a ratio is, by its numerator and its denominator
is_over : (r : Ratio) (n : ℤ) (d : ℕ) → r.num ≡ n → r.den ≡ d → fraction_of r ≡ over_den d n
is_over r n d e g = rw (e, g) refl

pub extremes_first : (f : ℕ → Fraction) (value : Ratio) → fraction_of value ≡ f 0 → IsInRange (fraction_of value)
    → AreExtremes f (f 0).den 1 value value (span_of (map f sixty_fourths))
extremes_first f value is range = record {
  low_den = ap (λ (a : Fraction). a.den) is;
  high_den = ap (λ (a : Fraction). a.den) is;
  low = range;
  high = range;
  spans = subst (λ (t : Span). Spans f 1 t (span_of (map f sixty_fourths))) (ap span_around_one (sym is)) (Spans-first f);
}

pub extremes_next : (f : ℕ → Fraction) (d k : ℕ) (least greatest value low high : Ratio) (whole : Span) → k < 65
    → value.den ≡ d → fraction_of value ≡ f k → IsInRange (fraction_of value)
    → low.num ≡ int_min least.num value.num → low.den ≡ least.den
    → high.num ≡ int_max greatest.num value.num → high.den ≡ greatest.den
    → AreExtremes f d k least greatest whole → AreExtremes f d (k + 1) low high whole
extremes_next f d k least greatest value low high whole inside den is range low_num low_den high_num high_den h =
    let l = is_over least least.num d refl h.low_den in
    let g = is_over greatest greatest.num d refl h.high_den in
    let v = is_over value value.num d refl den in
    let l' = is_over low _ d low_num (low_den ∙ h.low_den) in
    let g' = is_over high _ d high_num (high_den ∙ h.high_den) in
    let lr = subst IsInRange l h.low in
    let gr = subst IsInRange g h.high in
    let vr = subst IsInRange v range in
    let low_is = ap floor_of l' ∙ floor_least least.num value.num d lr.above in
    let high_is = ap ceiling_of g' ∙ ceiling_greatest greatest.num value.num d gr.above in
    let next = Spans-next f k (rounded least greatest) whole inside h.spans in
    record {
      low_den = low_den ∙ h.low_den;
      high_den = high_den ∙ h.high_den;
      low = subst IsInRange (sym l') (least_in_range _ _ d lr vr);
      high = subst IsInRange (sym g') (greatest_in_range _ _ d gr vr);
      spans = subst (λ (t : Span). Spans f (k + 1) t whole) (step least greatest value low high f k d is l g v low_is high_is) next;
    }
  where
    step : (least greatest value low high : Ratio) (f : ℕ → Fraction) (k d : ℕ) → fraction_of value ≡ f k
        → fraction_of least ≡ over_den d least.num → fraction_of greatest ≡ over_den d greatest.num → fraction_of value ≡ over_den d value.num
        → floor_of (fraction_of low) ≡ int_min (floor_of (over_den d least.num)) (floor_of (over_den d value.num))
        → ceiling_of (fraction_of high) ≡ int_max (ceiling_of (over_den d greatest.num)) (ceiling_of (over_den d value.num))
        → span_around (rounded least greatest) (span_around_one (f k)) ≡ rounded low high
    step least greatest value low high f k d is l g v a b =
        ap (λ (x : Fraction). span_around (rounded least greatest) (span_around_one x)) (sym is)
        ∙ same_span _ _ _ _ (ap₂ (λ (x y : Fraction). int_min (floor_of x) (floor_of y)) l v ∙ sym a) (ap₂ (λ (x y : Fraction). int_max (ceiling_of x) (ceiling_of y)) g v ∙ sym b)
