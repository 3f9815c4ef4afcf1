-- A span that holds the points of a line or of a cubic is the span around both.
use Rattle.std.proofs.Common.{◌≡◌, ℕ, ◌<◌, ◌≤◌, ℤ, List, [], ◌∷◌, map, arith, sym, ◌∙◌}
use Rattle.std.specs.Prelude.{fold}
use Rattle.std.specs.Int.{int_min, int_max}
use Rattle.std.specs.List.{range_with_len}
use Rattle.std.proofs.lemmas.Int.{int_min_is, int_max_is}
use borrow.Author.Differences.{same_in}
use Rattle.t1_frac.specs.Fraction.{Fraction, floor_of, ceiling_of}
use Rattle.t1_frac.specs.Limits.{IsCoordinate}
use Rattle.t1_afm.specs.declared.span.Span.{Span}
use Rattle.t1_afm.specs.Points.{cubic_at, sixty_fourths}
use Rattle.t1_afm.specs.CubicValues.{cubic_values}
use Rattle.t1_afm.specs.Box.{least, greatest}
use Rattle.t1_afm.specs.Spans.{span_of, span_around, span_around_one}
use Rattle.t1_afm.specs.Bounds.{IsHeld}
use Rattle.t1_afm.proofs.Between.{IsBelow, AllAbove, AllBelow, above_range, below_range, floor_from_least, ceiling_from_most, same_span, values_above, values_below}
use Rattle.t1_afm.proofs.Boxes.{int_min_assoc, int_max_assoc}

min_kept : (m x : ℤ) → IsBelow m x → m ≡ int_min m x
min_kept m x h = same_in _ _ (omega (arith, int_min_is m x, h.below))

max_kept : (m x : ℤ) → IsBelow x m → m ≡ int_max m x
max_kept m x h = same_in _ _ (omega (arith, int_max_is m x, h.below))

pub held_one : (s : Span) (a : Fraction) → IsCoordinate a → IsHeld s a → s ≡ span_around s (span_around_one a)
held_one s a ha h =
    same_span s.low _ s.high _ (min_kept s.low (floor_of a) (floor_from_least s.low a ha.above h.least)) (max_kept s.high (ceiling_of a) (ceiling_from_most s.high a ha.above h.most))

pub around_two : (s t u : Span) → span_around (span_around s t) u ≡ span_around s (span_around t u)
around_two s t u = same_span _ _ _ _ (int_min_assoc s.low t.low u.low) (int_max_assoc s.high t.high u.high)

-- ---- a cubic

fold_above : (m x : ℤ) (ys : List ℤ) → IsBelow m x → AllAbove m ys → IsBelow m (fold int_min x ys)
fold_above m x [] h k = h
fold_above m x (y ∷ ys) h k = fold_above m (int_min x y) ys (record { below = omega (arith, int_min_is x y, h.below, (k.0).below) }) k.1

fold_below : (m x : ℤ) (ys : List ℤ) → IsBelow x m → AllBelow m ys → IsBelow (fold int_max x ys) m
fold_below m x [] h k = h
fold_below m x (y ∷ ys) h k = fold_below m (int_max x y) ys (record { below = omega (arith, int_max_is x y, h.below, (k.0).below) }) k.1

least_above : (m : ℤ) (f : ℕ → Fraction) → ((k : ℕ) → k < 65 → IsBelow m (floor_of (f k))) → IsBelow m (least (map floor_of (map f sixty_fourths)))
unfolding sixty_fourths
least_above m f h = fold_above m (floor_of (f 0)) (map floor_of (map f (range_with_len 1 64))) (h 0 (omega arith)) (above_range m f 1 64 (λ k b. h k (omega (arith, b))))

greatest_below : (m : ℤ) (f : ℕ → Fraction) → ((k : ℕ) → k < 65 → IsBelow (ceiling_of (f k)) m) → IsBelow (greatest (map ceiling_of (map f sixty_fourths))) m
unfolding sixty_fourths
greatest_below m f h = fold_below m (ceiling_of (f 0)) (map ceiling_of (map f (range_with_len 1 64))) (h 0 (omega arith)) (below_range m f 1 64 (λ k b. h k (omega (arith, b))))

pub held_cubic : (s : Span) (a b c d : Fraction) → IsCoordinate a → IsCoordinate b → IsCoordinate c → IsCoordinate d
    → IsHeld s a → IsHeld s b → IsHeld s c → IsHeld s d → s ≡ span_around s (span_of (cubic_values a b c d))
held_cubic s a b c d ha hb hc hd p q r t =
    let low = values_above s.low a b c d ha hb hc hd
    (floor_from_least s.low a ha.above p.least) (floor_from_least s.low b hb.above q.least) (floor_from_least s.low c hc.above r.least) (floor_from_least s.low d hd.above t.least) in
    let high = values_below s.high a b c d ha hb hc hd
    (ceiling_from_most s.high a ha.above p.most) (ceiling_from_most s.high b hb.above q.most) (ceiling_from_most s.high c hc.above r.most) (ceiling_from_most s.high d hd.above t.most) in
    same_span s.low _ s.high _ (min_kept s.low _ (least_above s.low (cubic_at a b c d) low)) (max_kept s.high _ (greatest_below s.high (cubic_at a b c d) high))
