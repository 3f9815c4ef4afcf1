-- The span of a cubic's values, one after another.
use Rattle.std.proofs.Common.{◌≡◌, ℕ, suc, ◌+◌, ◌-◌, ◌≤◌, ◌<◌, List, ◌∷◌, map, arith, refl}
use Rattle.std.specs.Prelude.{fold}
use Rattle.std.specs.Int.{int_min, int_max}
use Rattle.std.specs.List.{range_with_len}
use Rattle.t1_frac.specs.Fraction.{Fraction, floor_of, ceiling_of}
use Rattle.t1_afm.specs.declared.span.Span.{Span}
use Rattle.t1_afm.specs.Points.{sixty_fourths}
use Rattle.t1_afm.specs.Spans.{span_of, span_around, span_around_one}

-- the span around a span and fractions
abbrev pub spanning : Span → List Fraction → Span
spanning s xs = record { low = fold int_min s.low (map floor_of xs); high = fold int_max s.high (map ceiling_of xs) }

pub range_next : (k n : ℕ) → k < n → range_with_len k (n - k) ≡ k ∷ range_with_len (k + 1) (n - (k + 1))
range_next k n h = let e : n - k ≡ suc (n - (k + 1)) = omega arith in rw e refl

-- what is left of the values spans, with what is found, the whole
abbrev pub Spans : (ℕ → Fraction) → ℕ → Span → Span → Type 0
Spans f k s whole = spanning s (map f (range_with_len k (65 - k))) ≡ whole

pub Spans-first : (f : ℕ → Fraction) → Spans f 1 (span_around_one (f 0)) (span_of (map f sixty_fourths))
unfolding sixty_fourths
Spans-first f = refl

pub Spans-next : (f : ℕ → Fraction) (k : ℕ) (s whole : Span) → k < 65 → Spans f k s whole → Spans f (k + 1) (span_around s (span_around_one (f k))) whole
Spans-next f k s whole h e = let r = range_next k 65 h in (rw r at e)

pub Spans-all : (f : ℕ → Fraction) (k : ℕ) (s whole : Span) → 65 ≤ k → Spans f k s whole → s ≡ whole
Spans-all f k s whole h e = let z : 65 - k ≡ 0 = omega arith in (rw z at e)
