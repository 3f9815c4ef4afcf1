-- Outlines, also of composites, are within the limits.
use Rattle.std.proofs.Common.{◌≡◌, ℕ, zero, suc, List, [], ◌∷◌, ◌++◌, refl, subst, Option, Some, None}
use Rattle.std.specs.Prelude.{All, Result, Ok, Err, IfOk, IfSome}
use Rattle.std.proofs.lemmas.List.Elements.{All-nil, All-cons}
use Rattle.t1_frac.specs.Fraction.{Fraction}
use Rattle.t1_frac.specs.Limits.{IsCoordinate, coordinate_sum, coordinate_difference}
use Rattle.t1_frac.specs.declared.fault.Code.{Code}
use Rattle.t1_frac.specs.declared.fault.Code.TheVariants.{F46}
use Rattle.t1_run.specs.declared.outline.Composite.{Composite}
use Rattle.t1_run.specs.declared.outline.Point.{Point}
use Rattle.t1_run.specs.declared.outline.Segment.{Segment}
use Rattle.t1_run.specs.declared.outline.Segment.TheVariants.{Line, Curve}
use Rattle.t1_run.specs.Composite.{accent_move, moved_point, moved_segment, moved_outline, joined_outline, joined_with, with_parts, drawn, outline_within, outline, IsPoint, IsWithin}
use Rattle.t1_code.specs.declared.command.Command.{Command}
use Rattle.t1_run.specs.Run.{FontBodies, Drawing, own, body_stop, outcome_of}
use Rattle.t1_run.specs.Within.{DrawnWithinLaw, AreRuns, OutlinesWithinLaw}
use Rattle.t1_run.proofs.Within.{IsValue, IsPlace, IsPlaced, IsDrawn, AllDrawn, bind-ok, each-append, sum-place, difference-place, moved-placed, outline-stays}
use Rattle.t1_run.proofs.WithinRuns.{PartsWithin, DrawingWithin, OwnWithin, own-within, outcome-within, stop-within}

-- a distance in lowest terms
record IsMove (by : Point) : Type 0 where
  x : IsValue by.x
  y : IsValue by.y

accent_move-is : (bearing : Point) (c : Composite) → IsPlaced bearing → PartsWithin c → IfOk (accent_move bearing c) IsMove
accent_move-is bearing c h k =
    bind-ok IsPlace IsMove (coordinate_sum bearing.x c.adx) _ (sum-place bearing.x c.adx h.x.value k.adx) (λ right placed.
    bind-ok IsPlace IsMove (coordinate_difference right c.asb) _ (difference-place right c.asb placed.value k.asb) (λ x placed_x.
    record { x = placed_x.value; y = k.ady }))

-- ---- moved outlines

point-moved : (by p : Point) → IsMove by → IsPlaced p → IfOk (moved_point by p) IsPlaced
point-moved by p k h = moved-placed p by.x by.y h k.x k.y

segment-moved : (by : Point) (s : Segment) → IsMove by → IsDrawn s → IfOk (moved_segment by s) IsDrawn
segment-moved by (Line start end) k h =
    bind-ok IsPlaced IsDrawn (moved_point by start) _ (point-moved by start k h.0) (λ start' placed_start.
    bind-ok IsPlaced IsDrawn (moved_point by end) _ (point-moved by end k h.1) (λ end' placed_end.
    (placed_start, placed_end)))
segment-moved by (Curve start first second end) k h =
    bind-ok IsPlaced IsDrawn (moved_point by start) _ (point-moved by start k h.0) (λ start' placed_start.
    bind-ok IsPlaced IsDrawn (moved_point by first) _ (point-moved by first k h.1) (λ first' placed_first.
    bind-ok IsPlaced IsDrawn (moved_point by second) _ (point-moved by second k h.2) (λ second' placed_second.
    bind-ok IsPlaced IsDrawn (moved_point by end) _ (point-moved by end k h.3) (λ end' placed_end.
    (placed_start, placed_first, placed_second, placed_end)))))

outline-moved : (by : Point) (segments : List Segment) → IsMove by → AllDrawn segments → IfOk (moved_outline by segments) AllDrawn
outline-moved by [] k h = tt
outline-moved by (s ∷ ss) k h =
    bind-ok IsDrawn AllDrawn (moved_segment by s) _ (segment-moved by s k h.0) (λ s' drawn_s.
    bind-ok AllDrawn AllDrawn (moved_outline by ss) _ (outline-moved by ss k h.1) (λ ss' drawn_ss.
    (drawn_s, drawn_ss)))

-- ---- composites

joined_with-drawn : (composite : Option Composite) (d : Drawing) (base accent : List Segment)
    → IfSome composite PartsWithin → DrawingWithin d → AllDrawn base → AllDrawn accent → IfOk (joined_with composite d base accent) AllDrawn
joined_with-drawn None d base accent c h b a = h.segments
joined_with-drawn (Some composite) d base accent c h b a =
    bind-ok IsMove AllDrawn (accent_move d.bearing composite) _ (accent_move-is d.bearing composite h.bearing c) (λ by k.
    bind-ok AllDrawn AllDrawn (moved_outline by accent) _ (outline-moved by accent k a) (λ accent' a'.
    each-append IsDrawn (d.segments ++ base) accent' (each-append IsDrawn d.segments base h.segments b) a'))

joined-drawn : (d : Drawing) (base accent : List Segment) → DrawingWithin d → AllDrawn base → AllDrawn accent → IfOk (joined_outline d base accent) AllDrawn
unfolding joined_outline
joined-drawn d base accent h b a = joined_with-drawn d.composite d base accent h.parts h b a

abbrev PartsDrawn : (List ℕ → Result (List Segment) Code) → Type 0
PartsDrawn part = (g : List ℕ) → IfOk (part g) AllDrawn

with_parts-drawn : (part : List ℕ → Result (List Segment) Code) → PartsDrawn part → (composite : Option Composite) (d : Drawing)
    → DrawingWithin d → IfOk (with_parts part composite d) AllDrawn
with_parts-drawn part parts None d h = h.segments
with_parts-drawn part parts (Some c) d h =
    bind-ok AllDrawn AllDrawn (part c.base) _ (parts c.base) (λ base b.
    bind-ok AllDrawn AllDrawn (part c.accent) _ (parts c.accent) (λ accent a.
    joined-drawn d base accent h b a))

drawn-drawn : (part : List ℕ → Result (List Segment) Code) → PartsDrawn part → (r : Option (Result Drawing Code)) → OwnWithin r → IfOk (drawn part r) AllDrawn
drawn-drawn part parts None h = tt
drawn-drawn part parts (Some (Err fault)) h = tt
drawn-drawn part parts (Some (Ok d)) h = with_parts-drawn part parts d.composite d h

runs-drawn : (run : List ℕ → Option (Result Drawing Code)) → ((g : List ℕ) → OwnWithin (run g)) → (depth : ℕ) → PartsDrawn (outline_within run depth)
runs-drawn run within zero g = drawn-drawn (λ part. Err F46) (λ part. tt) (run g) (within g)
runs-drawn run within (suc depth) g = drawn-drawn (outline_within run depth) (runs-drawn run within depth) (run g) (within g)

outline_within-drawn : (m : FontBodies) (depth : ℕ) → PartsDrawn (outline_within (own m) depth)
outline_within-drawn m depth = runs-drawn (own m) (own-within m) depth

outline-drawn : (m : FontBodies) (g : List ℕ) → IfOk (outline m g) AllDrawn
unfolding outline
outline-drawn m g = outline_within-drawn m 4 g

-- ---- points within the limits

place-coordinate : (a : Fraction) → IsPlace a → IsCoordinate a
place-coordinate a h = record { above = h.value.terms.above; fine = h.value.fine; size = h.size }

placed-point : (p : Point) → IsPlaced p → IsPoint p
placed-point p h = record { x = place-coordinate p.x h.x; y = place-coordinate p.y h.y }

pub drawn-within : (s : Segment) → IsDrawn s → IsWithin s
drawn-within (Line start end) h = (placed-point start h.0, placed-point end h.1)
drawn-within (Curve start first second end) h =
    (placed-point start h.0, placed-point first h.1, placed-point second h.2, placed-point end h.3)

all-within : (segments : List Segment) → AllDrawn segments → All IsWithin segments
all-within [] h = All-nil IsWithin
all-within (s ∷ ss) h = All-cons IsWithin s ss (drawn-within s h.0) (all-within ss h.1)

each-within : (r : Result (List Segment) Code) → IfOk r AllDrawn → IfOk r (All IsWithin)
each-within (Ok segments) h = all-within segments h
each-within (Err fault) h = tt

-- ---- the laws

own-drawn : (m : FontBodies) (g : List ℕ) (d : Drawing) → own m g ≡ Some (Ok d) → DrawingWithin d
own-drawn m g d e = subst OwnWithin e (own-within m g)

pub drawn_within : DrawnWithinLaw
drawn_within = record {
  own_segments = λ m g d e. outline-stays d.segments (own-drawn m g d e).segments;
  outlines = λ m g segments e. outline-stays segments (subst (λ r. IfOk r AllDrawn) e (outline-drawn m g));
}

runs-within : (run : List ℕ → Option (Result Drawing Code)) → AreRuns run → (g : List ℕ) → OwnWithin (run g)
runs-within run are g = by (run g) refl where
  by : (r : Option (Result Drawing Code)) → run g ≡ r → OwnWithin r
  by None e = tt
  by (Some (Err fault)) e = tt
  by (Some (Ok d)) e = let of = are g d e in own-drawn of.0 of.1.0 d of.1.1

pub outlines_within : OutlinesWithinLaw
outlines_within = record {
  of_font = λ m depth g. each-within (outline_within (own m) depth g) (outline_within-drawn m depth g);
  of_runs = λ run are depth g. each-within (outline_within run depth g) (runs-drawn run (runs-within run are) depth g);
}

-- ---- what ends within the limits

-- each segment that a run draws is within the limits
abbrev pub DrawsWithin : Result Drawing Code → Type 0
DrawsWithin r = IfOk r (λ d. All IsWithin d.segments)

drawing-draws : (r : Result Drawing Code) → IfOk r DrawingWithin → DrawsWithin r
drawing-draws (Ok d) h = all-within d.segments h.segments
drawing-draws (Err fault) h = tt

pub stop-draws : (m : FontBodies) (body : List Command) (r : Result Drawing Code) → outcome_of (body_stop m body) ≡ r → DrawsWithin r
stop-draws m body r e = subst DrawsWithin e (drawing-draws (outcome_of (body_stop m body)) (outcome-within (body_stop m body) (stop-within m body)))
