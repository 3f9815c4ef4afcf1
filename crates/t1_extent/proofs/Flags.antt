-- Outlines whose coordinates are all whole.
use Rattle.std.proofs.Common.{◌≡◌, ◌+◌, ◌<◌, arith, length, get_or, take, List, [], ◌∷◌, Bool, true, false, ap, sym, ◌∙◌, refl}
use Rattle.std.specs.Prelude.{◌&&◌, ◌==◌, All, IfOk}
use Rattle.std.specs.List.{AllByRecursion}
use Rattle.std.proofs.lemmas.Bool.Decides.{nat_tests}
use Rattle.std.proofs.lemmas.List.Elements.{All-from_recursion, All-head, All-tail}
use Rattle.std.proofs.Common.{ℕ, ◌*◌, ◌^◌}
use Rattle.std.proofs.lemmas.List.{take_more}
use Rattle.std.proofs.lemmas.List.Folds.{list_all-append}
use Rattle.t1_frac.specs.Fraction.{Fraction, lowest, plus, whole}
use Rattle.t1_frac.specs.Limits.{coordinate_sum}
use Rattle.t1_frac.specs.declared.fault.Code.TheVariants.{F40}
use Rattle.t1_frac.proofs.Exact.{lowest_whole}
use Rattle.t1_frac.proofs.Rounded.{ok_within}
use Rattle.t1_run.specs.Composite.{moved_point, moved_segment, moved_outline}
use Rattle.t1_run.proofs.Within.{bind-ok}
use Rattle.t1_run.specs.declared.outline.Point.{Point}
use Rattle.t1_run.specs.declared.outline.Segment.{Segment}
use Rattle.t1_run.specs.declared.outline.Segment.TheVariants.{Line, Curve}
use Rattle.t1_extent.specs.Extremes.{IsWhole, IsWholeSegment, is_whole_point, is_whole_segment, is_whole_outline}
use Rattle.t1_extent.specs.Laws.{WholeOfBothLaw, WholeStaysLaw}

both_true : (a b : Bool) → (a && b) ≡ true → (a ≡ true) × (b ≡ true)
both_true true b h = (refl, h)
both_true false b h = let e : false ≡ true = h in absurd (cc)

pub point_whole : (p : Point) → is_whole_point p ≡ true → IsWhole p
point_whole p h =
    let t = both_true (p.x.den == 1) (p.y.den == 1) h in
    record { x = grind (arith, nat_tests, t.0); y = grind (arith, nat_tests, t.1) }

segment_whole : (s : Segment) → is_whole_segment s ≡ true → IsWholeSegment s
segment_whole (Line a b) h = let t = both_true (is_whole_point a) (is_whole_point b) h in (point_whole a t.0, point_whole b t.1)
segment_whole (Curve a b c d) h =
    let r = both_true (is_whole_point a && is_whole_point b && is_whole_point c) (is_whole_point d) h in
    let s = both_true (is_whole_point a && is_whole_point b) (is_whole_point c) r.0 in
    let t = both_true (is_whole_point a) (is_whole_point b) s.0 in
    (point_whole a t.0, point_whole b t.1, point_whole c s.1, point_whole d r.1)

pub each_whole : (ss : List Segment) → is_whole_outline ss ≡ true → AllByRecursion IsWholeSegment ss
each_whole [] h = tt
each_whole (s ∷ ss) h =
    let t = both_true (is_whole_segment s) (is_whole_outline ss) h in
    (segment_whole s t.0, each_whole ss t.1)

pub all_whole : (ss : List Segment) → is_whole_outline ss ≡ true → All IsWholeSegment ss
all_whole ss h = All-from_recursion IsWholeSegment ss (each_whole ss h)

both_are : (p q : Bool) → p ≡ true → q ≡ true → (p && q) ≡ true
both_are p q e f = rw (e, f) refl

pub whole_each : (ss : List Segment) → AllByRecursion IsWholeSegment ss → is_whole_outline ss ≡ true
whole_each [] h = refl
whole_each (s ∷ ss) h = both_are (is_whole_segment s) (is_whole_outline ss) (one s h.0) (whole_each ss h.1)
  where
    one : (s : Segment) → IsWholeSegment s → is_whole_segment s ≡ true
    one (Line a b) k = rw (k.0.x, k.0.y, k.1.x, k.1.y) refl
    one (Curve a b c d) k = rw (k.0.x, k.0.y, k.1.x, k.1.y, k.2.x, k.2.y, k.3.x, k.3.y) refl

-- an outline whose segments are whole isn't one that has a fraction
pub not_mixed : (ss : List Segment) → All IsWholeSegment ss → is_whole_outline ss ≡ false → ⊥
not_mixed ss h e = let k : true ≡ false = sym (whole_each ss (by ss h)) ∙ e in absurd (cc)
  where
    by : (xs : List Segment) → All IsWholeSegment xs → AllByRecursion IsWholeSegment xs
    by [] k = tt
    by (x ∷ xs) k = (All-head IsWholeSegment x xs k, by xs (All-tail IsWholeSegment x xs k))

-- with one segment more
pub whole_next : (ss : List Segment) (i : ℕ) (s : Segment) → i < length ss → s ≡ get_or ss i s → is_whole_outline (take i ss) ≡ true → is_whole_segment s ≡ true
    → is_whole_outline (take (i + 1) ss) ≡ true
whole_next ss i s inside is before one =
    ap is_whole_outline (take_more ss i s inside)
    ∙ list_all-append is_whole_segment (take i ss) (get_or ss i s ∷ [])
    ∙ both_are (is_whole_outline (take i ss)) (is_whole_outline (get_or ss i s ∷ [])) before
    (both_are (is_whole_segment (get_or ss i s)) true (ap is_whole_segment (sym is) ∙ one) refl)

-- ---- two outlines, and a whole move

pub whole_of_both : WholeOfBothLaw
whole_of_both a b = list_all-append is_whole_segment a b

pub whole_is : (a : Fraction) → a.den ≡ 1 → a ≡ whole a.num
whole_is a e = let same : ◌≡◌ {A = Fraction} (record { num = a.num; den = a.den }) (whole a.num) = rw e refl in same

product_one : (m n : ℕ) → m ≡ 1 → n ≡ 1 → m * n ≡ 1
product_one m n h k = rw (h, k) refl

sum_whole : (a d : Fraction) → a.den ≡ 1 → d.den ≡ 1 → IfOk (coordinate_sum a d) (λ s. s.den ≡ 1)
unfolding coordinate_sum
sum_whole a d ha hd =
    let s = plus a d in
    ok_within F40 (2 ^ 20) (lowest s) (λ s'. s'.den ≡ 1)
    (ap (λ t. (lowest t).den) (whole_is s (product_one a.den d.den ha hd)) ∙ ap (λ (t : Fraction). t.den) (lowest_whole s.num))

point_stays : (by p : Point) → IsWhole by → IsWhole p → IfOk (moved_point by p) IsWhole
point_stays by p hb h =
    bind-ok (λ (x : Fraction). x.den ≡ 1) IsWhole (coordinate_sum p.x by.x) _ (sum_whole p.x by.x h.x hb.x) (λ x hx.
    bind-ok (λ (y : Fraction). y.den ≡ 1) IsWhole (coordinate_sum p.y by.y) _ (sum_whole p.y by.y h.y hb.y) (λ y hy.
    record { x = hx; y = hy }))

segment_stays : (by : Point) (s : Segment) → IsWhole by → IsWholeSegment s → IfOk (moved_segment by s) IsWholeSegment
segment_stays by (Line a b) hb h =
    bind-ok IsWhole IsWholeSegment (moved_point by a) _ (point_stays by a hb h.0) (λ a' ha.
    bind-ok IsWhole IsWholeSegment (moved_point by b) _ (point_stays by b hb h.1) (λ b' hb'. (ha, hb')))
segment_stays by (Curve a b c e) hb h =
    bind-ok IsWhole IsWholeSegment (moved_point by a) _ (point_stays by a hb h.0) (λ a' ha.
    bind-ok IsWhole IsWholeSegment (moved_point by b) _ (point_stays by b hb h.1) (λ b' hb'.
    bind-ok IsWhole IsWholeSegment (moved_point by c) _ (point_stays by c hb h.2) (λ c' hc.
    bind-ok IsWhole IsWholeSegment (moved_point by e) _ (point_stays by e hb h.3) (λ e' he. (ha, hb', hc, he)))))

pub whole_stays : WholeStaysLaw
whole_stays by [] hb h = tt
whole_stays by (s ∷ ss) hb h =
    bind-ok IsWholeSegment (AllByRecursion IsWholeSegment) (moved_segment by s) _ (segment_stays by s hb h.0) (λ t one.
    bind-ok (AllByRecursion IsWholeSegment) (AllByRecursion IsWholeSegment) (moved_outline by ss) _ (whole_stays by ss hb h.1) (λ ts rest. (one, rest)))
