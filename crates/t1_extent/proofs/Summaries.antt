-- The laws of summaries.
use Rattle.std.proofs.Common.{◌≡◌, ◌⊎◌, inl, inr, List, [], ◌∷◌, ◌++◌, refl, ap, ◌∙◌, sym, Option}
use Rattle.std.specs.Prelude.{Result, Ok, Err, IfOk}
use Rattle.std.specs.List.{AllByRecursion}
use Rattle.std.proofs.lemmas.Grind.{flat_map-append}
use Rattle.t1_frac.specs.Limits.{IsCoordinate, coordinate_sum}
use Rattle.t1_frac.specs.declared.fault.Code.{Code}
use Rattle.t1_frac.proofs.Coordinates.{sum_within}
use Rattle.t1_frac.specs.Outcome.{◌>>=◌}
use Rattle.t1_run.specs.declared.outline.Composite.{Composite}
use Rattle.t1_run.specs.declared.outline.Point.{Point}
use Rattle.t1_run.specs.declared.outline.Segment.{Segment}
use Rattle.t1_run.specs.declared.outline.Segment.TheVariants.{Line, Curve}
use Rattle.t1_run.specs.Composite.{accent_move, moved_point, moved_segment, moved_outline, IsPoint, IsWithin}
use Rattle.t1_run.specs.Run.{Drawing}
use Rattle.t1_run.proofs.Within.{bind-ok, each-append}
use Rattle.t1_afm.specs.Points.{points, points_of}
use Rattle.t1_extent.specs.Extremes.{Extremes, corners_of, corners, extremes, move_check, IsWhole, MovesEasily}
use Rattle.t1_extent.specs.Laws.{Summary, summary, united_summary, shifted_summary, AreWithin, IsDistance, BoxLaw, BothLaw, MovedLaw, CheckLaw, JoinedLaw}
use Rattle.t1_extent.proofs.Folding.{IsNumber, box_rounded, extremes-append}
use Rattle.t1_extent.proofs.Moving.{AreNumbers, AreMoved, outline_moved, outline_numbers, corners_numbers, extremes_shifted}
use Rattle.t1_extent.proofs.Checking.{IsEasy, not_fine, passed, outline_passed}

pub point_number : (p : Point) → IsPoint p → IsNumber p
point_number p h = record { x = h.x.above; y = h.y.above }

pub within_numbers : (s : Segment) → IsWithin s → AreNumbers s
within_numbers (Line a b) h = (point_number a h.0, point_number b h.1)
within_numbers (Curve a b c e) h = (point_number a h.0, point_number b h.1, point_number c h.2, point_number e h.3)

pub numbers : (ss : List Segment) → AreWithin ss → AllByRecursion AreNumbers ss
numbers [] h = tt
numbers (s ∷ ss) h = (within_numbers s h.0, numbers ss h.1)

pub distance_number : (by : Point) → IsDistance by → IsNumber by
distance_number by h = record { x = h.x; y = h.y }

same_summary : (d d' c c' : Option Extremes) → d ≡ d' → c ≡ c' → ◌≡◌ {A = Summary} (record { drawn = d; corners = c }) (record { drawn = d'; corners = c' })
same_summary d d' c c' e f = rw (e, f) refl

pub box_law : BoxLaw
box_law outline h = sym (box_rounded (points outline) (outline_numbers outline (numbers outline h)))

pub both_law : BothLaw
both_law a b h k =
    same_summary _ _ _ _
    (ap extremes (flat_map-append points_of a b) ∙ extremes-append (points a) (points b) (outline_numbers a (numbers a h)) (outline_numbers b (numbers b k)))
    (ap extremes (flat_map-append corners_of a b) ∙ extremes-append (corners a) (corners b) (corners_numbers a (numbers a h)) (corners_numbers b (numbers b k)))

pub moved_by_law : (by : Point) (ss ts : List Segment) → IsNumber by → AllByRecursion AreNumbers ss → AreMoved by ss ts → summary ts ≡ shifted_summary by (summary ss)
moved_by_law by ss ts h hs m =
    same_summary _ _ _ _
    (extremes_shifted by (points ss) (points ts) h (outline_numbers ss hs) m.points)
    (extremes_shifted by (corners ss) (corners ts) h (corners_numbers ss hs) m.corners)

each_ok : {A : Type 0} (P Q : A → Type 0) (r : Result A Code) → ((x : A) → P x → Q x) → IfOk r P → IfOk r Q
each_ok P Q (Ok x) f h = f x h
each_ok P Q (Err c) f h = tt

pub moved_law : MovedLaw
moved_law by outline hb h =
    let by_number = distance_number by hb in
    let hs = numbers outline h in
    each_ok (AreMoved by outline) (λ moved. summary moved ≡ shifted_summary by (summary outline)) (moved_outline by outline)
    (λ moved m. moved_by_law by outline moved by_number hs m) (outline_moved by outline by_number hs)

-- ---- where F40 alone refuses

easy_point : (by p : Point) → IsDistance by → IsPoint p → IsWhole by ⊎ IsWhole p → IsEasy by p
easy_point by p hb h (inl w) = record { x = not_fine p.x by.x (inr w.x) h.x.fine hb.x_fine; y = not_fine p.y by.y (inr w.y) h.y.fine hb.y_fine; number = point_number p h }
easy_point by p hb h (inr w) = record { x = not_fine p.x by.x (inl w.x) h.x.fine hb.x_fine; y = not_fine p.y by.y (inl w.y) h.y.fine hb.y_fine; number = point_number p h }

corner_points : (s : Segment) → IsWithin s → AllByRecursion IsPoint (corners_of s)
corner_points (Line a b) h = (h.0, (h.1, tt))
corner_points (Curve a b c e) h = (h.0, (h.1, (h.2, (h.3, tt))))

pub corners_points : (ss : List Segment) → AreWithin ss → AllByRecursion IsPoint (corners ss)
corners_points [] h = tt
corners_points (s ∷ ss) h = each-append IsPoint (corners_of s) (corners ss) (corner_points s h.0) (corners_points ss h.1)

easy_by : (by : Point) (ps : List Point) → IsDistance by → AllByRecursion IsPoint ps → IsWhole by → AllByRecursion (IsEasy by) ps
easy_by by [] hb h w = tt
easy_by by (p ∷ ps) hb h w = (easy_point by p hb h.0 (inl w), easy_by by ps hb h.1 w)

easy_points : (by : Point) (ps : List Point) → IsDistance by → AllByRecursion IsPoint ps → AllByRecursion IsWhole ps → AllByRecursion (IsEasy by) ps
easy_points by [] hb h w = tt
easy_points by (p ∷ ps) hb h w = (easy_point by p hb h.0 (inr w.0), easy_points by ps hb h.1 w.1)

easy_all : (by : Point) (outline : List Segment) → IsDistance by → AreWithin outline → MovesEasily by outline → AllByRecursion (IsEasy by) (corners outline)
easy_all by outline hb h (inl w) = easy_by by (corners outline) hb (corners_points outline h) w
easy_all by outline hb h (inr w) = easy_points by (corners outline) hb (corners_points outline h) w

pub check_law : CheckLaw
check_law by outline hb h easy = outline_passed by outline (distance_number by hb) (easy_all by outline hb h easy)

-- ---- composites

united_three : (own base accent' : List Segment) → AreWithin own → AreWithin base → AreWithin accent'
    → summary (own ++ base ++ accent') ≡ united_summary (united_summary (summary own) (summary base)) (summary accent')
united_three own base accent' h k m = both_law (own ++ base) accent' (each-append IsWithin own base h k) m ∙ ap (λ s. united_summary s (summary accent')) (both_law own base h k)

-- ---- moved points are within the limits

pub point_within : (by p : Point) → IsNumber by → IsNumber p → IfOk (moved_point by p) IsPoint
point_within by p hb h =
    bind-ok IsCoordinate IsPoint (coordinate_sum p.x by.x) _ (sum_within p.x by.x h.x hb.x) (λ x hx.
    bind-ok IsCoordinate IsPoint (coordinate_sum p.y by.y) _ (sum_within p.y by.y h.y hb.y) (λ y hy.
    record { x = hx; y = hy }))

segment_within : (by : Point) (s : Segment) → IsNumber by → AreNumbers s → IfOk (moved_segment by s) IsWithin
segment_within by (Line a b) hb h =
    bind-ok IsPoint IsWithin (moved_point by a) _ (point_within by a hb h.0) (λ a' ha.
    bind-ok IsPoint IsWithin (moved_point by b) _ (point_within by b hb h.1) (λ b' hb'. (ha, hb')))
segment_within by (Curve a b c e) hb h =
    bind-ok IsPoint IsWithin (moved_point by a) _ (point_within by a hb h.0) (λ a' ha.
    bind-ok IsPoint IsWithin (moved_point by b) _ (point_within by b hb h.1) (λ b' hb'.
    bind-ok IsPoint IsWithin (moved_point by c) _ (point_within by c hb h.2) (λ c' hc.
    bind-ok IsPoint IsWithin (moved_point by e) _ (point_within by e hb h.3) (λ e' he. (ha, hb', hc, he)))))

pub outline_within : (by : Point) (ss : List Segment) → IsNumber by → AllByRecursion AreNumbers ss → IfOk (moved_outline by ss) AreWithin
outline_within by [] hb h = tt
outline_within by (s ∷ ss) hb h =
    bind-ok IsWithin AreWithin (moved_segment by s) _ (segment_within by s hb h.0) (λ t one.
    bind-ok AreWithin AreWithin (moved_outline by ss) _ (outline_within by ss hb h.1) (λ ts rest. (one, rest)))

joined_law' : (d : List Segment) (base accent : List Segment) (by : Point) (r : Result (List Segment) Code) (t : Result (Unit {0}) Code)
    → AreWithin d → AreWithin base → IfOk r AreWithin → IfOk r (λ moved. summary moved ≡ shifted_summary by (summary accent)) → passed r ≡ t
    → ((r >>= λ accent'. Ok (d ++ base ++ accent')) >>= λ outline. Ok (summary outline)) ≡ (t >>= λ _. Ok (united_summary (united_summary (summary d) (summary base)) (shifted_summary by (summary accent))))
joined_law' d base accent by (Ok accent') t h k within moved e =
    ap Ok (united_three d base accent' h k within ∙ ap (λ s. united_summary (united_summary (summary d) (summary base)) s) moved)
    ∙ ap (λ (u : Result (Unit {0}) Code). u >>= λ _. Ok (united_summary (united_summary (summary d) (summary base)) (shifted_summary by (summary accent)))) e
joined_law' d base accent by (Err c) t h k within moved e =
    ap (λ (u : Result (Unit {0}) Code). u >>= λ _. Ok (united_summary (united_summary (summary d) (summary base)) (shifted_summary by (summary accent)))) e

joined_at : (c : Composite) (d : Drawing) (base accent : List Segment) (m : Result Point Code) → AreWithin d.segments → AreWithin base → AreWithin accent
    → IfOk m (λ by. IsDistance by × MovesEasily by accent)
    → ((m >>= (λ by. moved_outline by accent >>= (λ accent'. Ok (d.segments ++ base ++ accent')))) >>= λ outline. Ok (summary outline))
    ≡ (m >>= (λ by. move_check by (summary accent).corners >>= (λ _. Ok (united_summary (united_summary (summary d.segments) (summary base)) (shifted_summary by (summary accent))))))
joined_at c d base accent (Err fault) h k l easy = refl
joined_at c d base accent (Ok by) h k l easy =
    joined_law' d.segments base accent by (moved_outline by accent) (move_check by (summary accent).corners) h k
    (outline_within by accent (distance_number by easy.0) (numbers accent l)) (moved_law by accent easy.0 l) (check_law by accent easy.0 l easy.1)

pub joined_law : JoinedLaw
joined_law c d base accent h k l easy = joined_at c d base accent (accent_move d.bearing c) h k l easy
