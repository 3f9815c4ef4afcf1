-- Whole outlines that are moved by several moves: by their start and their extremes alone.
use Rattle.std.proofs.Common.{◌≡◌, ◌*◌, ◌<◌, ◌≤◌, ◌^◌, arith, List, [], ◌∷◌, map, refl, ap, ◌∙◌, sym, subst, mul-pos, Option, Some, None, false}
use Rattle.std.specs.Prelude.{Result, Ok, Err, IsOk, IfOk, IfSome, option_map}
use Rattle.std.specs.List.{AllByRecursion}
use Rattle.t1_frac.specs.Fraction.{Fraction, lowest, plus, minus}
use Rattle.t1_frac.specs.Limits.{is_too_fine}
use Rattle.t1_frac.specs.Outcome.{◌>>=◌}
use Rattle.t1_frac.specs.declared.fault.Code.{Code}
use Rattle.t1_run.specs.declared.outline.Point.{Point}
use Rattle.t1_run.specs.declared.outline.Segment.{Segment}
use Rattle.t1_run.specs.declared.outline.Segment.TheVariants.{Line, Curve}
use Rattle.t1_run.specs.Composite.{moved_point, moved_outline, IsPoint}
use Rattle.t1_run.proofs.Within.{each-append}
use Rattle.t1_afm.specs.Points.{points}
use Rattle.t1_extent.specs.Extremes.{Extremes, point_extremes, extremes, corners_of, corners, shifted, shifted_by, limit_check, move_check, IsWhole, IsWholeSegment}
use Rattle.t1_extent.specs.Figures.{first_point, apart}
use Rattle.t1_extent.specs.Laws.{summary, shifted_summary, AreWithin, IsDistance}
use Rattle.t1_extent.specs.Turns.{in_turn, through, point_through}
use Rattle.t1_extent.proofs.Checking.{IsEasy, passed, fine_sum, outline_passed}
use Rattle.t1_extent.proofs.Folding.{IsNumber, AreLowest, points_lowest, same_extremes}
use Rattle.t1_extent.proofs.Uniting.{extremes_lowest}
use Rattle.t1_extent.proofs.Moving.{AreShifted, AreMoved, IsShifted, point_shifted, outline_moved, outline_numbers, corners_numbers, extremes_shifted}
use Rattle.t1_extent.proofs.Shifting.{shifted_lowest, shifted_apart, shifted_nowhere}
use Rattle.t1_extent.proofs.Summaries.{numbers, distance_number, point_number, point_within, outline_within, moved_by_law}

-- ---- distances

apart_number : (s q : Point) → IsNumber s → IsNumber q → IsNumber (apart s q)
apart_number s q hs hq = record { x = mul-pos hq.x hs.x; y = mul-pos hq.y hs.y }

-- a place, moved
abbrev pub shifted_place : Point → Point → Point
shifted_place by q = record { x = shifted by.x q.x; y = shifted by.y q.y }

still : (s : Point) (e : Extremes) → IsNumber s → AreLowest e → shifted_by (apart s s) e ≡ e
still s e hs h = same_extremes _ _ _ _ _ _ _ _
    (shifted_nowhere s.x e.left hs.x h.left) (shifted_nowhere s.y e.bottom hs.y h.bottom)
    (shifted_nowhere s.x e.right hs.x h.right) (shifted_nowhere s.y e.top hs.y h.top)

all_still : (s : Point) (es : List Extremes) → IsNumber s → AllByRecursion AreLowest es → es ≡ map (shifted_by (apart s s)) es
all_still s [] hs h = refl
all_still s (e ∷ es) hs h = ap (λ f. f ∷ es) (sym (still s e hs h.0)) ∙ ap (λ l. shifted_by (apart s s) e ∷ l) (all_still s es hs h.1)

twice : (by s q : Point) (e : Extremes) → IsNumber by → IsNumber s → IsNumber q → AreLowest e
    → shifted_by by (shifted_by (apart s q) e) ≡ shifted_by (apart s (shifted_place by q)) e
twice by s q e hb hs hq h = same_extremes _ _ _ _ _ _ _ _
    (shifted_apart by.x q.x s.x e.left hb.x hq.x hs.x h.left.above) (shifted_apart by.y q.y s.y e.bottom hb.y hq.y hs.y h.bottom.above)
    (shifted_apart by.x q.x s.x e.right hb.x hq.x hs.x h.right.above) (shifted_apart by.y q.y s.y e.top hb.y hq.y hs.y h.top.above)

all_twice : (by s q : Point) (es : List Extremes) → IsNumber by → IsNumber s → IsNumber q → AllByRecursion AreLowest es
    → map (shifted_by by) (map (shifted_by (apart s q)) es) ≡ map (shifted_by (apart s (shifted_place by q))) es
all_twice by s q [] hb hs hq h = refl
all_twice by s q (e ∷ es) hb hs hq h =
    ap (λ f. f ∷ map (shifted_by by) (map (shifted_by (apart s q)) es)) (twice by s q e hb hs hq h.0)
    ∙ ap (λ l. shifted_by (apart s (shifted_place by q)) e ∷ l) (all_twice by s q es hb hs hq h.1)

some_twice : (by s q : Point) (e : Option Extremes) → IsNumber by → IsNumber s → IsNumber q → IfSome e AreLowest
    → option_map (shifted_by by) (option_map (shifted_by (apart s q)) e) ≡ option_map (shifted_by (apart s (shifted_place by q))) e
some_twice by s q None hb hs hq h = refl
some_twice by s q (Some e) hb hs hq h = ap Some (twice by s q e hb hs hq h)

shifted_on : (by s q : Point) (ps qs rs : List Point) → IsNumber by → IsNumber s → IsNumber q → AllByRecursion IsNumber ps
    → AreShifted (apart s q) ps qs → AreShifted by qs rs → AreShifted (apart s (shifted_place by q)) ps rs
shifted_on by s q ps qs rs hb hs hq hp e f = f ∙ ap (map (shifted_by by)) e ∙ all_twice by s q (map point_extremes ps) hb hs hq (points_lowest ps hp)

-- ---- the first point

abbrev pub FirstMoves : Result Point Code → Result (List Segment) Code → Type 0
FirstMoves (Err e) r = r ≡ Err e
FirstMoves (Ok q) r = IfOk r (λ ss. first_point ss ≡ Some q)

line_first : (a b : Result Point Code) (rest : Result (List Segment) Code)
    → FirstMoves a ((a >>= (λ a'. b >>= (λ b'. Ok (Line a' b')))) >>= (λ s'. rest >>= (λ ss'. Ok (s' ∷ ss'))))
line_first (Err e) b rest = refl
line_first (Ok a) (Err e) rest = tt
line_first (Ok a) (Ok b) (Err e) = tt
line_first (Ok a) (Ok b) (Ok rest) = refl

curve_first : (a b c d : Result Point Code) (rest : Result (List Segment) Code)
    → FirstMoves a ((a >>= (λ a'. b >>= (λ b'. c >>= (λ c'. d >>= (λ d'. Ok (Curve a' b' c' d')))))) >>= (λ s'. rest >>= (λ ss'. Ok (s' ∷ ss'))))
curve_first (Err e) b c d rest = refl
curve_first (Ok a) (Err e) c d rest = tt
curve_first (Ok a) (Ok b) (Err e) d rest = tt
curve_first (Ok a) (Ok b) (Ok c) (Err e) rest = tt
curve_first (Ok a) (Ok b) (Ok c) (Ok d) (Err e) = tt
curve_first (Ok a) (Ok b) (Ok c) (Ok d) (Ok rest) = refl

first_moves : (by : Point) (ss : List Segment) (q : Point) → first_point ss ≡ Some q → FirstMoves (moved_point by q) (moved_outline by ss)
first_moves by [] q e = absurd (cc)
first_moves by (Line a b ∷ ss) q e =
    let same : a ≡ q = cc in
    subst (λ p. FirstMoves (moved_point by p) (moved_outline by (Line a b ∷ ss))) same (line_first (moved_point by a) (moved_point by b) (moved_outline by ss))
first_moves by (Curve a b c d ∷ ss) q e =
    let same : a ≡ q = cc in
    subst (λ p. FirstMoves (moved_point by p) (moved_outline by (Curve a b c d ∷ ss))) same
    (curve_first (moved_point by a) (moved_point by b) (moved_point by c) (moved_point by d) (moved_outline by ss))

-- ---- whole corners

segment_whole_corners : (s : Segment) → IsWholeSegment s → AllByRecursion IsWhole (corners_of s)
segment_whole_corners (Line a b) h = (h.0, (h.1, tt))
segment_whole_corners (Curve a b c d) h = (h.0, (h.1, (h.2, (h.3, tt))))

pub whole_corners : (ss : List Segment) → AllByRecursion IsWholeSegment ss → AllByRecursion IsWhole (corners ss)
whole_corners [] h = tt
whole_corners (s ∷ ss) h = each-append IsWhole (corners_of s) (corners ss) (segment_whole_corners s h.0) (whole_corners ss h.1)

-- one coordinate, whose start is whole as it is
fine_coordinate : (m q s o p : Fraction) → 0 < m.den → 0 < q.den → 0 < p.den → s.den ≡ 1 → o.den ≡ 1 → (shifted m q).den ≤ 2 ^ 20
    → lowest p ≡ shifted (minus q s) (lowest o) → is_too_fine (lowest (plus p m)) ≡ false
fine_coordinate m q s o p hm hq hp one one' small e =
    let hs : 0 < s.den = omega (arith, one) in
    let ho : 0 < o.den = omega (arith, one') in
    let to = shifted m q in
    let same : lowest (plus p m) ≡ lowest (plus o (minus to s)) =
    sym (shifted_lowest m p hm hp) ∙ ap (shifted m) (e ∙ shifted_lowest (minus q s) o (mul-pos hq hs) ho) ∙ shifted_apart m q s o hm hq hs ho in
    let size : o.den * (to.den * s.den) ≤ 2 ^ 20 = rw (one, one') (omega (arith, small)) in
    ap is_too_fine same ∙ fine_sum o (minus to s) size

easy_corner : (by s q o p : Point) → IsNumber by → IsNumber q → IsNumber p → IsWhole s → IsWhole o → IsPoint (shifted_place by q)
    → point_extremes p ≡ shifted_by (apart s q) (point_extremes o) → IsEasy by p
easy_corner by s q o p hb hq hp ws wo place e = record {
  x = fine_coordinate by.x q.x s.x o.x p.x hb.x hq.x hp.x ws.x wo.x place.x.fine (ap (λ (e : Extremes). e.left) e);
  y = fine_coordinate by.y q.y s.y o.y p.y hb.y hq.y hp.y ws.y wo.y place.y.fine (ap (λ (e : Extremes). e.bottom) e);
  number = hp;
}

easy_corners : (by s q : Point) (os ps : List Point) → IsNumber by → IsNumber q → AllByRecursion IsNumber ps → IsWhole s → AllByRecursion IsWhole os → IsPoint (shifted_place by q)
    → AreShifted (apart s q) os ps → AllByRecursion (IsEasy by) ps
easy_corners by s q os [] hb hq hp ws wo place e = tt
easy_corners by s q [] (p ∷ ps) hb hq hp ws wo place e = absurd (cc)
easy_corners by s q (o ∷ os) (p ∷ ps) hb hq hp ws wo place e =
    let one : point_extremes p ≡ shifted_by (apart s q) (point_extremes o) = cc in
    let rest : AreShifted (apart s q) os ps = cc in
    (easy_corner by s q o p hb hq hp.0 ws wo.0 place one, easy_corners by s q os ps hb hq hp.1 ws wo.1 place rest)

-- ---- moves in turn

-- an outline that was moved as its start was
pub record Rides (outline current : List Segment) (start place : Point) : Type 0 where
  pub moved : AreMoved (apart start place) outline current
  pub first : first_point current ≡ Some place
  pub within : AreWithin current
  pub point : IsPoint place

-- a whole outline
pub record IsStill (outline : List Segment) (start : Point) : Type 0 where
  pub within : AreWithin outline
  pub whole : AllByRecursion IsWholeSegment outline
  pub start_whole : IsWhole start
  pub start_place : IsPoint start

pub rides_start : (outline : List Segment) (start : Point) → IsStill outline start → first_point outline ≡ Some start → Rides outline outline start start
rides_start outline start h first =
    let hs = point_number start h.start_place in
    let n = numbers outline h.within in
    record {
      moved = record {
        points = all_still start (map point_extremes (points outline)) hs (points_lowest (points outline) (outline_numbers outline n));
        corners = all_still start (map point_extremes (corners outline)) hs (points_lowest (corners outline) (corners_numbers outline n));
      };
      first = first;
      within = h.within;
      point = h.start_place;
    }

-- what a further move makes of it
rides_on : (by : Point) (outline current next : List Segment) (start place to : Point) → IsStill outline start → IsDistance by → Rides outline current start place
    → moved_outline by current ≡ Ok next → moved_point by place ≡ Ok to → Rides outline next start to
rides_on by outline current next start place to h hb r e f =
    let hn = distance_number by hb in
    let hs = point_number start h.start_place in
    let hq = point_number place r.point in
    let n = numbers outline h.within in
    let c = numbers current r.within in
    let moved : AreMoved by current next = subst (λ t. IfOk t (AreMoved by current)) e (outline_moved by current hn c) in
    let is : IsShifted by place to = subst (λ t. IfOk t (IsShifted by place)) f (point_shifted by place) in
    let first : FirstMoves (Ok to) (Ok next) = subst (λ t. FirstMoves (Ok to) t) e (subst (λ t. FirstMoves t (moved_outline by current)) f (first_moves by current place r.first)) in
    record {
      moved = record {
        points = subst (λ p. AreShifted (apart start p) (points outline) (points next)) (sym is)
            (shifted_on by start place (points outline) (points current) (points next) hn hs hq (outline_numbers outline n) r.moved.points moved.points);
        corners = subst (λ p. AreShifted (apart start p) (corners outline) (corners next)) (sym is)
            (shifted_on by start place (corners outline) (corners current) (corners next) hn hs hq (corners_numbers outline n) r.moved.corners moved.corners);
      };
      first = first;
      within = subst (λ t. IfOk t AreWithin) e (outline_within by current hn c);
      point = subst (λ t. IfOk t IsPoint) f (point_within by place hn hq);
    }

-- what the start's moves say of the outline's
abbrev pub Displaced : List Segment → Point → Result Point Code → Result (List Segment) Code → Type 0
Displaced outline start (Err e) r = r ≡ Err e
Displaced outline start (Ok to) r =
    (passed r ≡ move_check (apart start to) (extremes (corners outline)))
    × IfOk r (λ moved. AreWithin moved × (summary moved ≡ shifted_summary (apart start to) (summary outline)))

displaced_once : (by : Point) (outline current : List Segment) (start place : Point) (to : Result Point Code) (r : Result (List Segment) Code)
    → IsStill outline start → IsDistance by → Rides outline current start place → moved_point by place ≡ to → moved_outline by current ≡ r → Displaced outline start to r
displaced_once by outline current start place (Err e) r h hb rides f g = sym g ∙ subst (λ t. FirstMoves t (moved_outline by current)) f (first_moves by current place rides.first)
displaced_once by outline current start place (Ok to) r h hb rides f g =
    let hn = distance_number by hb in
    let hs = point_number start h.start_place in
    let hq = point_number place rides.point in
    let n = corners_numbers outline (numbers outline h.within) in
    let is : IsShifted by place to = subst (λ t. IfOk t (IsShifted by place)) f (point_shifted by place) in
    let there : IsPoint to = subst (λ t. IfOk t IsPoint) f (point_within by place hn hq) in
    let easy = easy_corners by start place (corners outline) (corners current) hn hq (corners_numbers current (numbers current rides.within)) h.start_whole
    (whole_corners outline h.whole) (subst IsPoint is there) rides.moved.corners in (
      ap passed (sym g) ∙ outline_passed by current hn easy
          ∙ ap (move_check by) (extremes_shifted (apart start place) (corners outline) (corners current) (apart_number start place hs hq) n rides.moved.corners)
          ∙ ap limit_check (some_twice by start place (extremes (corners outline)) hn hs hq (extremes_lowest (corners outline) n))
          ∙ ap (λ p. move_check (apart start p) (extremes (corners outline))) (sym is),
      reported r g,
    )
  where
    reported : (t : Result (List Segment) Code) → moved_outline by current ≡ t → IfOk t (λ moved. AreWithin moved × (summary moved ≡ shifted_summary (apart start to) (summary outline)))
    reported (Err c) e = tt
    reported (Ok next) e =
        let on = rides_on by outline current next start place to h hb rides e f in
        (on.within, moved_by_law (apart start to) outline next (apart_number start to (point_number start h.start_place) (point_number to on.point)) (numbers outline h.within) on.moved)

displaced_turns : (moves : List Point) (last : Point) (outline current : List Segment) (start place : Point) → IsStill outline start → AllByRecursion IsDistance moves → IsDistance last
    → Rides outline current start place → IsOk (in_turn moves current) → Displaced outline start (point_through moves last place) (through moves last current)
displaced_turns [] last outline current start place h hm hl rides ok =
    displaced_once last outline current start place (moved_point last place) (moved_outline last current) h hl rides refl refl
displaced_turns (by ∷ moves) last outline current start place h hm hl rides ok =
    steps (moved_point by place) (moved_outline by current) refl refl (λ to next on more. displaced_turns moves last outline next start to h hm.1 hl on more)
  where
    steps : (to : Result Point Code) (r : Result (List Segment) Code) → moved_point by place ≡ to → moved_outline by current ≡ r
        → ((to : Point) (next : List Segment) → Rides outline next start to → IsOk (in_turn moves next) → Displaced outline start (point_through moves last to) (through moves last next))
        → Displaced outline start (to >>= point_through moves last) (r >>= through moves last)
    steps to (Err c) f g others = let k : IsOk (Err c >>= in_turn moves) = subst (λ t. IsOk (t >>= in_turn moves)) g ok in absurd (cc)
    steps (Err e) (Ok next) f g others =
        let k : FirstMoves (Err e) (Ok next) = subst (λ t. FirstMoves (Err e) t) g (subst (λ t. FirstMoves t (moved_outline by current)) f (first_moves by current place rides.first)) in absurd (cc)
    steps (Ok to) (Ok next) f g others =
        others to next (rides_on by outline current next start place to h hm.0 rides g f) (subst (λ t. IsOk (t >>= in_turn moves)) g ok)

-- a whole outline is moved in turn by its start and its extremes
pub displaced : (moves : List Point) (last : Point) (outline : List Segment) (start : Point) → IsStill outline start → first_point outline ≡ Some start
    → AllByRecursion IsDistance moves → IsDistance last → IsOk (in_turn moves outline)
    → Displaced outline start (point_through moves last start) (through moves last outline)
displaced moves last outline start h first hm hl ok = displaced_turns moves last outline outline start start h hm hl (rides_start outline start h first) ok
