-- Extremes of lists of points, one list after another, and their box.
use Rattle.std.proofs.Common.{◌≡◌, ◌<◌, List, [], ◌∷◌, ◌++◌, map, refl, ap, ◌∙◌, append-nil, Some}
use Rattle.std.specs.Prelude.{fold}
use Rattle.std.specs.Int.{int_min, int_max}
use Rattle.std.specs.List.{reduce, AllByRecursion}
use Rattle.std.proofs.lemmas.List.{map-append}
use Rattle.t1_frac.specs.Fraction.{Fraction, lowest, floor_of, ceiling_of}
use Rattle.t1_frac.proofs.Exact.{lowest_same}
use Rattle.t1_frac.proofs.Rounded.{round_alike}
use Rattle.t1_run.specs.declared.outline.Point.{Point}
use Rattle.t1_afm.specs.Box.{box}
use Rattle.t1_extent.specs.Extremes.{Extremes, lesser, greater, point_extremes, reaching, unite_extremes, extremes, boxed}
use Rattle.t1_extent.proofs.Canonical.{lowest_above}
use Rattle.t1_extent.proofs.Order.{IsCanonical, canonical, either, lesser_is, greater_is, lesser_canonical, greater_canonical, lesser_assoc, greater_assoc, floor_lesser, ceiling_greater}
use Rattle.t1_afm.proofs.Boxes.{same_box}

-- both denominators are above 0
pub record IsNumber (p : Point) : Type 0 where
  pub x : 0 < p.x.den
  pub y : 0 < p.y.den

-- each side is in lowest terms
pub record AreLowest (e : Extremes) : Type 0 where
  pub left : IsCanonical e.left
  pub bottom : IsCanonical e.bottom
  pub right : IsCanonical e.right
  pub top : IsCanonical e.top

pub point_lowest : (p : Point) → IsNumber p → AreLowest (point_extremes p)
point_lowest p h = record { left = canonical p.x h.x; bottom = canonical p.y h.y; right = canonical p.x h.x; top = canonical p.y h.y }

pub points_lowest : (ps : List Point) → AllByRecursion IsNumber ps → AllByRecursion AreLowest (map point_extremes ps)
points_lowest [] h = tt
points_lowest (p ∷ ps) h = (point_lowest p h.0, points_lowest ps h.1)

pub reaching_lowest : (d e : Extremes) → AreLowest d → AreLowest e → AreLowest (reaching d e)
reaching_lowest d e h k = record {
  left = lesser_canonical d.left e.left h.left k.left;
  bottom = lesser_canonical d.bottom e.bottom h.bottom k.bottom;
  right = greater_canonical d.right e.right h.right k.right;
  top = greater_canonical d.top e.top h.top k.top;
}

pub same_extremes : (l l' b b' r r' t t' : Fraction) → l ≡ l' → b ≡ b' → r ≡ r' → t ≡ t'
    → ◌≡◌ {A = Extremes} (record { left = l; bottom = b; right = r; top = t }) (record { left = l'; bottom = b'; right = r'; top = t' })
same_extremes l l' b b' r r' t t' e f g h = rw (e, f, g, h) refl

pub reaching_assoc : (c d e : Extremes) → AreLowest c → AreLowest d → AreLowest e → reaching (reaching c d) e ≡ reaching c (reaching d e)
reaching_assoc c d e hc hd he = same_extremes _ _ _ _ _ _ _ _
    (lesser_assoc c.left d.left e.left hc.left hd.left he.left) (lesser_assoc c.bottom d.bottom e.bottom hc.bottom hd.bottom he.bottom)
    (greater_assoc c.right d.right e.right hc.right hd.right he.right) (greater_assoc c.top d.top e.top hc.top hd.top he.top)

fold_reaching : (d e : Extremes) (es : List Extremes) → AreLowest d → AreLowest e → AllByRecursion AreLowest es
    → fold reaching (reaching d e) es ≡ reaching d (fold reaching e es)
fold_reaching d e [] hd he hs = refl
fold_reaching d e (f ∷ fs) hd he hs =
    ap (λ x. fold reaching x fs) (reaching_assoc d e f hd he hs.0) ∙ fold_reaching d (reaching e f) fs hd (reaching_lowest e f he hs.0) hs.1

fold_append : (d : Extremes) (es : List Extremes) (f : Extremes) (fs : List Extremes) → AreLowest d → AllByRecursion AreLowest es → AreLowest f → AllByRecursion AreLowest fs
    → fold reaching d (es ++ f ∷ fs) ≡ reaching (fold reaching d es) (fold reaching f fs)
fold_append d [] f fs hd hs hf ht = fold_reaching d f fs hd hf ht
fold_append d (e ∷ es) f fs hd hs hf ht = fold_append (reaching d e) es f fs (reaching_lowest d e hd hs.0) hs.1 hf ht

reduce_append : (es fs : List Extremes) → AllByRecursion AreLowest es → AllByRecursion AreLowest fs
    → reduce reaching (es ++ fs) ≡ unite_extremes (reduce reaching es) (reduce reaching fs)
reduce_append [] fs hs ht = refl
reduce_append (e ∷ es) [] hs ht = ap (reduce reaching) (append-nil (e ∷ es))
reduce_append (e ∷ es) (f ∷ fs) hs ht = ap Some (fold_append e es f fs hs.0 hs.1 ht.0 ht.1)

-- the extremes of two lists in one
pub extremes-append : (ps qs : List Point) → AllByRecursion IsNumber ps → AllByRecursion IsNumber qs → extremes (ps ++ qs) ≡ unite_extremes (extremes ps) (extremes qs)
extremes-append ps qs h k =
    ap (reduce reaching) (map-append point_extremes ps qs) ∙ reduce_append (map point_extremes ps) (map point_extremes qs) (points_lowest ps h) (points_lowest qs k)

pub fold_lowest : (e : Extremes) (es : List Extremes) → AreLowest e → AllByRecursion AreLowest es → AreLowest (fold reaching e es)
fold_lowest e [] h hs = h
fold_lowest e (f ∷ fs) h hs = fold_lowest (reaching e f) fs (reaching_lowest e f h hs.0) hs.1

-- ---- the box

low_side : (f : Point → Fraction) (side : Extremes → Fraction) → ((e : Extremes) (p : Point) → side (reaching e (point_extremes p)) ≡ lesser (side e) (lowest (f p)))
    → (e : Extremes) (ps : List Point) → 0 < (side e).den → AllByRecursion (λ p. 0 < (f p).den) ps
    → floor_of (side (fold reaching e (map point_extremes ps))) ≡ fold int_min (floor_of (side e)) (map (λ p. floor_of (f p)) ps)
low_side f side is e [] h hs = refl
low_side f side is e (p ∷ ps) h hs =
    let low : 0 < (lowest (f p)).den = lowest_above (f p) hs.0 in
    let some : 0 < (side (reaching e (point_extremes p))).den = rw (is e p) (either (λ a. 0 < a.den) (side e) (lowest (f p)) (lesser (side e) (lowest (f p))) (lesser_is (side e) (lowest (f p))).one h low) in
    low_side f side is (reaching e (point_extremes p)) ps some hs.1
    ∙ ap (λ z. fold int_min z (map (λ q. floor_of (f q)) ps))
    (ap floor_of (is e p) ∙ floor_lesser (side e) (lowest (f p)) h low
    ∙ ap (int_min (floor_of (side e))) (round_alike (lowest (f p)) (f p) low hs.0 (lowest_same (f p))).0)

high_side : (f : Point → Fraction) (side : Extremes → Fraction) → ((e : Extremes) (p : Point) → side (reaching e (point_extremes p)) ≡ greater (side e) (lowest (f p)))
    → (e : Extremes) (ps : List Point) → 0 < (side e).den → AllByRecursion (λ p. 0 < (f p).den) ps
    → ceiling_of (side (fold reaching e (map point_extremes ps))) ≡ fold int_max (ceiling_of (side e)) (map (λ p. ceiling_of (f p)) ps)
high_side f side is e [] h hs = refl
high_side f side is e (p ∷ ps) h hs =
    let low : 0 < (lowest (f p)).den = lowest_above (f p) hs.0 in
    let some : 0 < (side (reaching e (point_extremes p))).den = rw (is e p) (either (λ a. 0 < a.den) (side e) (lowest (f p)) (greater (side e) (lowest (f p))) (greater_is (side e) (lowest (f p))).one h low) in
    high_side f side is (reaching e (point_extremes p)) ps some hs.1
    ∙ ap (λ z. fold int_max z (map (λ q. ceiling_of (f q)) ps))
    (ap ceiling_of (is e p) ∙ ceiling_greater (side e) (lowest (f p)) h low
    ∙ ap (int_max (ceiling_of (side e))) (round_alike (lowest (f p)) (f p) low hs.0 (lowest_same (f p))).1)

xs_above : (ps : List Point) → AllByRecursion IsNumber ps → AllByRecursion (λ p. 0 < p.x.den) ps
xs_above [] h = tt
xs_above (p ∷ ps) h = (h.0.x, xs_above ps h.1)

ys_above : (ps : List Point) → AllByRecursion IsNumber ps → AllByRecursion (λ p. 0 < p.y.den) ps
ys_above [] h = tt
ys_above (p ∷ ps) h = (h.0.y, ys_above ps h.1)

-- the box of points is that of their extremes, rounded outward
pub box_rounded : (ps : List Point) → AllByRecursion IsNumber ps → boxed (extremes ps) ≡ box ps
box_rounded [] h = refl
box_rounded (p ∷ ps) h =
    let x = lowest_above p.x h.0.x in
    let y = lowest_above p.y h.0.y in
    let rx = round_alike (lowest p.x) p.x x h.0.x (lowest_same p.x) in
    let ry = round_alike (lowest p.y) p.y y h.0.y (lowest_same p.y) in
    same_box _ _ _ _ _ _ _ _
    (low_side (λ q. q.x) (λ e. e.left) (λ e q. refl) (point_extremes p) ps x (xs_above ps h.1) ∙ ap (λ z. fold int_min z (map (λ (q : Point). floor_of q.x) ps)) rx.0)
    (low_side (λ q. q.y) (λ e. e.bottom) (λ e q. refl) (point_extremes p) ps y (ys_above ps h.1) ∙ ap (λ z. fold int_min z (map (λ (q : Point). floor_of q.y) ps)) ry.0)
    (high_side (λ q. q.x) (λ e. e.right) (λ e q. refl) (point_extremes p) ps x (xs_above ps h.1) ∙ ap (λ z. fold int_max z (map (λ (q : Point). ceiling_of q.x) ps)) rx.1)
    (high_side (λ q. q.y) (λ e. e.top) (λ e q. refl) (point_extremes p) ps y (ys_above ps h.1) ∙ ap (λ z. fold int_max z (map (λ (q : Point). ceiling_of q.y) ps)) ry.1)
