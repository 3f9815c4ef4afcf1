-- Boxes of lists of points, one list after another.
use Rattle.std.proofs.Common.{◌≡◌, ℕ, suc, ◌+◌, ◌<◌, length, get_or, drop, drop-cons, add-one, List, [], ◌∷◌, ◌++◌, map, refl, ap, ◌∙◌, sym, subst, append-nil, arith, Option, Some, None, ℤ, pos}
use Rattle.std.specs.Prelude.{fold, unwrap_or, Result, Ok, Err}
use Rattle.std.specs.Int.{int_min, int_max}
use Rattle.std.proofs.lemmas.Int.{int_min_is, int_max_is}
use Rattle.std.specs.List.{range_with_len}
use borrow.Author.Differences.{same_in}
use Rattle.t1_frac.specs.Fraction.{Fraction, floor_of, ceiling_of}
use Rattle.t1_frac.specs.declared.fault.Code.{Code}
use Rattle.t1_run.specs.declared.outline.Point.{Point}
use Rattle.t1_run.specs.declared.outline.Segment.{Segment}
use Rattle.t1_run.specs.declared.outline.Segment.TheVariants.{Line, Curve}
use Rattle.t1_frac.specs.Outcome.{◌>>=◌}
use Rattle.t1_run.specs.Composite.{moved_segment, moved_outline}
use Rattle.t1_afm.specs.declared.bbox.BBox.{BBox}
use Rattle.t1_afm.specs.Points.{points, points_of, cubic_at, curve_at, sixty_fourths}
use Rattle.t1_afm.specs.CubicValues.{cubic_values}
use Rattle.t1_afm.specs.Box.{box, around, unite}
use Rattle.t1_afm.specs.Spans.{span_of, spans_box}

map-map_x : (f : Fraction → ℤ) (a b c d : Point) (ks : List ℕ) → map (λ (p : Point). f p.x) (map (curve_at a b c d) ks) ≡ map f (map (cubic_at a.x b.x c.x d.x) ks)
map-map_x f a b c d [] = refl
map-map_x f a b c d (k ∷ ks) = ap (λ l. f (cubic_at a.x b.x c.x d.x k) ∷ l) (map-map_x f a b c d ks)

map-map_y : (f : Fraction → ℤ) (a b c d : Point) (ks : List ℕ) → map (λ (p : Point). f p.y) (map (curve_at a b c d) ks) ≡ map f (map (cubic_at a.y b.y c.y d.y) ks)
map-map_y f a b c d [] = refl
map-map_y f a b c d (k ∷ ks) = ap (λ l. f (cubic_at a.y b.y c.y d.y k) ∷ l) (map-map_y f a b c d ks)

pub line_box : (a b : Point) → spans_box (span_of (a.x ∷ b.x ∷ [])) (span_of (a.y ∷ b.y ∷ [])) ≡ box (points_of (Line a b))
line_box a b = refl

pub curve_box : (a b c d : Point) → spans_box (span_of (cubic_values a.x b.x c.x d.x)) (span_of (cubic_values a.y b.y c.y d.y)) ≡ box (points_of (Curve a b c d))
curve_box a b c d =
    simp (map-map_x floor_of a b c d sixty_fourths, map-map_y floor_of a b c d sixty_fourths, map-map_x ceiling_of a b c d sixty_fourths, map-map_y ceiling_of a b c d sixty_fourths) refl

pub int_min_assoc : (x y z : ℤ) → int_min (int_min x y) z ≡ int_min x (int_min y z)
int_min_assoc x y z = same_in _ _ (omega (arith, int_min_is (int_min x y) z, int_min_is x y, int_min_is x (int_min y z), int_min_is y z))

pub int_max_assoc : (x y z : ℤ) → int_max (int_max x y) z ≡ int_max x (int_max y z)
int_max_assoc x y z = same_in _ _ (omega (arith, int_max_is (int_max x y) z, int_max_is x y, int_max_is x (int_max y z), int_max_is y z))

fold_min : (x y : ℤ) (zs : List ℤ) → fold int_min (int_min x y) zs ≡ int_min x (fold int_min y zs)
fold_min x y [] = refl
fold_min x y (z ∷ zs) = ap (λ w. fold int_min w zs) (int_min_assoc x y z) ∙ fold_min x (int_min y z) zs

fold_max : (x y : ℤ) (zs : List ℤ) → fold int_max (int_max x y) zs ≡ int_max x (fold int_max y zs)
fold_max x y [] = refl
fold_max x y (z ∷ zs) = ap (λ w. fold int_max w zs) (int_max_assoc x y z) ∙ fold_max x (int_max y z) zs

min_append : (f : Point → ℤ) (a : ℤ) (ps : List Point) (q : Point) (qs : List Point)
    → fold int_min a (map f (ps ++ q ∷ qs)) ≡ int_min (fold int_min a (map f ps)) (fold int_min (f q) (map f qs))
min_append f a [] q qs = fold_min a (f q) (map f qs)
min_append f a (p ∷ ps) q qs = min_append f (int_min a (f p)) ps q qs

max_append : (f : Point → ℤ) (a : ℤ) (ps : List Point) (q : Point) (qs : List Point)
    → fold int_max a (map f (ps ++ q ∷ qs)) ≡ int_max (fold int_max a (map f ps)) (fold int_max (f q) (map f qs))
max_append f a [] q qs = fold_max a (f q) (map f qs)
max_append f a (p ∷ ps) q qs = max_append f (int_max a (f p)) ps q qs

pub same_box : (l l' b b' r r' t t' : ℤ) → l ≡ l' → b ≡ b' → r ≡ r' → t ≡ t'
    → ◌≡◌ {A = BBox} (record { left = l; bottom = b; right = r; top = t }) (record { left = l'; bottom = b'; right = r'; top = t' })
same_box l l' b b' r r' t t' e f g h = rw (e, f, g, h) refl

box-append : (p : Point) (ps : List Point) (q : Point) (qs : List Point) → box ((p ∷ ps) ++ (q ∷ qs)) ≡ around (box (p ∷ ps)) (box (q ∷ qs))
box-append p ps q qs = same_box _ _ _ _ _ _ _ _
    (min_append (λ s. floor_of s.x) (floor_of p.x) ps q qs) (min_append (λ s. floor_of s.y) (floor_of p.y) ps q qs)
    (max_append (λ s. ceiling_of s.x) (ceiling_of p.x) ps q qs) (max_append (λ s. ceiling_of s.y) (ceiling_of p.y) ps q qs)

around_assoc : (a b c : BBox) → around (around a b) c ≡ around a (around b c)
around_assoc a b c = same_box _ _ _ _ _ _ _ _
    (int_min_assoc a.left b.left c.left) (int_min_assoc a.bottom b.bottom c.bottom) (int_max_assoc a.right b.right c.right) (int_max_assoc a.top b.top c.top)

-- the box of points, where there are some
abbrev pub extent : List Point → Option BBox
extent [] = None
extent (p ∷ ps) = Some (box (p ∷ ps))

pub unite_none : (e : Option BBox) → unite e None ≡ e
unite_none None = refl
unite_none (Some a) = refl

pub unite_assoc : (a b c : Option BBox) → unite (unite a b) c ≡ unite a (unite b c)
unite_assoc None b c = refl
unite_assoc (Some a) None c = refl
unite_assoc (Some a) (Some b) None = refl
unite_assoc (Some a) (Some b) (Some c) = ap Some (around_assoc a b c)

pub extent-append : (ps qs : List Point) → extent (ps ++ qs) ≡ unite (extent ps) (extent qs)
extent-append [] qs = refl
extent-append (p ∷ ps) [] = ap extent (append-nil (p ∷ ps))
extent-append (p ∷ ps) (q ∷ qs) = ap Some (box-append p ps q qs)

-- a segment has points
from_first : (f : ℕ → Point) (ks : List ℕ) (k : ℕ) (ls : List ℕ) → ks ≡ k ∷ ls → extent (map f ks) ≡ Some (box (map f ks))
from_first f ks k ls e = rw e refl

pub sixty_is : sixty_fourths ≡ 0 ∷ range_with_len 1 64
unfolding sixty_fourths
sixty_is = refl

segment_extent : (s : Segment) → extent (points_of s) ≡ Some (box (points_of s))
segment_extent (Line a b) = refl
segment_extent (Curve a b c d) = from_first (curve_at a b c d) sixty_fourths 0 (range_with_len 1 64) sixty_is

-- what is found, with the box of the rest, is the box of the whole
abbrev pub Rest : Result (List Segment) Code → Option BBox → Result (List Segment) Code → Type 0
Rest (Ok rest) e (Ok whole) = unite e (extent (points rest)) ≡ extent (points whole)
Rest (Ok rest) e (Err fault) = ⊥
Rest (Err fault) e whole = ⊥

step_at : (r : Result (List Segment) Code) (s : Segment) (e : Option BBox) (whole : Result (List Segment) Code)
    → Rest (r >>= (λ ss. Ok (s ∷ ss))) e whole → Rest r (unite e (Some (box (points_of s)))) whole
step_at (Ok ss) s e (Ok whole) h =
    unite_assoc e (Some (box (points_of s))) (extent (points ss))
    ∙ ap (λ x. unite e (unite x (extent (points ss)))) (sym (segment_extent s))
    ∙ ap (unite e) (sym (extent-append (points_of s) (points ss))) ∙ h
step_at (Ok ss) s e (Err fault) h = absurd h
step_at (Err fault) s e whole h = absurd h

pub Rest-step : (by : Point) (s s' : Segment) (ss : List Segment) (e : Option BBox) (whole : Result (List Segment) Code) → moved_segment by s ≡ Ok s'
    → Rest (moved_outline by (s ∷ ss)) e whole → Rest (moved_outline by ss) (unite e (Some (box (points_of s')))) whole
Rest-step by s s' ss e whole is h =
    step_at (moved_outline by ss) s' e whole (subst (λ r. Rest (r >>= (λ t. moved_outline by ss >>= (λ ts. Ok (t ∷ ts)))) e whole) is h)

pub box_of_extent : (ps : List Point) → unwrap_or (extent ps) (record { left = pos 0; bottom = pos 0; right = pos 0; top = pos 0 }) ≡ box ps
box_of_extent [] = refl
box_of_extent (p ∷ ps) = refl

-- the rest begins with its item
pub outline_is : (xs : List Segment) (i : ℕ) (x : Segment) → i < length xs → x ≡ get_or xs i x → drop i xs ≡ x ∷ drop (i + 1) xs
outline_is xs i x h e = rw (add-one, drop-cons xs i x) (ap (λ y. y ∷ drop (suc i) xs) (sym e))

pub Rest-unmoved : (s : Segment) (ss : List Segment) (e : Option BBox) (whole : List Segment) → Rest (Ok (s ∷ ss)) e (Ok whole) → Rest (Ok ss) (unite e (Some (box (points_of s)))) (Ok whole)
Rest-unmoved s ss e whole h = step_at (Ok ss) s e (Ok whole) h
