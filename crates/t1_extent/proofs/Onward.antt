-- Extremes of an outline, by those of its first segment.
use Rattle.std.proofs.Common.{◌≡◌, [], ◌∷◌, List, flat_map, arith, refl, ap, ◌∙◌, sym, subst, Option, Some, None}
use Rattle.std.specs.Prelude.{IfSome}
use Rattle.std.specs.List.{AllByRecursion}
use Rattle.t1_run.specs.declared.outline.Point.{Point}
use Rattle.t1_run.specs.declared.outline.Segment.{Segment}
use Rattle.t1_extent.specs.declared.sides.Sides.{Sides}
use Rattle.t1_extent.specs.Ends.{ends_of, ends, inner_of, inner}
use Rattle.t1_extent.specs.Extremes.{Extremes, point_extremes, corners, extremes, reaching, unite_extremes}
use Rattle.t1_extent.specs.Laws.{AreWithin}
use Rattle.t1_extent.specs.Sides.{whole_extremes}
use Rattle.t1_extent.proofs.Bending.{ends_numbers}
use Rattle.t1_extent.proofs.Cornering.{corners_united, inner_numbers}
use Rattle.t1_extent.proofs.Folding.{IsNumber, AreLowest, extremes-append, reaching_assoc}
use Rattle.t1_extent.proofs.Moving.{AreNumbers}
use Rattle.t1_extent.proofs.Order.{canonical}
use Rattle.t1_extent.proofs.Squeezing.{reaching_again}
use Rattle.t1_extent.proofs.Summaries.{within_numbers, numbers}
use Rattle.t1_extent.proofs.Uniting.{each_as, each_numbers, extremes_lowest, same_unite, unite_assoc, unite_lowest, unite_turned}

pub whole_lowest : (s : Sides 20) → AreLowest (whole_extremes s)
whole_lowest s = record {
  left = canonical (record { num = s.left; den = 1 }) (omega arith);
  bottom = canonical (record { num = s.bottom; den = 1 }) (omega arith);
  right = canonical (record { num = s.right; den = 1 }) (omega arith);
  top = canonical (record { num = s.top; den = 1 }) (omega arith);
}

-- two points, one after the other
pub two_onto : (s x y : Sides 20) (m r : Extremes) (a b : Point) → m ≡ reaching (whole_extremes s) (whole_extremes x) → r ≡ reaching m (whole_extremes y)
    → whole_extremes x ≡ point_extremes a → whole_extremes y ≡ point_extremes b → Some r ≡ unite_extremes (Some (whole_extremes s)) (extremes (a ∷ b ∷ []))
two_onto s x y m r a b first second is_a is_b =
    ap Some
    (second ∙ ap (λ e. reaching e (whole_extremes y)) first
    ∙ reaching_assoc (whole_extremes s) (whole_extremes x) (whole_extremes y) (whole_lowest s) (whole_lowest x) (whole_lowest y)
    ∙ ap (λ e. reaching (whole_extremes s) (reaching e (whole_extremes y))) is_a
    ∙ ap (λ e. reaching (whole_extremes s) (reaching (point_extremes a) e)) is_b)

unite_again : (d : Option Extremes) → unite_extremes d d ≡ d
unite_again None = refl
unite_again (Some d) = ap Some (reaching_again d)

-- what is on both sides counts once
once : (d e i j : Option Extremes) → IfSome d AreLowest → IfSome e AreLowest → IfSome i AreLowest → IfSome j AreLowest
    → unite_extremes (unite_extremes d e) (unite_extremes (unite_extremes d i) j) ≡ unite_extremes (unite_extremes d e) (unite_extremes i j)
once d e i j hd he hi hj =
    let both = unite_lowest d e hd he in
    ap (unite_extremes (unite_extremes d e)) (unite_assoc d i j hd hi hj)
    ∙ sym (unite_assoc (unite_extremes d e) d (unite_extremes i j) both hd (unite_lowest i j hi hj))
    ∙ ap (λ x. unite_extremes x (unite_extremes i j)) (unite_turned (unite_extremes d e) d both hd ∙ sym (unite_assoc d d e hd hd he) ∙ ap (λ x. unite_extremes x e) (unite_again d))

later : (f : Segment → List Point) → ((s : Segment) → AreNumbers s → AllByRecursion IsNumber (f s)) → (ss : List Segment) → AreWithin ss → AllByRecursion IsNumber (flat_map f ss)
later f each ss h = each_numbers f ss (each_as AreNumbers (λ s. AllByRecursion IsNumber (f s)) ss each (numbers ss h))

-- the first segment, and the others
first_of : (f : Segment → List Point) → ((s : Segment) → AreNumbers s → AllByRecursion IsNumber (f s)) → (s : Segment) (ss : List Segment) → AreWithin (s ∷ ss)
    → unite_extremes (extremes (f s)) (extremes (flat_map f ss)) ≡ extremes (flat_map f (s ∷ ss))
first_of f each s ss h =
    sym (extremes-append (f s) (flat_map f ss) (each s (within_numbers s h.0)) (later f each ss h.1))

pub ends_onward : (s : Segment) (ss xs : List Segment) (before after : Option Extremes) → xs ≡ s ∷ ss → AreWithin xs → before ≡ extremes (ends_of s)
    → after ≡ unite_extremes before (extremes (ends ss)) → after ≡ extremes (ends xs)
ends_onward s ss xs before after is h e f =
    f ∙ ap (λ x. unite_extremes x (extremes (ends ss))) e ∙ first_of ends_of ends_numbers s ss (subst AreWithin is h) ∙ ap (λ l. extremes (ends l)) (sym is)

pub corners_onward : (s : Segment) (ss xs : List Segment) (before between after : Option Extremes) → xs ≡ s ∷ ss → AreWithin xs → before ≡ extremes (ends_of s)
    → between ≡ unite_extremes before (extremes (inner_of s))
    → after ≡ unite_extremes (unite_extremes before (extremes (ends ss))) (unite_extremes between (extremes (inner ss))) → after ≡ extremes (corners xs)
corners_onward s ss xs before between after is h e f g =
    let w = subst AreWithin is h in
    let n = within_numbers s w.0 in
    let d = extremes (ends_of s) in
    let i = extremes (inner_of s) in
    g
    ∙ same_unite _ _ _ _ (ap (λ x. unite_extremes x (extremes (ends ss))) e) (ap (λ x. unite_extremes x (extremes (inner ss))) (f ∙ ap (λ x. unite_extremes x i) e))
    ∙ once d (extremes (ends ss)) i (extremes (inner ss))
    (extremes_lowest (ends_of s) (ends_numbers s n)) (extremes_lowest (ends ss) (later ends_of ends_numbers ss w.1))
    (extremes_lowest (inner_of s) (inner_numbers s n)) (extremes_lowest (inner ss) (later inner_of inner_numbers ss w.1))
    ∙ same_unite _ _ _ _ (first_of ends_of ends_numbers s ss w) (first_of inner_of inner_numbers s ss w)
    ∙ corners_united (s ∷ ss) w
    ∙ ap (λ l. extremes (corners l)) (sym is)
