-- Extremes are united in any order.
use Rattle.std.proofs.Common.{◌≡◌, ◌⊎◌, inl, inr, List, [], ◌∷◌, flat_map, refl, ap, ◌∙◌, sym, Option, Some, None}
use Rattle.std.specs.Prelude.{IfSome}
use Rattle.std.specs.List.{AllByRecursion}
use Rattle.t1_frac.specs.Fraction.{Fraction}
use Rattle.t1_run.specs.declared.outline.Point.{Point}
use Rattle.t1_run.specs.declared.outline.Segment.{Segment}
use Rattle.t1_run.proofs.Within.{each-append}
use Rattle.t1_extent.specs.Extremes.{Extremes, lesser, greater, point_extremes, reaching, unite_extremes, extremes}
use Rattle.t1_extent.proofs.Folding.{IsNumber, AreLowest, point_lowest, points_lowest, reaching_lowest, reaching_assoc, fold_lowest, same_extremes, extremes-append}
use Rattle.t1_extent.proofs.Order.{IsCanonical, lesser_is, greater_is, lesser_canonical, greater_canonical, lesser_one, greater_one}

either_way : {A : Type 0} (m a b : A) → (m ≡ a) ⊎ (m ≡ b) → (m ≡ b) ⊎ (m ≡ a)
either_way m a b (inl e) = inr e
either_way m a b (inr e) = inl e

lesser_turned : (a b : Fraction) → IsCanonical a → IsCanonical b → lesser a b ≡ lesser b a
lesser_turned a b ha hb =
    let l = lesser_is a b in
    lesser_one b a (lesser a b) hb ha (lesser_canonical a b ha hb) l.right l.left (either_way (lesser a b) a b l.one)

greater_turned : (a b : Fraction) → IsCanonical a → IsCanonical b → greater a b ≡ greater b a
greater_turned a b ha hb =
    let g = greater_is a b in
    greater_one b a (greater a b) hb ha (greater_canonical a b ha hb) g.right g.left (either_way (greater a b) a b g.one)

pub reaching_turned : (d e : Extremes) → AreLowest d → AreLowest e → reaching d e ≡ reaching e d
reaching_turned d e h k = same_extremes _ _ _ _ _ _ _ _
    (lesser_turned d.left e.left h.left k.left) (lesser_turned d.bottom e.bottom h.bottom k.bottom)
    (greater_turned d.right e.right h.right k.right) (greater_turned d.top e.top h.top k.top)

-- ---- of those that there are

pub unite_assoc : (c d e : Option Extremes) → IfSome c AreLowest → IfSome d AreLowest → IfSome e AreLowest → unite_extremes (unite_extremes c d) e ≡ unite_extremes c (unite_extremes d e)
unite_assoc None d e hc hd he = refl
unite_assoc (Some c) None e hc hd he = refl
unite_assoc (Some c) (Some d) None hc hd he = refl
unite_assoc (Some c) (Some d) (Some e) hc hd he = ap Some (reaching_assoc c d e hc hd he)

pub unite_turned : (d e : Option Extremes) → IfSome d AreLowest → IfSome e AreLowest → unite_extremes d e ≡ unite_extremes e d
unite_turned None None h k = refl
unite_turned None (Some e) h k = refl
unite_turned (Some d) None h k = refl
unite_turned (Some d) (Some e) h k = ap Some (reaching_turned d e h k)

pub unite_lowest : (d e : Option Extremes) → IfSome d AreLowest → IfSome e AreLowest → IfSome (unite_extremes d e) AreLowest
unite_lowest None e h k = k
unite_lowest (Some d) None h k = h
unite_lowest (Some d) (Some e) h k = reaching_lowest d e h k

pub extremes_lowest : (ps : List Point) → AllByRecursion IsNumber ps → IfSome (extremes ps) AreLowest
extremes_lowest [] h = tt
extremes_lowest (p ∷ ps) h = fold_lowest (point_extremes p) _ (point_lowest p h.0) (points_lowest ps h.1)

-- two pairs, the one beside the other
unite_across : (a b c d : Option Extremes) → IfSome a AreLowest → IfSome b AreLowest → IfSome c AreLowest → IfSome d AreLowest
    → unite_extremes (unite_extremes a b) (unite_extremes c d) ≡ unite_extremes (unite_extremes a c) (unite_extremes b d)
unite_across a b c d ha hb hc hd =
    unite_assoc a b (unite_extremes c d) ha hb (unite_lowest c d hc hd)
    ∙ ap (unite_extremes a) (sym (unite_assoc b c d hb hc hd) ∙ ap (λ x. unite_extremes x d) (unite_turned b c hb hc) ∙ unite_assoc c b d hc hb hd)
    ∙ sym (unite_assoc a c (unite_extremes b d) ha hc (unite_lowest b d hb hd))

-- ---- of outlines, segment by segment

pub record IsUnion (f g h : Segment → List Point) (s : Segment) : Type 0 where
  pub one : AllByRecursion IsNumber (f s)
  pub other : AllByRecursion IsNumber (g s)
  pub both : AllByRecursion IsNumber (h s)
  pub united : unite_extremes (extremes (f s)) (extremes (g s)) ≡ extremes (h s)

pub each_numbers : (f : Segment → List Point) (ss : List Segment) → AllByRecursion (λ s. AllByRecursion IsNumber (f s)) ss → AllByRecursion IsNumber (flat_map f ss)
each_numbers f [] h = tt
each_numbers f (s ∷ ss) h = each-append IsNumber (f s) (flat_map f ss) h.0 (each_numbers f ss h.1)

pub each_as : {X : Type 0} (P Q : X → Type 0) (xs : List X) → ((x : X) → P x → Q x) → AllByRecursion P xs → AllByRecursion Q xs
each_as P Q [] f h = tt
each_as P Q (x ∷ xs) f h = (f x h.0, each_as P Q xs f h.1)

pub same_unite : (c d e f : Option Extremes) → c ≡ e → d ≡ f → unite_extremes c d ≡ unite_extremes e f
same_unite c d e f h k = ap (λ x. unite_extremes x d) h ∙ ap (unite_extremes e) k

pub outlines_united : (f g h : Segment → List Point) (ss : List Segment) → AllByRecursion (IsUnion f g h) ss
    → unite_extremes (extremes (flat_map f ss)) (extremes (flat_map g ss)) ≡ extremes (flat_map h ss)
outlines_united f g h [] u = refl
outlines_united f g h (s ∷ ss) u =
    let fs = each_numbers f ss (each_as (IsUnion f g h) (λ x. AllByRecursion IsNumber (f x)) ss (λ x v. v.one) u.1) in
    let gs = each_numbers g ss (each_as (IsUnion f g h) (λ x. AllByRecursion IsNumber (g x)) ss (λ x v. v.other) u.1) in
    let hs = each_numbers h ss (each_as (IsUnion f g h) (λ x. AllByRecursion IsNumber (h x)) ss (λ x v. v.both) u.1) in
    same_unite _ _ _ _ (extremes-append (f s) (flat_map f ss) u.0.one fs) (extremes-append (g s) (flat_map g ss) u.0.other gs)
    ∙ unite_across (extremes (f s)) (extremes (flat_map f ss)) (extremes (g s)) (extremes (flat_map g ss))
    (extremes_lowest (f s) u.0.one) (extremes_lowest (flat_map f ss) fs) (extremes_lowest (g s) u.0.other) (extremes_lowest (flat_map g ss) gs)
    ∙ same_unite _ _ _ _ u.0.united (outlines_united f g h ss u.1)
    ∙ sym (extremes-append (h s) (flat_map h ss) u.0.both hs)
