-- Boxes of outlines that are moved by whole distances.
use Rattle.std.proofs.Common.{◌≡◌, ◌<◌, List, [], ◌∷◌, ◌++◌, map, refl, ap, ◌∙◌, sym, Some, ◌+ℤ◌}
use Rattle.std.specs.Prelude.{fold, option_map, IfOk, Result, Ok, Err}
use Rattle.std.specs.List.{AllByRecursion, range_with_len}
use Rattle.t1_frac.specs.Fraction.{Fraction, plus, floor_of, ceiling_of}
use Rattle.t1_frac.specs.declared.fault.Code.{Code}
use Rattle.t1_frac.proofs.Rounded.{floor_and_ceiling_move}
use Rattle.t1_run.specs.declared.outline.Point.{Point}
use Rattle.t1_run.specs.declared.outline.Segment.{Segment}
use Rattle.t1_run.specs.declared.outline.Segment.TheVariants.{Line, Curve}
use Rattle.t1_run.specs.Composite.{moved_outline}
use Rattle.t1_afm.specs.Box.{drawn_box}
use Rattle.t1_afm.specs.Points.{points, curve_at, sixty_fourths}
use Rattle.t1_extent.specs.Extremes.{Extremes, point_extremes, reaching, extremes, rounded, boxed, shifted, shifted_by, moved_box, IsWhole}
use Rattle.t1_extent.specs.Laws.{Summary, summary, shifted_summary, AreWithin, DrawnBoxLaw, BoxMovesLaw}
use Rattle.t1_extent.proofs.Exacts.{floor_value, ceiling_value}
use Rattle.t1_extent.proofs.Flags.{whole_is}
use Rattle.t1_extent.proofs.Folding.{IsNumber, AreLowest, point_lowest, points_lowest, fold_lowest}
use Rattle.t1_afm.proofs.Boxes.{same_box}
use Rattle.t1_extent.proofs.Moving.{outline_numbers}
use Rattle.t1_extent.proofs.Shifting.{plus_above}
use Rattle.t1_extent.proofs.Summaries.{box_law, moved_law, outline_within, distance_number, numbers}

some_box : (ps qs : List Point) (p : Point) → ps ≡ p ∷ qs → Some (boxed (extremes ps)) ≡ option_map rounded (extremes ps)
some_box ps qs p e = rw e refl

pub drawn_some : (s : Segment) (ss : List Segment) → Some (boxed (extremes (points (s ∷ ss)))) ≡ option_map rounded (extremes (points (s ∷ ss)))
unfolding sixty_fourths
drawn_some (Line a b) ss = some_box (points (Line a b ∷ ss)) (b ∷ points ss) a refl
drawn_some (Curve a b c d) ss =
    some_box (points (Curve a b c d ∷ ss)) (map (curve_at a b c d) (range_with_len 1 64) ++ points ss) (curve_at a b c d 0) refl

pub drawn_box_law : DrawnBoxLaw
drawn_box_law [] h = refl
drawn_box_law (s ∷ ss) h = ap Some (box_law (s ∷ ss) h) ∙ drawn_some s ss

-- ---- whole moves

floor_shifted : (d a : Fraction) → d.den ≡ 1 → 0 < d.den → 0 < a.den → floor_of (shifted d a) ≡ floor_of a +ℤ d.num
floor_shifted d a one hd ha =
    floor_value (plus a d) (plus_above a d ha hd) ∙ ap (λ e. floor_of (plus a e)) (whole_is d one) ∙ (floor_and_ceiling_move a d.num ha).0

ceiling_shifted : (d a : Fraction) → d.den ≡ 1 → 0 < d.den → 0 < a.den → ceiling_of (shifted d a) ≡ ceiling_of a +ℤ d.num
ceiling_shifted d a one hd ha =
    ceiling_value (plus a d) (plus_above a d ha hd) ∙ ap (λ e. ceiling_of (plus a e)) (whole_is d one) ∙ (floor_and_ceiling_move a d.num ha).1

rounded_moves : (by : Point) (e : Extremes) → IsWhole by → IsNumber by → AreLowest e → rounded (shifted_by by e) ≡ moved_box by (rounded e)
rounded_moves by e w hb h = same_box _ _ _ _ _ _ _ _
    (floor_shifted by.x e.left w.x hb.x h.left.above) (floor_shifted by.y e.bottom w.y hb.y h.bottom.above)
    (ceiling_shifted by.x e.right w.x hb.x h.right.above) (ceiling_shifted by.y e.top w.y hb.y h.top.above)

all_rounded : (by : Point) (ps : List Point) → IsWhole by → IsNumber by → AllByRecursion IsNumber ps
    → option_map rounded (option_map (shifted_by by) (extremes ps)) ≡ option_map (moved_box by) (option_map rounded (extremes ps))
all_rounded by [] w hb hs = refl
all_rounded by (p ∷ ps) w hb hs =
    ap Some (rounded_moves by (fold reaching (point_extremes p) (map point_extremes ps)) w hb (fold_lowest (point_extremes p) (map point_extremes ps) (point_lowest p hs.0) (points_lowest ps hs.1)))

both_ok : {A : Type 0} (P Q R : A → Type 0) (r : Result A Code) → ((x : A) → P x → Q x → R x) → IfOk r P → IfOk r Q → IfOk r R
both_ok P Q R (Ok x) f h k = f x h k
both_ok P Q R (Err c) f h k = tt

pub box_moves_law : BoxMovesLaw
box_moves_law by outline hb w h =
    let hn = distance_number by hb in
    let all = outline_numbers outline (numbers outline h) in
    both_ok AreWithin (λ moved. summary moved ≡ shifted_summary by (summary outline)) (λ moved. drawn_box moved ≡ option_map (moved_box by) (drawn_box outline))
    (moved_outline by outline)
    (λ moved within same.
    drawn_box_law moved within ∙ ap (λ (s : Summary). option_map rounded s.drawn) same ∙ all_rounded by (points outline) w hn all
    ∙ ap (option_map (moved_box by)) (sym (drawn_box_law outline h)))
    (outline_within by outline hn (numbers outline h)) (moved_law by outline hb h)
