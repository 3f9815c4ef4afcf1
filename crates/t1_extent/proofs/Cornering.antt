-- All points of an outline are the ends of its segments and the points between them.
use Rattle.std.proofs.Common.{◌≡◌, List, [], ◌∷◌, refl, ap, ◌∙◌, sym, Some}
use Rattle.std.specs.List.{AllByRecursion}
use Rattle.t1_run.specs.declared.outline.Segment.{Segment}
use Rattle.t1_run.specs.declared.outline.Segment.TheVariants.{Line, Curve}
use Rattle.t1_extent.specs.Ends.{ends_of, ends, inner_of, inner}
use Rattle.t1_extent.specs.Extremes.{Extremes, point_extremes, corners_of, corners, extremes, reaching, unite_extremes}
use Rattle.t1_extent.specs.Laws.{AreWithin}
use Rattle.t1_extent.proofs.Bending.{ends_numbers}
use Rattle.t1_extent.proofs.Folding.{IsNumber, AreLowest, point_lowest, reaching_assoc, reaching_lowest}
use Rattle.t1_extent.proofs.Moving.{AreNumbers, corner_numbers}
use Rattle.t1_extent.proofs.Summaries.{within_numbers}
use Rattle.t1_extent.proofs.Uniting.{IsUnion, outlines_united, reaching_turned}

pub inner_numbers : (s : Segment) → AreNumbers s → AllByRecursion IsNumber (inner_of s)
inner_numbers (Line a b) h = tt
inner_numbers (Curve a b c d) h = (h.1, (h.2, tt))

-- two in the middle of four
in_the_middle : (a b c d : Extremes) → AreLowest a → AreLowest b → AreLowest c → AreLowest d
    → reaching (reaching a d) (reaching b c) ≡ reaching (reaching (reaching a b) c) d
in_the_middle a b c d ha hb hc hd =
    let both = reaching_lowest b c hb hc in
    reaching_assoc a d (reaching b c) ha hd both
    ∙ ap (reaching a) (reaching_turned d (reaching b c) hd both)
    ∙ sym (reaching_assoc a (reaching b c) d ha both hd)
    ∙ ap (λ x. reaching x d) (sym (reaching_assoc a b c ha hb hc))

ends_and_inner : (s : Segment) → AreNumbers s → IsUnion ends_of inner_of corners_of s
ends_and_inner (Line a b) h =
    record { one = ends_numbers (Line a b) h; other = tt; both = corner_numbers (Line a b) h; united = refl }
ends_and_inner (Curve a b c d) h = record {
  one = ends_numbers (Curve a b c d) h;
  other = inner_numbers (Curve a b c d) h;
  both = corner_numbers (Curve a b c d) h;
  united = ap Some (in_the_middle (point_extremes a) (point_extremes b) (point_extremes c) (point_extremes d) (point_lowest a h.0) (point_lowest b h.1) (point_lowest c h.2) (point_lowest d h.3));
}

each_union : (ss : List Segment) → AreWithin ss → AllByRecursion (IsUnion ends_of inner_of corners_of) ss
each_union [] h = tt
each_union (s ∷ ss) h = (ends_and_inner s (within_numbers s h.0), each_union ss h.1)

pub corners_united : (ss : List Segment) → AreWithin ss → unite_extremes (extremes (ends ss)) (extremes (inner ss)) ≡ extremes (corners ss)
corners_united ss h = outlines_united ends_of inner_of corners_of ss (each_union ss h)
