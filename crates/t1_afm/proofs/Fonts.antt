-- The font's box, from the boxes of its glyphs.
use Rattle.std.proofs.Common.{◌≡◌, ℕ, List, [], ◌∷◌, ◌++◌, map, refl, ap, ◌∙◌, sym, Option, Some, None}
use Rattle.std.specs.Prelude.{fold, flat_map}
use Rattle.std.specs.List.{range_with_len}
use Rattle.std.proofs.lemmas.Grind.{flat_map-append}
use Rattle.t1_run.specs.declared.outline.Point.{Point}
use Rattle.t1_run.specs.declared.outline.Segment.{Segment}
use Rattle.t1_run.specs.declared.outline.Segment.TheVariants.{Line, Curve}
use Rattle.t1_afm.specs.declared.bbox.BBox.{BBox}
use Rattle.t1_afm.specs.Points.{points, points_of, curve_at, sixty_fourths}
use Rattle.t1_afm.specs.Box.{box, unite, drawn_box, united, FontBoxOfBoxes, BoxOfBoth}
use Rattle.t1_afm.proofs.Boxes.{extent, extent-append, unite_none, unite_assoc, sixty_is, box_of_extent}

from_first : (f : ℕ → Point) (ks : List ℕ) (k : ℕ) (ls : List ℕ) (ps : List Point) → ks ≡ k ∷ ls → extent (map f ks ++ ps) ≡ Some (box (map f ks ++ ps))
from_first f ks k ls ps e = rw e refl

-- an outline with a segment has points
drawn_is : (outline : List Segment) → drawn_box outline ≡ extent (points outline)
drawn_is [] = refl
drawn_is (Line a b ∷ rest) = refl
drawn_is (Curve a b c d ∷ rest) = sym (from_first (curve_at a b c d) sixty_fourths 0 (range_with_len 1 64) (points rest) sixty_is)

united_from : (found : Option BBox) (outlines : List (List Segment)) → fold unite found (map drawn_box outlines) ≡ unite found (extent (flat_map points outlines))
united_from found [] = sym (unite_none found)
united_from found (outline ∷ outlines) =
    united_from (unite found (drawn_box outline)) outlines
    ∙ unite_assoc found (drawn_box outline) (extent (flat_map points outlines))
    ∙ ap (λ e. unite found (unite e (extent (flat_map points outlines)))) (drawn_is outline)
    ∙ ap (unite found) (sym (extent-append (points outline) (flat_map points outlines)))

pub font_box_of_boxes : FontBoxOfBoxes
font_box_of_boxes outlines =
    sym (box_of_extent (flat_map points outlines)) ∙ ap (λ e. united (e ∷ [])) (sym (united_from None outlines))

pub box_of_both : BoxOfBoth
box_of_both a b =
    drawn_is (a ++ b) ∙ ap extent (flat_map-append points_of a b) ∙ extent-append (points a) (points b)
    ∙ ap (λ e. unite e (extent (points b))) (sym (drawn_is a)) ∙ ap (unite (drawn_box a)) (sym (drawn_is b))
