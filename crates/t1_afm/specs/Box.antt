-- Bounding boxes.
use Rattle.std.specs.Prelude.{◌≡◌, List, [], ◌∷◌, ◌++◌, map, fold, flat_map, unwrap_or, Option, Some, None, ℤ, pos}
use Rattle.std.specs.Int.{int_min, int_max}
use Rattle.std.specs.List.{reduce}
use Rattle.t1_frac.specs.Fraction.{floor_of, ceiling_of}
use Rattle.t1_run.specs.declared.outline.Point.{Point}
use Rattle.t1_run.specs.declared.outline.Segment.{Segment}
use Rattle.t1_afm.specs.declared.bbox.BBox.{BBox}
use Rattle.t1_afm.specs.Points.{points}

-- profile: the least of whole numbers, 0 where there are none
abbrev pub least : List ℤ → ℤ
least xs = unwrap_or (reduce int_min xs) (pos 0)

-- profile: the greatest of whole numbers, 0 where there are none
abbrev pub greatest : List ℤ → ℤ
greatest xs = unwrap_or (reduce int_max xs) (pos 0)

-- AFM 4.1, B: the least box of whole numbers around points; 0 0 0 0 where there are none (profile)
abbrev pub box : List Point → BBox
box ps = record {
  left = least (map (λ p. floor_of p.x) ps);
  bottom = least (map (λ p. floor_of p.y) ps);
  right = greatest (map (λ p. ceiling_of p.x) ps);
  top = greatest (map (λ p. ceiling_of p.y) ps);
}

-- profile: the box around two boxes
abbrev pub around : BBox → BBox → BBox
around a b = record {
  left = int_min a.left b.left;
  bottom = int_min a.bottom b.bottom;
  right = int_max a.right b.right;
  top = int_max a.top b.top;
}

-- profile: the same, where there may be none
abbrev pub unite : Option BBox → Option BBox → Option BBox
unite None e = e
unite (Some a) None = Some a
unite (Some a) (Some b) = Some (around a b)

-- AFM 4.1, B: a glyph's box
abbrev pub outline_box : List Segment → BBox
outline_box outline = box (points outline)

-- AFM 4.1, FontBBox: the font's box, around the points of all outlines together
abbrev pub font_box : List (List Segment) → BBox
font_box outlines = box (flat_map points outlines)

-- profile: the box of an outline that draws
abbrev pub drawn_box : List Segment → Option BBox
drawn_box [] = None
drawn_box (segment ∷ outline) = Some (outline_box (segment ∷ outline))

-- profile: the box around all that draw; 0 0 0 0 where none does
abbrev pub united : List (Option BBox) → BBox
united boxes = unwrap_or (fold unite None boxes) (record { left = pos 0; bottom = pos 0; right = pos 0; top = pos 0 })

-- profile: the font's box is the box around the boxes of the outlines that draw
abbrev pub FontBoxOfBoxes : Type 0
FontBoxOfBoxes = (outlines : List (List Segment)) → font_box outlines ≡ united (map drawn_box outlines)

-- profile: the box of two outlines in one is the box around both, of those that draw
abbrev pub BoxOfBoth : Type 0
BoxOfBoth = (a b : List Segment) → drawn_box (a ++ b) ≡ unite (drawn_box a) (drawn_box b)
