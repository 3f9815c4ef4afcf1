use Rattle.std.proofs.Common.{◌≡◌, ◌<◌, ◌≤◌, List, [], ◌∷◌, length, get_or, take, Some, arith, ap, ◌∙◌}
use Rattle.t1_run.specs.OtherSubrs.{flex_curves}
use Rattle.t1_run.specs.declared.outline.Point.{Point}
use Rattle.t1_run.specs.declared.outline.Segment.TheVariants.{Curve}
use Rattle.t1_run.proofs.recorded.Recorded.curves.Goals as goal

-- the curves through seven points
curves_of : (before p2 p3 p4 p5 p6 p7 : Point) (xs : List Point) → 7 ≤ length xs → length xs < 8
    → p2 ≡ get_or xs 1 p2 → p3 ≡ get_or xs 2 p3 → p4 ≡ get_or xs 3 p4 → p5 ≡ get_or xs 4 p5 → p6 ≡ get_or xs 5 p6 → p7 ≡ get_or xs 6 p7
    → Some (Curve before p2 p3 p4 ∷ Curve p4 p5 p6 p7 ∷ []) ≡ flex_curves before xs
curves_of before p2 p3 p4 p5 p6 p7 [] low high e2 e3 e4 e5 e6 e7 = absurd (omega arith)
curves_of before p2 p3 p4 p5 p6 p7 (a ∷ []) low high e2 e3 e4 e5 e6 e7 = absurd (omega arith)
curves_of before p2 p3 p4 p5 p6 p7 (a ∷ b ∷ []) low high e2 e3 e4 e5 e6 e7 = absurd (omega arith)
curves_of before p2 p3 p4 p5 p6 p7 (a ∷ b ∷ c ∷ []) low high e2 e3 e4 e5 e6 e7 = absurd (omega arith)
curves_of before p2 p3 p4 p5 p6 p7 (a ∷ b ∷ c ∷ d ∷ []) low high e2 e3 e4 e5 e6 e7 = absurd (omega arith)
curves_of before p2 p3 p4 p5 p6 p7 (a ∷ b ∷ c ∷ d ∷ e ∷ []) low high e2 e3 e4 e5 e6 e7 = absurd (omega arith)
curves_of before p2 p3 p4 p5 p6 p7 (a ∷ b ∷ c ∷ d ∷ e ∷ f ∷ []) low high e2 e3 e4 e5 e6 e7 = absurd (omega arith)
curves_of before p2 p3 p4 p5 p6 p7 (a ∷ b ∷ c ∷ d ∷ e ∷ f ∷ g ∷ []) low high e2 e3 e4 e5 e6 e7 = cc
curves_of before p2 p3 p4 p5 p6 p7 (a ∷ b ∷ c ∷ d ∷ e ∷ f ∷ g ∷ h ∷ rest) low high e2 e3 e4 e5 e6 e7 = absurd (omega arith)

pub returns-in-len7 : goal.returns-in-len7
returns-in-len7 c =
    let xs = take c.self.inside.len c.self.inside.points in
    curves_of _ _ _ _ _ _ _ xs (omega (arith, c.in-len7.len_at_least)) (omega (arith, c.in-len7.len_below)) c.p2-item.is c.p3-item.is c.p4-item.is c.p5-item.is c.p6-item.is c.p7-item.is
    ∙ ap (flex_curves c.args.before) c.self.view_is
