-- Worked rows of outlines' texts, computed by the definitions.
use Rattle.std.proofs.Common.{◌≡◌, [], ◌∷◌, refl, ℤ, pos, negsuc}
use Rattle.std.specs.Prelude.{codes}
use Rattle.std.specs.Fmt.{digits}
use Rattle.t1_run.specs.declared.outline.Point.{Point}
use Rattle.t1_run.specs.declared.outline.Segment.TheVariants.{Line, Curve}
use Rattle.t1_outline.specs.Text.{outline_text}

abbrev at : ℤ → ℤ → Point
at x y = record { x = record { num = x; den = 1 }; y = record { num = y; den = 1 } }

abbrev halfway : ℤ → ℤ → Point
halfway x y = record { x = record { num = x; den = 2 }; y = record { num = y; den = 1 } }

nothing : outline_text [] ≡ []
unfolding outline_text
nothing = refl

-- a line, a curve that goes on, and a line after a gap
lines_and_a_curve : outline_text (
    Line (at (pos 0) (pos 0)) (at (pos 5) (negsuc 6))
    ∷ Curve (at (pos 5) (negsuc 6)) (at (pos 10) (pos 20)) (at (pos 30) (pos 40)) (halfway (pos 5) (pos 60))
    ∷ Line (at (pos 2) (pos 60)) (halfway (negsuc 0) (pos 1))
    ∷ [])
    ≡ codes "M 0 0\nL 5 -7\nC 10 20 30 40 5/2 60\nM 2 60\nL -1/2 1\n"
unfolding digits outline_text
lines_and_a_curve = refl
