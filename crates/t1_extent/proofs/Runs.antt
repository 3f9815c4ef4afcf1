-- What runs draw is within the limits.
use Rattle.std.proofs.Common.{List, [], ◌∷◌, subst, Option, Some, None}
use Rattle.std.specs.Prelude.{IfOk, IfSome}
use Rattle.t1_run.specs.declared.outline.Composite.{Composite}
use Rattle.t1_run.specs.declared.outline.Point.{Point}
use Rattle.t1_run.specs.declared.outline.Segment.{Segment}
use Rattle.t1_run.specs.Composite.{accent_move}
use Rattle.t1_run.proofs.Within.{IsPlaced, AllDrawn}
use Rattle.t1_run.proofs.WithinRuns.{PartsWithin, DrawingWithin, OwnWithin, own-within}
use Rattle.t1_run.proofs.WithinOutlines.{drawn-within}
use Rattle.t1_extent.specs.Laws.{AreWithin, IsDistance, IsAccented, RunsLaw}
use Rattle.t1_extent.proofs.Accents.{accent_law}

segments : (ss : List Segment) → AllDrawn ss → AreWithin ss
segments [] h = tt
segments (s ∷ ss) h = (drawn-within s h.0, segments ss h.1)

accented : (c : Composite) → PartsWithin c → IsAccented c
accented c h = record { asb = h.asb.terms.above; adx = h.adx.terms.above; ady = h.ady.terms.above; ady_fine = h.ady.fine }

distance : (bearing : Point) (c : Option Composite) → IsPlaced bearing → IfSome c PartsWithin → IfSome c (λ parts. IfOk (accent_move bearing parts) IsDistance)
distance bearing None h k = tt
distance bearing (Some c) h k = accent_law bearing c h.x.value.terms.above (accented c k)

pub runs_law : RunsLaw
runs_law m g d e =
    let h : DrawingWithin d = subst OwnWithin e (own-within m g) in
    (segments d.segments h.segments, distance d.bearing d.composite h.bearing h.parts)
