-- What is kept of a run.
use Rattle.std.proofs.Common.{◌≡◌, ◌∙◌, refl, ap, sym, subst, [], ◌∷◌, List, Option, None}
use Rattle.std.specs.Prelude.{Ok, option_map}
use Rattle.t1_run.specs.declared.outline.Segment.{Segment}
use Rattle.t1_afm.specs.Box.{drawn_box}
use Rattle.t1_afm.specs.Points.{points}
use Rattle.t1_extent.specs.declared.extent.Extent.{Extent}
use Rattle.t1_extent.specs.declared.reached.Drawn.{Drawn}
use Rattle.t1_extent.specs.declared.reached.Drawn.TheVariants.{Whole}
use Rattle.t1_extent.specs.Exacts.{extremes_of}
use Rattle.t1_extent.specs.Extremes.{extremes, rounded, limit_check}
use Rattle.t1_extent.specs.Reached.{IsDrawnBy}
use Rattle.t1_extent.proofs.BoxLaws.{drawn_box_law, drawn_some}
use Rattle.t1_extent.proofs.Limited.{limits_law}
use Rattle.t1_extent.specs.Laws.{AreWithin}

pub kept_within : (extent : Option Extent) (outline : List Segment) → AreWithin outline → option_map extremes_of extent ≡ extremes (points outline)
    → limit_check (option_map extremes_of extent) ≡ Ok tt
kept_within extent outline h e = ap limit_check e ∙ (limits_law outline h).0

pub kept_box : (extent : Option Extent) (outline : List Segment) → AreWithin outline → option_map extremes_of extent ≡ extremes (points outline)
    → option_map rounded (option_map extremes_of extent) ≡ drawn_box outline
kept_box extent outline h e = ap (option_map rounded) e ∙ sym (drawn_box_law outline h)

-- what is kept exactly
pub whole_drawn : (drawn : Drawn) (extent : Option Extent) (outline : List Segment) → drawn ≡ Whole extent → IsDrawnBy drawn outline
    → option_map extremes_of extent ≡ extremes (points outline)
whole_drawn drawn extent outline e h = (subst (λ d. IsDrawnBy d outline) e h).1

-- an outline that draws nothing has no segments
pub none_drawn : (outline : List Segment) → extremes (points outline) ≡ None → outline ≡ []
none_drawn [] e = refl
none_drawn (s ∷ ss) e = let k = drawn_some s ss ∙ ap (option_map rounded) e in absurd (cc)
