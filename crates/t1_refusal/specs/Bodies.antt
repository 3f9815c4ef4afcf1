-- What the code holds of a refused source.
use Rattle.t1_chain.specs.Machine.{failure_seen}
use Rattle.t1_refusal.specs.declared.met.FailedRun.{FailedRun}
use Rattle.t1_chain.specs.GlyphFailures.{GlyphFailure}
use Rattle.std.specs.Prelude.{◌≡◌, List, Ok, Err}
use Rattle.t1_frac.specs.declared.fault.Fault.{Fault}
use Rattle.t1_parts.specs.declared.item.Item.{Item}
use Rattle.t1_run.specs.Run.{FontBodies}
use Rattle.t1_font.specs.Bodies.{bodies, bodies_check}
use Rattle.t1_font.specs.KeptBodies.{SameBodies}

-- word, refusals: the same, as the code holds it
abbrev pub seen_of : FailedRun → GlyphFailure
seen_of f = record { glyph = f.glyph; failure = failure_seen f.failure }

-- word, refusals: a font with the bodies of these items, which have no fault
abbrev pub AreBodiesOf : FontBodies → List Item → Type 0
AreBodiesOf m items = (bodies_check items ≡ Ok tt) × SameBodies m (bodies items)

-- word, refusals: some body has a fault
abbrev pub HasFaultyBody : List Item → Type 0
HasFaultyBody items = (fault : Fault) × (bodies_check items ≡ Err fault)
