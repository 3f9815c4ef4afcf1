use Rattle.std.proofs.Common.{◌+◌, List, drop, subst, sym, ap, ◌∙◌, arith}
use Rattle.std.specs.Prelude.{Option, Some}
use Rattle.t1_run.specs.declared.outline.Segment.{Segment}
use Rattle.t1_run.specs.Composite.{moved_outline}
use Rattle.t1_afm.specs.declared.bbox.BBox.{BBox}
use Rattle.t1_afm.specs.Box.{unite}
use Rattle.t1_afm.proofs.Boxes.{Rest, Rest-step, outline_is}
use Rattle.t1_afm.proofs.measuring.measure.Goals as goal

pub loop-segment-preserved : goal.loop-segment-preserved
loop-segment-preserved c =
    let by = c.args.offset.now in
    let segments = c.args.segments.now in
    let i = c.loop-segment.segment-index in
    let item = c.segment-item.result in
    let whole = moved_outline by segments in
    let found = c.loop-segment.extent in
    let split = outline_is segments i item (omega arith) c.segment-item.is in
    let rest = subst (λ (l : List Segment). Rest (moved_outline by l) found whole) split c.loop-segment.invariant in
    let next = Rest-step by item c.in-Ok.segment (drop (i + 1) segments) found whole (sym c.moved_segment.ensures.moved ∙ c.in-Ok.is) rest in
    let is = c.extended-extent.ensures in
    subst (λ (x : Option BBox). Rest (moved_outline by (drop (i + 1) segments)) x whole) (sym is) next
