use Rattle.std.proofs.Common.{◌+◌, ◌<◌, List, drop, length, subst, sym, ap, ◌∙◌, arith, Ok}
use Rattle.std.specs.Prelude.{Option, Some}
use Rattle.std.proofs.lemmas.List.Elements.{All-get_or}
use Rattle.t1_run.specs.declared.outline.Segment.{Segment}
use Rattle.t1_run.specs.Composite.{IsWithin}
use Rattle.t1_afm.specs.declared.bbox.BBox.{BBox}
use Rattle.t1_afm.specs.Box.{unite}
use Rattle.t1_afm.proofs.Boxes.{Rest, Rest-unmoved, outline_is}
use Rattle.t1_afm.proofs.measuring.bounding_box.Goals as goal

pub extended-extent-requires : goal.extended-extent-requires
extended-extent-requires c =
    let i = c.loop-segment.segment-index in
    let inside : i < length c.args.segments.now = omega arith in
    subst IsWithin (sym c.segment-item.is) (All-get_or IsWithin c.args.segments.now i c.segment-item.result inside c.requires)

pub loop-segment-preserved : goal.loop-segment-preserved
loop-segment-preserved c =
    let segments = c.args.segments.now in
    let i = c.loop-segment.segment-index in
    let item = c.segment-item.result in
    let found = c.loop-segment.extent in
    let split = outline_is segments i item (omega arith) c.segment-item.is in
    let rest = subst (λ (l : List Segment). Rest (Ok l) found (Ok segments)) split c.loop-segment.invariant in
    let next = Rest-unmoved item (drop (i + 1) segments) found segments rest in
    let is = c.extended-extent.ensures in
    subst (λ (x : Option BBox). Rest (Ok (drop (i + 1) segments)) x (Ok segments)) (sym is) next
