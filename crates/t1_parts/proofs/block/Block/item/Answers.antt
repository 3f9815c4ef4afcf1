use Rattle.std.proofs.Common.{◌<◌, ◌∙◌, ap, sym, subst, length, arith}
use Rattle.std.specs.List.{slice_index_or}
use Rattle.t1_parts.specs.Items.{items_in, stretch_items}
use Rattle.t1_parts.specs.Stretches.{IsPlaceOfItem}
use Rattle.t1_parts.proofs.StretchLaws.{place_item, place_left}
use Rattle.t1_parts.proofs.block.Block.item.Goals as goal

pub returns : goal.returns
returns c d =
    let ss = c.as_slice-stretches.result.now in
    let p = c.place_of-index.result in
    let same = ap items_in c.as_slice-stretches.ensures ∙ c.self.view_is in
    let place : IsPlaceOfItem c.args.at ss p = subst (λ xs. IsPlaceOfItem c.args.at xs p) (sym c.as_slice-stretches.ensures) c.place_of-index.ensures in
    let view = ap length same in
    let here : p.0 < length ss = place_left c.args.at ss p place (omega (arith, view, c.requires)) in
    let s = c.index-stretches-index.result in
    ap (λ xs. slice_index_or xs c.args.at d) (sym same)
    ∙ place_item c.args.at p.0 p.1 ss s d here place.1 (place.2 s here)
    ∙ ap (λ t. slice_index_or (stretch_items t) p.1 d) (sym c.index-stretches-index.is)
    ∙ c.item.ensures d
