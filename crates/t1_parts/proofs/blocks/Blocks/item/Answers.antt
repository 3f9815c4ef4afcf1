use Rattle.std.proofs.Common.{ap, length, sym, ◌∙◌, arith}
use Rattle.std.specs.List.{slice_index_or}
use Rattle.t1_buckets.specs.Buckets.{shared_joined}
use Rattle.t1_buckets.proofs.SharedLaws.{bucket_here, index_within, item_there, offset_within}
use Rattle.t1_parts.proofs.blocks.Blocks.item.Goals as goal

pub item-requires : goal.item-requires
item-requires c =
    let bs = c.as_slice-blocks.result.now in
    let p = c.place_of-index.result in
    let here = ap length (c.deref.ensures ∙ sym (bucket_here p.0 bs c.index-blocks-index.result (index_within c.args.at bs p c.place_of-index.ensures) c.index-blocks-index.is)) in
    omega (arith, here, offset_within c.args.at bs p c.place_of-index.ensures)

pub returns : goal.returns
returns c d =
    let bs = c.as_slice-blocks.result.now in
    let p = c.place_of-index.result in
    let here = c.deref.ensures ∙ sym (bucket_here p.0 bs c.index-blocks-index.result (index_within c.args.at bs p c.place_of-index.ensures) c.index-blocks-index.is) in
    ap (λ xs. slice_index_or xs c.args.at d) (sym c.self.view_is ∙ ap shared_joined (sym c.as_slice-blocks.ensures.value))
    ∙ item_there c.args.at bs p c.place_of-index.ensures d
    ∙ ap (λ t. slice_index_or t p.1 d) (sym here)
    ∙ c.item.ensures d
