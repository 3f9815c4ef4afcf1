use Rattle.std.proofs.Common.{ap, length, subst, sym, ◌∙◌, arith}
use Rattle.std.specs.List.{slice_index_or}
use Rattle.std.proofs.lemmas.List.{get_or_read}
use Rattle.t1_buckets.specs.BucketPlaces.{IsPlaceInBuckets}
use Rattle.t1_buckets.specs.Buckets.{lists_of}
use Rattle.t1_buckets.proofs.SharedLaws.{bucket_here, index_within, item_there, offset_within}
use Rattle.t1_buckets.proofs.buckets.Buckets.get.Goals as goal

pub offset_bounds-as_slice-offset : goal.offset_bounds-as_slice-offset
offset_bounds-as_slice-offset g c =
    let bs = c.self.inside.buckets.items in
    let p = c.place_of-index.result in
    let place : IsPlaceInBuckets c.args.at (lists_of bs) p = subst (λ xs. IsPlaceInBuckets c.args.at (lists_of xs) p) c.as_slice.ensures.value c.place_of-index.ensures in
    let same = ap length (c.as_slice-2.ensures.value ∙ c.deref.ensures ∙ sym (bucket_here p.0 bs c.index.result.now (index_within c.args.at bs p place) c.index.ensures)) in
    omega (arith, same, offset_within c.args.at bs p place)

pub bounds-as_slice-offset : goal.bounds-as_slice-offset
bounds-as_slice-offset g c =
    let bs = c.self.inside.buckets.items in
    let p = c.place_of-index.result in
    let place : IsPlaceInBuckets c.args.at (lists_of bs) p = subst (λ xs. IsPlaceInBuckets c.args.at (lists_of xs) p) c.as_slice.ensures.value c.place_of-index.ensures in
    let same = ap length (c.as_slice-2.ensures.value ∙ c.deref.ensures ∙ sym (bucket_here p.0 bs c.index.result.now (index_within c.args.at bs p place) c.index.ensures)) in
    omega (arith, same, offset_within c.args.at bs p place)

pub returns : goal.returns
returns g c d =
    let bs = c.self.inside.buckets.items in
    let p = c.place_of-index.result in
    let place : IsPlaceInBuckets c.args.at (lists_of bs) p = subst (λ xs. IsPlaceInBuckets c.args.at (lists_of xs) p) c.as_slice.ensures.value c.place_of-index.ensures in
    let own = c.as_slice-2.ensures.value ∙ c.deref.ensures ∙ sym (bucket_here p.0 bs c.index.result.now (index_within c.args.at bs p place) c.index.ensures) in
    let inside = offset_within c.args.at bs p place in
    let same = ap length own in
    ap (λ xs. slice_index_or xs c.args.at d) (sym c.self.view_is)
    ∙ item_there c.args.at bs p place d
    ∙ ap (λ t. slice_index_or t p.1 d) (sym own)
    ∙ sym (get_or_read c.as_slice-2.result.now p.1 c.index-as_slice-offset.result (omega (arith, inside, same)) c.index-as_slice-offset.is d)
