use Rattle.std.proofs.Common.{ap, length, subst, sym, ◌∙◌, arith}
use Rattle.std.specs.List.{remove}
use Rattle.std.proofs.lemmas.Result.{on_ok_weaker}
use Rattle.t1_buckets.specs.BucketPlaces.{IsPlaceInBuckets}
use Rattle.t1_buckets.specs.Buckets.{lists_of}
use Rattle.t1_buckets.proofs.SharedLaws.{bucket_here, gone_there, index_within, taken_there}
use Rattle.t1_parts.proofs.blocks.Blocks.take_out.Goals as goal

pub returns-then-len-eq1-clause-ok : goal.returns-then-len-eq1-clause-ok
returns-then-len-eq1-clause-ok c =
    let bs = c.self.inside.blocks.items in
    let place : IsPlaceInBuckets c.args.at (lists_of bs) c.place_of-index.result = subst (λ xs. IsPlaceInBuckets c.args.at (lists_of xs) c.place_of-index.result) c.as_slice.ensures.value c.place_of-index.ensures in
    let here = ap length (c.deref.ensures ∙ sym (bucket_here c.place_of-index.result.0 bs c.index.result.now (index_within c.args.at bs c.place_of-index.result place) c.index.ensures)) in
    gone_there c.args.at bs c.place_of-index.result place c.remove.new.self.items c.remove.ensures.items (omega (arith, here, c.len.ensures.value, c.if-len-eq1.true))
    ∙ ap (λ xs. remove xs c.args.at) c.self.view_is

pub returns-clause-ok : goal.returns-clause-ok
returns-clause-ok c =
    let bs = c.self.inside.blocks.items in
    let place : IsPlaceInBuckets c.args.at (lists_of bs) c.place_of-index.result = subst (λ xs. IsPlaceInBuckets c.args.at (lists_of xs) c.place_of-index.result) c.as_slice.ensures.value c.place_of-index.ensures in
    on_ok_weaker c.take_from.result (λ e. taken_there c.args.at bs c.place_of-index.result place c.take_from.new.blocks.items e ∙ ap (λ xs. remove xs c.args.at) c.self.view_is) c.take_from.ensures.ok
