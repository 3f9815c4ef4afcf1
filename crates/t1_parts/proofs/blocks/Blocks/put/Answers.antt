use Rattle.std.proofs.Common.{ap, slice_set, subst, ◌∙◌}
use Rattle.std.proofs.lemmas.Result.{on_ok_weaker}
use Rattle.t1_buckets.specs.BucketPlaces.{IsPlaceInBuckets}
use Rattle.t1_buckets.specs.Buckets.{lists_of}
use Rattle.t1_buckets.proofs.SharedLaws.{put_there}
use Rattle.t1_parts.proofs.blocks.Blocks.put.Goals as goal

pub returns-clause-ok : goal.returns-clause-ok
returns-clause-ok c =
    let bs = c.self.inside.blocks.items in
    let place : IsPlaceInBuckets c.args.at (lists_of bs) c.place_of-index.result = subst (λ xs. IsPlaceInBuckets c.args.at (lists_of xs) c.place_of-index.result) c.as_slice.ensures.value c.place_of-index.ensures in
    on_ok_weaker c.put_into.result (λ e. put_there c.args.at bs c.place_of-index.result place c.put_into.new.blocks.items c.args.item e ∙ ap (λ xs. slice_set xs c.args.at c.args.item) c.self.view_is) c.put_into.ensures.ok
