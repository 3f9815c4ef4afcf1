use Rattle.std.proofs.Common.{subst}
use Rattle.std.proofs.lemmas.Result.{on_ok_weaker}
use Rattle.t1_buckets.specs.BucketPlaces.{IsPlaceInBuckets}
use Rattle.t1_buckets.specs.Buckets.{lists_of}
use Rattle.t1_buckets.proofs.SharedLaws.{put_there}
use Rattle.t1_buckets.proofs.edits.set.Goals as goal

pub returns-clause-ok : goal.returns-clause-ok
returns-clause-ok g c =
    let bs = c.args.buckets.now.items in
    let place : IsPlaceInBuckets c.args.at (lists_of bs) c.place_of-index.result = subst (λ xs. IsPlaceInBuckets c.args.at (lists_of xs) c.place_of-index.result) c.as_slice.ensures.value c.place_of-index.ensures in
    on_ok_weaker c.put_into.result (λ e. put_there c.args.at bs c.place_of-index.result place c.put_into.new.buckets.items c.args.element e) c.put_into.ensures.ok
