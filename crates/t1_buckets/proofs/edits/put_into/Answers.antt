use Rattle.std.proofs.Common.{ap, sym, ◌∙◌}
use Rattle.std.specs.List.{slice_set}
use Rattle.t1_buckets.proofs.SharedLaws.{at_err, bucket_here, bucket_same, bucket_set, either, is_ok_at, on_err_since}
use Rattle.t1_buckets.proofs.edits.put_into.Goals as goal

pub returns-in_err-bucket-clause-err : goal.returns-in_err-bucket-clause-err
returns-in_err-bucket-clause-err g c =
    let bs = c.args.buckets.now.items in
    let old = c.index_mut.result.now in
    let same = bucket_same c.args.index bs c.make_mut.follows.lender-at-none old c.index_mut.ensures.value (either _ _ (at_err c.make_mut.result _ c.in_err-bucket.was c.make_mut.follows.holds-at-none)) in
    on_err_since c.from_residual.result same

pub returns-clause-ok : goal.returns-clause-ok
returns-clause-ok g c =
    let bs = c.args.buckets.now.items in
    let old = c.index_mut.result.now in
    let here = either _ _ c.in_ok-bucket.ensures.value ∙ sym (bucket_here c.args.index bs old c.requires.index c.index_mut.ensures.value) in
    bucket_set c.args.index bs _ _ (c.make_mut.follows.holds _ (is_ok_at c.make_mut.result _ c.in_ok-bucket.was) ∙ c.set.ensures ∙ ap (λ xs. slice_set xs c.args.offset c.args.element) here)
