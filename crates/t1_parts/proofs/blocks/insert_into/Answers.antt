use Rattle.std.proofs.Common.{ap, sym, ◌∙◌}
use Rattle.std.specs.List.{insert}
use Rattle.std.proofs.lemmas.Result.{on_ok_weaker, on_err_weaker}
use Rattle.t1_buckets.proofs.SharedLaws.{at_err, bucket_here, bucket_same, bucket_set, either, is_ok_at}
use Rattle.t1_parts.proofs.blocks.insert_into.Goals as goal

pub returns-in-Err-clause-err : goal.returns-in-Err-clause-err
returns-in-Err-clause-err c =
    let bs = c.args.blocks.now.items in
    let old = c.index_mut.result.now in
    bucket_same c.args.index bs c.make_mut.follows.lender-at-none old c.index_mut.ensures.value (either _ _ (at_err c.make_mut.result _ c.in-Err.is c.make_mut.follows.holds-at-none))

pub returns-clause-ok : goal.returns-clause-ok
returns-clause-ok c =
    let bs = c.args.blocks.now.items in
    let old = c.index_mut.result.now in
    let here = either _ _ c.in-Ok.ensures.value ∙ sym (bucket_here c.args.index bs old c.requires.index c.index_mut.ensures.value) in
    on_ok_weaker c.insert.result (λ e. bucket_set c.args.index bs _ _ (c.make_mut.follows.holds _ (is_ok_at c.make_mut.result _ c.in-Ok.is) ∙ e ∙ ap (λ xs. insert xs c.args.offset c.args.item) here)) c.insert.ensures.ok

pub returns-clause-err : goal.returns-clause-err
returns-clause-err c =
    let bs = c.args.blocks.now.items in
    let old = c.index_mut.result.now in
    on_err_weaker c.insert.result (λ e. bucket_same c.args.index bs _ old c.index_mut.ensures.value (c.make_mut.follows.holds _ (is_ok_at c.make_mut.result _ c.in-Ok.is) ∙ e ∙ either _ _ c.in-Ok.ensures.value)) c.insert.ensures.err
