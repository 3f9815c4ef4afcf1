use Rattle.std.proofs.Common.{ap, sym, ◌∙◌}
use Rattle.std.specs.List.{remove}
use Rattle.std.proofs.lemmas.Result.{on_ok_weaker, on_err_weaker}
use Rattle.t1_buckets.proofs.SharedLaws.{at_err, bucket_here, bucket_same, bucket_set, either, is_ok_at, on_err_since}
use Rattle.t1_parts.proofs.blocks.take_from.Goals as goal

pub returns-in_err-block-clause-err : goal.returns-in_err-block-clause-err
returns-in_err-block-clause-err c =
    let bs = c.args.blocks.now.items in
    let old = c.index_mut.result.now in
    let same = bucket_same c.args.index bs c.make_mut.follows.lender-at-none old c.index_mut.ensures.value (either _ _ (at_err c.make_mut.result _ c.in_err-block.was c.make_mut.follows.holds-at-none)) in
    on_err_since c.from_residual.result same

pub returns-clause-ok : goal.returns-clause-ok
returns-clause-ok c =
    let bs = c.args.blocks.now.items in
    let old = c.index_mut.result.now in
    let here = either _ _ c.in_ok-block.ensures.value ∙ sym (bucket_here c.args.index bs old c.requires.index c.index_mut.ensures.value) in
    on_ok_weaker c.take_out.result (λ e. bucket_set c.args.index bs _ _ (c.make_mut.follows.holds _ (is_ok_at c.make_mut.result _ c.in_ok-block.was) ∙ e ∙ ap (λ xs. remove xs c.args.offset) here)) c.take_out.ensures.ok

pub returns-clause-err : goal.returns-clause-err
returns-clause-err c =
    let bs = c.args.blocks.now.items in
    let old = c.index_mut.result.now in
    on_err_weaker c.take_out.result (λ e. bucket_same c.args.index bs _ old c.index_mut.ensures.value (c.make_mut.follows.holds _ (is_ok_at c.make_mut.result _ c.in_ok-block.was) ∙ e ∙ either _ _ c.in_ok-block.ensures.value)) c.take_out.ensures.err
