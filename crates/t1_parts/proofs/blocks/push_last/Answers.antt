use Rattle.std.proofs.Common.{ap, length, sym, ◌∙◌, arith}
use Rattle.std.proofs.lemmas.Result.{on_ok_weaker}
use Rattle.t1_buckets.proofs.SharedLaws.{added_last, bucket_here}
use Rattle.t1_parts.proofs.blocks.push_last.Goals as goal

pub returns-clause-ok : goal.returns-clause-ok
returns-clause-ok c =
    let bs = c.args.blocks.now.items in
    let end = c.len-end.ensures.value ∙ ap length (c.deref-2.ensures ∙ sym (bucket_here c.args.last bs c.index-2.result.now (omega (arith, c.requires)) c.index-2.ensures)) in
    on_ok_weaker c.insert_into.result (λ e. added_last c.args.last c.len-end.result bs c.insert_into.new.blocks.items c.args.item c.requires end e) c.insert_into.ensures.ok
