use Rattle.std.proofs.Common.{ap, length, sym, ◌∙◌, arith}
use Rattle.std.proofs.lemmas.Result.{on_ok_weaker}
use Rattle.t1_buckets.proofs.SharedLaws.{added_last, bucket_here}
use Rattle.t1_buckets.proofs.edits.push.Goals as goal

pub returns-clause-ok : goal.returns-clause-ok
returns-clause-ok g c =
    let bs = c.args.buckets.now.items in
    let last = c.in-Some.last in
    let size = ap length c.as_slice.ensures.value in
    let end = c.len-end.ensures.value ∙ ap length (c.deref.ensures ∙ sym (bucket_here last bs c.index.result.now (omega (arith, c.in-Some.ensures, size)) c.index.ensures)) in
    on_ok_weaker c.insert_into.result (λ e. added_last last c.len-end.result bs c.insert_into.new.buckets.items c.args.element (omega (arith, c.in-Some.ensures, size)) end e) c.insert_into.ensures.ok
