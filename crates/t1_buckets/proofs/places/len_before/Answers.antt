use Rattle.std.proofs.Common.{◌+◌, ap, length, take, arith}
use Rattle.std.proofs.lemmas.List.{length-append}
use Rattle.t1_buckets.specs.Buckets.{shared_joined}
use Rattle.t1_buckets.proofs.SharedLaws.{more_taken, taken_within}
use Rattle.t1_buckets.proofs.places.len_before.Goals as goal

pub overflow_add-len : goal.overflow_add-len
overflow_add-len g c =
    let front = c.split_at.result.0.now in
    let i = c.loop-bucket.bucket-index in
    let b = c.bucket-item.result in
    let more = ap length (more_taken i front b (omega (arith, c.loop-bucket-test.true)) c.bucket-item.is) in
    let both = length-append (shared_joined (take i front)) b.value in
    let within = taken_within (i + 1) front in
    let all = ap (λ bs. length (shared_joined bs)) c.split_at.ensures.front in
    let few = taken_within c.args.index c.args.buckets.now in
    let value = ap length c.deref.ensures in
    omega (arith, c.loop-bucket.invariant, more, both, within, all, few, c.requires.few, value, c.len-len.ensures.value)
