use Rattle.std.proofs.Common.{ap, length, arith}
use Rattle.t1_buckets.proofs.SharedLaws.{place_in, place_past}
use Rattle.t1_buckets.proofs.places.place_of.Goals as goal

pub returns-then-left-len : goal.returns-then-left-len
returns-then-left-len g c =
    let i = c.loop-bucket.bucket-index in
    let at = c.loop-bucket.invariant.0 in
    let value = ap length c.deref.ensures in
    let there = place_in c.args.at i c.loop-bucket.left c.args.buckets.now c.bucket-item.result (omega (arith, c.loop-bucket-test.true)) c.bucket-item.is c.loop-bucket.invariant.1 (omega (arith, c.if-left-len.true, c.len-len.ensures.value, value)) in
    rw at there

pub returns : goal.returns
returns g c = absurd (place_past c.args.at c.loop-bucket.left c.loop-bucket.bucket-index c.args.buckets.now c.requires c.loop-bucket.invariant.1 (omega arith))
