use Rattle.std.proofs.Common.{◌≡◌, ◌<◌, ◌+◌, ◌/◌, ◌-◌, true, false, length, subst, sym, arith}
use Rattle.std.specs.List.{slice_index_or}
use Rattle.t1_buckets.specs.BucketPlaces.{EndsBefore}
use Rattle.t1_buckets.specs.Buckets.{lists_of}
use Rattle.t1_buckets.proofs.OrderLaws.{at_index}
use Rattle.t1_buckets.proofs.SharedLaws.{lists_at, lists_length}
use Rattle.t1_buckets.proofs.search.bucket_of.Goals as goal

pub loop-first-init : goal.loop-first-init
loop-first-init g c =
    let same = lists_length c.args.buckets.now in
    (omega arith, omega arith, c.requires, λ by asked. (asked, λ before d e. absurd (omega (arith, e)), λ d h. absurd (omega (arith, h, same))))

pub loop-first-preserved-then-ends_before : goal.loop-first-preserved-then-ends_before
loop-first-preserved-then-ends_before g c =
    let rcs = c.args.buckets.now in
    let bs = lists_of rcs in
    let same = lists_length rcs in
    let middle = c.loop-first.first + (c.loop-first.end - c.loop-first.first) / 2 in
    let rc = c.index-buckets-middle.result in
    let here : middle < length rcs = omega (arith, c.loop-first.invariant.1, c.loop-first-test.true) in
    let is : rc.value ≡ slice_index_or bs middle rc.value = sym (lists_at middle rcs rc rc.value here c.index-buckets-middle.is) in (
      omega arith,
      omega arith,
      c.ends_before.ensures.callable,
      λ by asked.
          let i = c.loop-first.invariant.3 by asked in
          let n = c.ends_before.ensures.answer by i.0 in
          let ends = subst (λ b. EndsBefore by b true) c.deref.ensures (subst (EndsBefore by c.deref.result.now) c.if-ends_before.true n.1) in
          (n.0, λ before d e. at_index (λ b. EndsBefore by b true) bs middle before rc.value d (omega (arith, here, same)) is ends (omega (arith, e)), i.2),
    )

pub loop-first-preserved : goal.loop-first-preserved
loop-first-preserved g c =
    let rcs = c.args.buckets.now in
    let bs = lists_of rcs in
    let same = lists_length rcs in
    let middle = c.loop-first.first + (c.loop-first.end - c.loop-first.first) / 2 in
    let rc = c.index-buckets-middle.result in
    let here : middle < length rcs = omega (arith, c.loop-first.invariant.1, c.loop-first-test.true) in
    let is : rc.value ≡ slice_index_or bs middle rc.value = sym (lists_at middle rcs rc rc.value here c.index-buckets-middle.is) in (
      omega arith,
      omega arith,
      c.ends_before.ensures.callable,
      λ by asked.
          let i = c.loop-first.invariant.3 by asked in
          let n = c.ends_before.ensures.answer by i.0 in
          let ends = subst (λ b. EndsBefore by b false) c.deref.ensures (subst (EndsBefore by c.deref.result.now) c.if-ends_before.false n.1) in
          (n.0, i.1, λ d h. at_index (λ b. EndsBefore by b false) bs middle middle rc.value d (omega (arith, here, same)) is ends (omega arith)),
    )
