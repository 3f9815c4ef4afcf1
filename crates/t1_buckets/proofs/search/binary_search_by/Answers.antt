use Rattle.std.proofs.Common.{◌≡◌, ◌+◌, ◌<◌, Less, Greater, HoldsAt, Equal, ap, length, sym, subst, ◌∙◌, arith}
use Rattle.std.specs.List.{slice_index_or}
use Rattle.std.specs.List.Sorted.{IsPartitionPoint}
use Rattle.t1_buckets.specs.Buckets.{buckets_joined, lists_of}
use Rattle.t1_buckets.specs.BucketPlaces.{IsAfter}
use Rattle.t1_buckets.proofs.JoinLaws.{bounded}
use Rattle.t1_buckets.proofs.OrderLaws.{found_in_bucket, missing_in_bucket, missing_past}
use Rattle.t1_buckets.proofs.SharedLaws.{lists_at, lists_length, lists_taken}
use Rattle.t1_buckets.proofs.search.binary_search_by.Goals as goal

pub returns-then-index-buckets-clause-position : goal.returns-then-index-buckets-clause-position
returns-then-index-buckets-clause-position g c = λ by asked up.
    let bs = lists_of c.args.buckets.now in
    let same = lists_length c.args.buckets.now in
    let after = (c.bucket_of-index.ensures.answer by asked).1 in
    let end : c.bucket_of-index.result ≡ length bs = omega (arith, same, c.if-index-buckets.true) in
    subst (λ n. IsPartitionPoint (λ y. by y ≡ Less) (λ y. by y ≡ Greater) (buckets_joined bs) n) (sym c.requires.len) (missing_past by bs (subst (IsAfter by bs) end after) up)

pub overflow_add-result : goal.overflow_add-result
overflow_add-result g c =
    let rcs = c.args.buckets.now in
    let bs = lists_of rcs in
    let i = c.bucket_of-index.result in
    let b = c.as_slice.result.now in
    let inside : i < length rcs = omega (arith, c.if-index-buckets.false, c.bucket_of-index.ensures.within) in
    let same = lists_length rcs in
    let here : i < length bs = omega (arith, inside, same) in
    let is : b ≡ slice_index_or bs i b = c.as_slice.ensures.value ∙ c.deref.ensures ∙ sym (lists_at i rcs c.index-buckets-index.result b inside c.index-buckets-index.is) in
    let before = c.len_before-before.ensures ∙ ap length (sym (lists_taken i rcs)) in
    omega (arith, before, c.in-Ok.ensures.bound, bounded i bs b here is, c.requires.len, c.ranges.len.fits)

pub overflow_add-result-in-Err : goal.overflow_add-result-in-Err
overflow_add-result-in-Err g c =
    let rcs = c.args.buckets.now in
    let bs = lists_of rcs in
    let i = c.bucket_of-index.result in
    let b = c.as_slice.result.now in
    let inside : i < length rcs = omega (arith, c.if-index-buckets.false, c.bucket_of-index.ensures.within) in
    let same = lists_length rcs in
    let here : i < length bs = omega (arith, inside, same) in
    let is : b ≡ slice_index_or bs i b = c.as_slice.ensures.value ∙ c.deref.ensures ∙ sym (lists_at i rcs c.index-buckets-index.result b inside c.index-buckets-index.is) in
    let before = c.len_before-before.ensures ∙ ap length (sym (lists_taken i rcs)) in
    omega (arith, before, c.in-Err.ensures.bound, bounded i bs b here is, c.requires.len, c.ranges.len.fits)

pub returns-in-Ok-clause-bound : goal.returns-in-Ok-clause-bound
returns-in-Ok-clause-bound g c =
    let rcs = c.args.buckets.now in
    let bs = lists_of rcs in
    let i = c.bucket_of-index.result in
    let b = c.as_slice.result.now in
    let inside : i < length rcs = omega (arith, c.if-index-buckets.false, c.bucket_of-index.ensures.within) in
    let same = lists_length rcs in
    let here : i < length bs = omega (arith, inside, same) in
    let is : b ≡ slice_index_or bs i b = c.as_slice.ensures.value ∙ c.deref.ensures ∙ sym (lists_at i rcs c.index-buckets-index.result b inside c.index-buckets-index.is) in
    let before = c.len_before-before.ensures ∙ ap length (sym (lists_taken i rcs)) in
    omega (arith, before, c.in-Ok.ensures.bound, bounded i bs b here is)

pub returns-in-Err-clause-bound : goal.returns-in-Err-clause-bound
returns-in-Err-clause-bound g c =
    let rcs = c.args.buckets.now in
    let bs = lists_of rcs in
    let i = c.bucket_of-index.result in
    let b = c.as_slice.result.now in
    let inside : i < length rcs = omega (arith, c.if-index-buckets.false, c.bucket_of-index.ensures.within) in
    let same = lists_length rcs in
    let here : i < length bs = omega (arith, inside, same) in
    let is : b ≡ slice_index_or bs i b = c.as_slice.ensures.value ∙ c.deref.ensures ∙ sym (lists_at i rcs c.index-buckets-index.result b inside c.index-buckets-index.is) in
    let before = c.len_before-before.ensures ∙ ap length (sym (lists_taken i rcs)) in
    omega (arith, before, c.in-Err.ensures.bound, bounded i bs b here is)

pub returns-in-Ok-clause-position : goal.returns-in-Ok-clause-position
returns-in-Ok-clause-position g c = λ by asked.
    let rcs = c.args.buckets.now in
    let bs = lists_of rcs in
    let i = c.bucket_of-index.result in
    let b = c.as_slice.result.now in
    let inside : i < length rcs = omega (arith, c.if-index-buckets.false, c.bucket_of-index.ensures.within) in
    let same = lists_length rcs in
    let here : i < length bs = omega (arith, inside, same) in
    let is : b ≡ slice_index_or bs i b = c.as_slice.ensures.value ∙ c.deref.ensures ∙ sym (lists_at i rcs c.index-buckets-index.result b inside c.index-buckets-index.is) in
    let before = c.len_before-before.ensures ∙ ap length (sym (lists_taken i rcs)) in
    let found = c.in-Ok.ensures.position by (c.bucket_of-index.ensures.answer by asked).0 in
    subst (λ n. HoldsAt (λ y. by y ≡ Equal) (buckets_joined bs) (n + c.in-Ok.at)) (sym before) (found_in_bucket by bs i c.in-Ok.at b here is c.in-Ok.ensures.bound found)

pub returns-in-Err-clause-position : goal.returns-in-Err-clause-position
returns-in-Err-clause-position g c = λ by asked up.
    let rcs = c.args.buckets.now in
    let bs = lists_of rcs in
    let i = c.bucket_of-index.result in
    let b = c.as_slice.result.now in
    let inside : i < length rcs = omega (arith, c.if-index-buckets.false, c.bucket_of-index.ensures.within) in
    let same = lists_length rcs in
    let here : i < length bs = omega (arith, inside, same) in
    let is : b ≡ slice_index_or bs i b = c.as_slice.ensures.value ∙ c.deref.ensures ∙ sym (lists_at i rcs c.index-buckets-index.result b inside c.index-buckets-index.is) in
    let before = c.len_before-before.ensures ∙ ap length (sym (lists_taken i rcs)) in
    let found = c.bucket_of-index.ensures.answer by asked in
    let searched = c.in-Err.ensures.position by found.0 in
    subst (λ n. IsPartitionPoint (λ y. by y ≡ Less) (λ y. by y ≡ Greater) (buckets_joined bs) (n + c.in-Err.at)) (sym before)
    (missing_in_bucket by bs i c.in-Err.at b here is c.in-Err.ensures.bound found.1 found.2 searched up)
