use Rattle.std.proofs.Common.{◌≡◌, ◌+◌, ◌-◌, false, ap, sym, subst, length, take, drop, ◌∙◌, arith}
use Rattle.std.specs.List.{list_any}
use Rattle.std.proofs.lemmas.List.{length-append}
use Rattle.t1_buckets.specs.Buckets.{shared_joined}
use Rattle.t1_parts.specs.EntryKeys.{is_of_kind, IsThrough}
use Rattle.t1_buckets.proofs.SharedLaws.{more_taken}
use Rattle.t1_parts.proofs.BlockSearchLaws.{through_block}
use Rattle.t1_parts.proofs.blocks.through_last.Goals as goal

pub returns-then-through-gt0 : goal.returns-then-through-gt0
returns-then-through-gt0 c =
    let bs = c.args.blocks.now in
    let test = is_of_kind c.args.kind in
    let i = c.loop-index.index - 1 in
    let b = c.index-blocks-index.result in
    let next : c.loop-index.index ≡ i + 1 = omega (arith, c.loop-index-test.true) in
    let here = c.loop-index.invariant.0 in
    let size = ap length (ap (λ k. shared_joined (take k bs)) next ∙ more_taken i bs b (omega (arith, c.loop-index-test.true, here)) c.index-blocks-index.is) in
    let both = length-append (shared_joined (take i bs)) b.value in
    let value = ap length c.deref.ensures in
    let none : list_any test (shared_joined (drop (i + 1) bs)) ≡ false = ap (λ k. list_any test (shared_joined (drop k bs))) (sym next) ∙ c.loop-index.invariant.2 in
    let last = subst (λ xs. IsThrough test xs c.through_last-through.result) c.deref-in-loop-index.ensures c.through_last-through.ensures in
    through_block i bs b (omega (arith, c.loop-index-test.true, here)) c.index-blocks-index.is test (c.loop-index.before - c.len-before.result) c.through_last-through.result
    (omega (arith, size, both, value, c.loop-index.invariant.1, c.len-before.ensures.value)) c.if-through-gt0.true none last
