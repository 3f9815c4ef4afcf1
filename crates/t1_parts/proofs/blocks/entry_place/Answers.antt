use Rattle.std.proofs.Common.{◌≡◌, ◌+◌, false, is_some, ap, sym, take, length, ◌∙◌, arith}
use Rattle.std.specs.List.{list_any, position}
use Rattle.std.proofs.lemmas.List.{length-append, take_all}
use Rattle.t1_buckets.specs.Buckets.{shared_joined}
use Rattle.t1_parts.specs.EntryKeys.{is_entry_of}
use Rattle.t1_buckets.proofs.SharedLaws.{more_taken}
use Rattle.t1_parts.proofs.BlockSearchLaws.{found_in_block, none_through, within_all}
use Rattle.t1_parts.proofs.EntryPlaceLaws.{found_any}
use Rattle.t1_parts.proofs.PartLaws.{no_position}
use Rattle.t1_parts.proofs.blocks.entry_place.Goals as goal

pub overflow_add-result : goal.overflow_add-result
overflow_add-result c =
    let value = ap length c.deref.ensures in
    let all = within_all c.loop-block.block-index c.args.blocks.now c.block-item.result c.loop-block-test.true c.block-item.is c.loop-block.passed c.in-Some.at c.loop-block.invariant.0 (omega (arith, value, c.in-Some.ensures.within)) in
    omega (arith, all, c.requires)

pub returns-in-Some-clause-value : goal.returns-in-Some-clause-value
returns-in-Some-clause-value c =
    let test = is_entry_of c.args.key.now in
    let at = ap (position test) (sym c.deref.ensures) ∙ sym c.in-Some.ensures.value in
    sym (found_in_block c.loop-block.block-index c.args.blocks.now c.block-item.result c.loop-block-test.true c.block-item.is test c.loop-block.passed c.in-Some.at c.loop-block.invariant.0 c.loop-block.invariant.1 at)

pub returns-in-Some-clause-within : goal.returns-in-Some-clause-within
returns-in-Some-clause-within c =
    let value = ap length c.deref.ensures in
    let all = within_all c.loop-block.block-index c.args.blocks.now c.block-item.result c.loop-block-test.true c.block-item.is c.loop-block.passed (c.in-Some.at + 1) c.loop-block.invariant.0 (omega (arith, value, c.in-Some.ensures.within)) in
    omega (arith, all)

pub overflow_add-passed : goal.overflow_add-passed
overflow_add-passed c =
    let value = ap length c.deref-in-loop-block.ensures in
    let all = within_all c.loop-block.block-index c.args.blocks.now c.block-item.result c.loop-block-test.true c.block-item.is c.loop-block.passed c.len-passed.result c.loop-block.invariant.0 (omega (arith, value, c.len-passed.ensures.value)) in
    omega (arith, all, c.requires)

pub loop-block-preserved : goal.loop-block-preserved
loop-block-preserved c =
    let bs = c.args.blocks.now in
    let i = c.loop-block.block-index in
    let b = c.block-item.result in
    let test = is_entry_of c.args.key.now in
    let more = more_taken i bs b c.loop-block-test.true c.block-item.is in
    let size = ap length more ∙ length-append (shared_joined (take i bs)) b.value in
    let value = ap length c.deref-in-loop-block.ensures in
    let off : list_any test b.value ≡ false = ap (list_any test) (sym c.deref.ensures) ∙ sym (found_any test c.deref.result.now) ∙ ap is_some (sym c.in_default.ensures.value) in (
      omega (arith, size, value, c.len-passed.ensures.value, c.loop-block.invariant.0),
      none_through i bs b c.loop-block-test.true c.block-item.is test c.loop-block.invariant.1 off more,
    )

pub returns-clause-value : goal.returns-clause-value
returns-clause-value c =
    let bs = c.args.blocks.now in
    let test = is_entry_of c.args.key.now in
    sym (no_position test (shared_joined bs) (ap (λ t. list_any test (shared_joined t)) (sym (take_all c.loop-block.block-index bs (omega (arith, c.loop-block-test.false)))) ∙ c.loop-block.invariant.1))
