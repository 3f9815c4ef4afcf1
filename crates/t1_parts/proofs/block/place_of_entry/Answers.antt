use Rattle.std.proofs.Common.{◌≡◌, Some, sym, ap, ◌∙◌, length, arith}
use Rattle.std.specs.List.{slice_index_or}
use Rattle.t1_parts.specs.declared.stretch.Stretch.TheVariants.{One}
use Rattle.t1_parts.specs.EntryKeys.{is_entry_of}
use Rattle.t1_parts.specs.Items.{stretch_items}
use Rattle.t1_parts.proofs.EntryPlaceLaws.{found_here, found_nowhere, passed_within}
use Rattle.t1_parts.proofs.block.place_of_entry.Goals as goal

pub returns-in-Some-clause-value : goal.returns-in-Some-clause-value
returns-in-Some-clause-value c =
    let ss = c.args.stretches.now in
    let s = c.stretch-item.result in
    let is : slice_index_or ss c.loop-stretch.stretch-index s ≡ One c.in-Some._entry.now = sym c.stretch-item.is ∙ c.in-Some.ensures.0 in
    ap Some c.loop-stretch.invariant.0
    ∙ sym (found_here (is_entry_of c.args.key.now) c.loop-stretch.stretch-index ss s c.in-Some._entry.now c.loop-stretch-test.true c.loop-stretch.invariant.1 is c.in-Some.ensures.1)

pub returns-in-Some-clause-within : goal.returns-in-Some-clause-within
returns-in-Some-clause-within c =
    let ss = c.args.stretches.now in
    let s = c.stretch-item.result in
    let is : slice_index_or ss c.loop-stretch.stretch-index s ≡ One c.in-Some._entry.now = sym c.stretch-item.is ∙ c.in-Some.ensures.0 in
    let one = ap (λ t. length (stretch_items t)) is in
    let all = passed_within c.loop-stretch.stretch-index ss s c.loop-stretch-test.true in
    omega (arith, all, one, c.loop-stretch.invariant.0)

pub overflow_add-passed : goal.overflow_add-passed
overflow_add-passed c =
    let ss = c.args.stretches.now in
    let s = c.stretch-item.result in
    let size = ap (λ t. length (stretch_items t)) c.stretch-item.is in
    let all = passed_within c.loop-stretch.stretch-index ss s c.loop-stretch-test.true in
    omega (arith, all, size, c.loop-stretch.invariant.0, c.len-passed.ensures.value, c.requires)

pub returns-clause-value : goal.returns-clause-value
returns-clause-value c =
    sym (found_nowhere (is_entry_of c.args.key.now) c.loop-stretch.stretch-index c.args.stretches.now (omega (arith, c.loop-stretch-test.false)) c.loop-stretch.invariant.1)
