use Rattle.std.proofs.Common.{◌≡◌, ◌<◌, ◌+◌, ◌-◌, ap, sym, ◌∙◌, false, length, take, drop, arith}
use Rattle.std.specs.List.{list_any, slice_index_or}
use Rattle.t1_parts.specs.declared.stretch.Stretch.TheVariants.{One}
use Rattle.t1_parts.specs.EntryKeys.{is_of_kind}
use Rattle.t1_parts.specs.Items.{items_in}
use Rattle.t1_parts.proofs.EntryPlaceLaws.{through_here}
use Rattle.t1_parts.proofs.block.through_last.Goals as goal

pub returns-in-Some : goal.returns-in-Some
returns-in-Some c =
    let ss = c.args.stretches.now in
    let test = is_of_kind c.args.kind in
    let i = c.loop-index.index - 1 in
    let s = c.index-stretches-index.result in
    let next : c.loop-index.index ≡ i + 1 = omega (arith, c.loop-index-test.true) in
    let here : i < length ss = omega (arith, c.loop-index-test.true, c.loop-index.invariant.0) in
    let size : c.loop-index.through ≡ length (items_in (take (i + 1) ss)) = c.loop-index.invariant.1 ∙ ap (λ k. length (items_in (take k ss))) next in
    let none : list_any test (items_in (drop (i + 1) ss)) ≡ false = ap (λ k. list_any test (items_in (drop k ss))) (sym next) ∙ c.loop-index.invariant.2 in
    let is : slice_index_or ss i s ≡ One c.in-Some._last.now = sym c.index-stretches-index.is ∙ c.in-Some.ensures.0 in
    through_here test i c.loop-index.through ss s c.in-Some._last.now here size none is c.in-Some.ensures.1
