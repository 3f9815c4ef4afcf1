use Rattle.std.proofs.Common.{◌<◌, ◌+◌, ◌++◌, [], ◌∙◌, ap, sym, subst, take, drop, length, arith}
use Rattle.std.proofs.lemmas.List.{length-drop}
use Rattle.t1_parts.specs.Items.{items_in, stretch_items}
use Rattle.t1_parts.specs.Starts.{starts_from, lowered_from}
use Rattle.t1_parts.specs.Stretches.{AreSingle}
use Rattle.t1_parts.specs.declared.stretch.Stretch.TheVariants.{Lines}
use Rattle.t1_parts.proofs.SingleLaws.{single_at, single_removed}
use Rattle.t1_parts.proofs.StartLaws.{lowered_over, single_kept, starts_kept, starts_length, starts_removed, starts_shortened, starts_some, starts_some_left}
use Rattle.t1_parts.proofs.StretchLaws.{first_removed, first_dropped}
use Rattle.t1_parts.proofs.stretches.Stretches.drop_first.Goals as goal

pub invariant_of-self : goal.invariant_of-self
invariant_of-self c =
    single_kept c.self.inside.are_single c.self.inside.starts.items _ c.if-self.true
    (subst AreSingle (sym c.remove_stretch.ensures) (single_removed c.args.index c.self.inside.stretches.items (c.self.invariant.0 c.if-self.true)))

pub returns-then-self : goal.returns-then-self
returns-then-self c =
    let ss = c.self.inside.stretches.items in
    let view = ap length c.self.view_is in
    let here : c.args.index < length ss = omega (arith, view, c.requires) in
    ap items_in c.remove_stretch.ensures
    ∙ first_removed c.args.index ss (Lines []) here (single_at c.args.index ss (Lines []) (c.self.invariant.0 c.if-self.true) here)
    ∙ ap (λ xs. items_in (take c.args.index xs) ++ drop 1 (items_in (drop c.args.index xs))) c.self.view_is

pub remove-start-requires : goal.remove-start-requires
remove-start-requires c =
    let size = ap length (c.self.invariant.1 c.if-self.false) ∙ starts_length 0 c.self.inside.stretches.items in
    let view = ap length c.self.view_is in
    let len = c.self.inside.starts.ok.0 in
    omega (arith, size, view, len, c.requires)

pub lower_starts-requires : goal.lower_starts-requires
lower_starts-requires c j past within =
    let ss = c.self.inside.stretches.items in
    let view = ap length c.self.view_is in
    let here : c.args.index < length ss = omega (arith, view, c.requires) in
    let same = ap (λ s. length (stretch_items s)) c.index-stretch.ensures in
    starts_some_left c.args.index j c.self.inside.starts.items _ ss c.index-stretch.result.now (c.self.invariant.1 c.if-self.false) (c.deref_mut.ensures.value ∙ c.remove-start.ensures.items) here (omega (arith, same, c.len.ensures.value, c.len.ensures.some)) past within

pub invariant_of-self-then-len-eq1 : goal.invariant_of-self-then-len-eq1
invariant_of-self-then-len-eq1 c =
    let ss = c.self.inside.stretches.items in
    let view = ap length c.self.view_is in
    let here : c.args.index < length ss = omega (arith, view, c.requires) in
    let same = ap (λ s. length (stretch_items s)) c.index-stretch.ensures in
    starts_kept c.self.inside.are_single _ _ c.if-self.false (
    lowered_over c.args.index c.remove-start.new.self.len c.lower_starts.new.starts c.deref_mut.result.now c.remove-start.new.self.items c.lower_starts.ensures c.deref_mut.ensures.value c.remove-start.new.self.ok.0
    ∙ ap (lowered_from c.args.index) c.remove-start.ensures.items
    ∙ starts_removed c.args.index c.self.inside.starts.items ss c.index-stretch.result.now (c.self.invariant.1 c.if-self.false) here (omega (arith, same, c.len.ensures.value, c.if-len-eq1.true))
    ∙ ap (starts_from 0) (sym c.remove_stretch-then-len-eq1.ensures)
    )

pub returns-then-len-eq1 : goal.returns-then-len-eq1
returns-then-len-eq1 c =
    let ss = c.self.inside.stretches.items in
    let view = ap length c.self.view_is in
    let here : c.args.index < length ss = omega (arith, view, c.requires) in
    let same = ap (λ s. length (stretch_items s)) c.index-stretch.ensures in
    ap items_in c.remove_stretch-then-len-eq1.ensures
    ∙ first_removed c.args.index ss c.index-stretch.result.now here (omega (arith, same, c.len.ensures.value, c.if-len-eq1.true))
    ∙ ap (λ xs. items_in (take c.args.index xs) ++ drop 1 (items_in (drop c.args.index xs))) c.self.view_is

pub lower_starts-requires-2 : goal.lower_starts-requires-2
lower_starts-requires-2 c j past within =
    let ss = c.self.inside.stretches.items in
    let view = ap length c.self.view_is in
    let here : c.args.index < length ss = omega (arith, view, c.requires) in
    let same = ap (λ s. length (stretch_items s)) c.index-stretch.ensures in
    starts_some c.args.index j c.deref_mut-2.result.now ss c.index-stretch.result.now (c.deref_mut-2.ensures.value ∙ c.self.invariant.1 c.if-self.false) here (omega (arith, same, c.len.ensures.value, c.len.ensures.some)) past within

pub invariant_of-self-2 : goal.invariant_of-self-2
invariant_of-self-2 c =
    let ss = c.self.inside.stretches.items in
    let view = ap length c.self.view_is in
    let here : c.args.index < length ss = omega (arith, view, c.requires) in
    let same = ap (λ s. length (stretch_items s)) c.index-stretch.ensures in
    let left = ap length c.in-Some.ensures.1 ∙ length-drop 1 (stretch_items c.index-stretch.result.now) in
    starts_kept c.self.inside.are_single _ _ c.if-self.false (
    lowered_over (c.args.index + 1) c.self.inside.starts.len c.lower_starts-2.new.starts c.deref_mut-2.result.now c.self.inside.starts.items c.lower_starts-2.ensures c.deref_mut-2.ensures.value c.self.inside.starts.ok.0
    ∙ starts_shortened c.args.index c.self.inside.starts.items ss (Lines c.in-Some.rest) c.index-stretch.result.now (c.self.invariant.1 c.if-self.false) here (omega (arith, same, left, c.len.ensures.value, c.len.ensures.some))
    ∙ ap (starts_from 0) (sym c.put_stretch.ensures)
    )

pub returns : goal.returns
returns c =
    let ss = c.self.inside.stretches.items in
    let view = ap length c.self.view_is in
    let here : c.args.index < length ss = omega (arith, view, c.requires) in
    let same = ap (λ s. length (stretch_items s)) c.index-stretch.ensures in
    ap items_in c.put_stretch.ensures
    ∙ first_dropped c.args.index ss (Lines c.in-Some.rest) c.index-stretch.result.now here (omega (arith, same, c.len.ensures.value, c.len.ensures.some, c.if-len-eq1.false)) (c.in-Some.ensures.1 ∙ ap (λ s. drop 1 (stretch_items s)) c.index-stretch.ensures)
    ∙ ap (λ xs. items_in (take c.args.index xs) ++ drop 1 (items_in (drop c.args.index xs))) c.self.view_is
