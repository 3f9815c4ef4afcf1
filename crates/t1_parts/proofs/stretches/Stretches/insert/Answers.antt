use Rattle.std.proofs.Common.{◌+◌, ◌∙◌, ap, refl, sym, subst, take, length, arith}
use Rattle.std.specs.List.{insert}
use Rattle.t1_parts.specs.declared.stretch.Stretch.TheVariants.{One}
use Rattle.t1_parts.specs.Items.{items_in}
use Rattle.t1_parts.specs.Starts.{starts_from, raised_from}
use Rattle.t1_parts.specs.Stretches.{AreSingle}
use Rattle.t1_parts.proofs.SingleLaws.{single_inserted}
use Rattle.t1_parts.proofs.StartLaws.{raised_over, room_kept, single_kept, starts_inserted, starts_kept, starts_length, starts_small}
use Rattle.t1_parts.proofs.stretches.Stretches.insert.Goals as goal

pub invariant_of-self-then-self : goal.invariant_of-self-then-self
invariant_of-self-then-self c =
    single_kept c.self.inside.are_single c.self.inside.starts.items c.insert_stretch.new.stretches.items c.if-self.true
    (subst AreSingle (sym c.in_ok-insert_stretch.ensures.ok) (single_inserted c.args.index c.self.inside.stretches.items (One c.args.item) (c.self.invariant.0 c.if-self.true) refl))

pub insert-room_was_reserved-requires : goal.insert-room_was_reserved-requires
insert-room_was_reserved-requires c =
    let size = ap length (c.self.invariant.1 c.if-self.false) ∙ starts_length 0 c.self.inside.stretches.items in
    let view = ap length c.self.view_is in
    let len = c.self.inside.starts.ok.0 in
    omega (arith, c.in_default-reserve.ensures.len, len, size, view, c.requires.within)

pub raise_starts-requires : goal.raise_starts-requires
raise_starts-requires c i within =
    let ss = c.self.inside.stretches.items in
    let is =
    c.deref_mut.ensures.value
    ∙ room_kept _ _ _ _ (c.insert-room_was_reserved.ensures.succeeds (omega (arith, c.in_default-reserve.ensures.ok))) c.insert-room_was_reserved.ensures.items
    ∙ ap (λ xs. insert xs c.args.index c.args.at) c.in_default-reserve.ensures.items in
    let view = ap length c.self.view_is in
    let all = ap (λ xs. length (items_in xs)) c.self.view_is in
    let before = ap (λ xs. length (items_in (take c.args.index xs))) c.self.view_is in
    starts_small c.args.index c.args.at 18446744073709551615 i c.self.inside.starts.items c.deref_mut.result.now ss (c.self.invariant.1 c.if-self.false) is (omega (arith, view, c.requires.within)) (omega (arith, before, c.requires.at))
    (omega (arith, all, c.requires.small)) within

pub invariant_of-self-2 : goal.invariant_of-self-2
invariant_of-self-2 c =
    let ss = c.self.inside.stretches.items in
    let made =
    room_kept _ _ _ _ (c.insert-room_was_reserved.ensures.succeeds (omega (arith, c.in_default-reserve.ensures.ok))) c.insert-room_was_reserved.ensures.items
    ∙ ap (λ xs. insert xs c.args.index c.args.at) c.in_default-reserve.ensures.items in
    let view = ap length c.self.view_is in
    let before = ap (λ xs. length (items_in (take c.args.index xs))) c.self.view_is in
    starts_kept c.self.inside.are_single _ _ c.if-self.false (
    raised_over (c.args.index + 1) c.insert-room_was_reserved.new.self.len c.raise_starts.new.starts c.deref_mut.result.now c.insert-room_was_reserved.new.self.items c.raise_starts.ensures c.deref_mut.ensures.value c.insert-room_was_reserved.new.self.ok.0
    ∙ ap (raised_from (c.args.index + 1)) made
    ∙ starts_inserted c.args.index c.args.at c.self.inside.starts.items ss (One c.args.item) (c.self.invariant.1 c.if-self.false) (omega (arith, view, c.requires.within)) (omega (arith, before, c.requires.at)) refl
    ∙ ap (starts_from 0) (sym c.in_ok-insert_stretch-2.ensures.ok)
    )
