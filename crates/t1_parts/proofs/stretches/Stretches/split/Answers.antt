use Rattle.std.proofs.Common.{◌+◌, ◌<◌, ◌∙◌, [], ap, sym, take, length, slice_set, arith}
use Rattle.std.specs.List.{insert, slice_index_or}
use Rattle.t1_parts.specs.declared.stretch.Stretch.TheVariants.{Lines}
use Rattle.t1_parts.specs.Items.{items_in, stretch_items}
use Rattle.t1_parts.specs.Starts.{starts_from}
use Rattle.t1_parts.proofs.StartLaws.{not_single, room_kept, starts_kept, starts_length, starts_split}
use Rattle.t1_parts.proofs.stretches.Stretches.split.Goals as goal

pub insert-room_was_reserved-requires : goal.insert-room_was_reserved-requires
insert-room_was_reserved-requires c =
    let ss = c.self.inside.stretches.items in
    let starts = c.self.inside.starts.items in
    let view = ap length c.self.view_is in
    let here : c.args.index < length ss = omega (arith, view, c.requires.within) in
    let d = Lines [] in
    let whole = ap (λ xs. length (stretch_items (slice_index_or xs c.args.index d))) c.self.view_is ∙ c.requires.whole d in
    let off = not_single c.self.inside.are_single c.args.index (length (stretch_items c.args.front)) (length (stretch_items c.args.back)) starts ss d c.self.invariant here whole c.requires.some.0 c.requires.some.1 in
    let size = ap length (c.self.invariant.1 off) ∙ starts_length 0 ss in
    let len = c.self.inside.starts.ok.0 in
    omega (arith, c.in_default.ensures.len, len, size, here)

pub invariant_of-self-2 : goal.invariant_of-self-2
invariant_of-self-2 c =
    let ss = c.self.inside.stretches.items in
    let starts = c.self.inside.starts.items in
    let view = ap length c.self.view_is in
    let before = ap (λ xs. length (items_in (take c.args.index xs))) c.self.view_is in
    let here : c.args.index < length ss = omega (arith, view, c.requires.within) in
    let d = Lines [] in
    let whole = ap (λ xs. length (stretch_items (slice_index_or xs c.args.index d))) c.self.view_is ∙ c.requires.whole d in
    let off = not_single c.self.inside.are_single c.args.index (length (stretch_items c.args.front)) (length (stretch_items c.args.back)) starts ss d c.self.invariant here whole c.requires.some.0 c.requires.some.1 in
    let made = c.put_stretch.ensures ∙ ap (λ xs. slice_set xs (c.args.index + 1) c.args.back) c.in_default-insert_stretch.ensures.ok in
    starts_kept c.self.inside.are_single _ _ off (
    room_kept _ _ _ _ (c.insert-room_was_reserved.ensures.succeeds (omega (arith, c.in_default.ensures.ok))) c.insert-room_was_reserved.ensures.items
    ∙ ap (λ xs. insert xs (c.args.index + 1) c.args.cut) c.in_default.ensures.items
    ∙ starts_split c.args.index c.args.cut starts ss c.args.front c.args.back d (c.self.invariant.1 off) here whole (omega (arith, before, c.requires.cut))
    ∙ ap (starts_from 0) (sym made)
    )
