use Rattle.std.proofs.Common.{◌++◌, ◌∷◌, [], ◌∙◌, ap, refl, sym, subst, length, arith}
use Rattle.t1_parts.specs.declared.stretch.Stretch.TheVariants.{One}
use Rattle.t1_parts.specs.Items.{items_in}
use Rattle.t1_parts.specs.Starts.{starts_from}
use Rattle.t1_parts.specs.Stretches.{AreSingle}
use Rattle.t1_parts.proofs.SingleLaws.{single_pushed}
use Rattle.t1_parts.proofs.StartLaws.{room_kept, single_kept, starts_kept, starts_pushed}
use Rattle.t1_parts.proofs.stretches.Stretches.push.Goals as goal

pub invariant_of-self-then-self : goal.invariant_of-self-then-self
invariant_of-self-then-self c =
    single_kept c.self.inside.are_single c.self.inside.starts.items c.push.new.self.items c.if-self.true
    (subst AreSingle (sym c.in_ok-push.ensures.items) (single_pushed c.self.inside.stretches.items (One c.args.item) (c.self.invariant.0 c.if-self.true) refl))

pub invariant_of-self-2 : goal.invariant_of-self-2
invariant_of-self-2 c =
    let view = ap (λ ss. length (items_in ss)) c.self.view_is in
    starts_kept c.self.inside.are_single _ _ c.if-self.false (
    room_kept _ _ _ _ (c.push-room_was_reserved.ensures.succeeds (omega (arith, c.in_default-reserve.ensures.ok))) c.push-room_was_reserved.ensures.items
    ∙ ap (λ xs. xs ++ c.args.len ∷ []) c.in_default-reserve.ensures.items
    ∙ starts_pushed c.args.len c.self.inside.starts.items c.self.inside.stretches.items (One c.args.item) (c.self.invariant.1 c.if-self.false) (omega (arith, view, c.requires))
    ∙ ap (starts_from 0) (sym c.in_ok-push-2.ensures.items)
    )
