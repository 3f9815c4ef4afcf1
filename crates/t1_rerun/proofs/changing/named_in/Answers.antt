use Rattle.std.proofs.Common.{◌∙◌, ◌++◌, [], ◌∷◌, ap, arith, map, sym, take}
use Rattle.std.proofs.lemmas.List.{map-append, take_all}
use Rattle.t1_font.specs.OwnedKeys.{key_of}
use Rattle.t1_rerun.specs.Settled.{changed_keys}
use Rattle.t1_rerun.proofs.ChangedBodies.{keys-more}
use Rattle.t1_rerun.proofs.changing.named_in.Goals as goal

pub loop-change-preserved : goal.loop-change-preserved
loop-change-preserved c =
    let changes = c.args.changes.now in
    let at = c.loop-change.change-index in
    let copy = c.in_ok-copied.field-0 in
    ap (map key_of) c.in_ok-push.ensures.items ∙ map-append key_of c.loop-change.named.items (copy ∷ [])
    ∙ ap (λ l. l ++ key_of copy ∷ []) c.loop-change.invariant
    ∙ ap (λ k. changed_keys (take at changes) ++ k ∷ []) c.in_ok-copied.ensures
    ∙ sym (keys-more changes at c.change-item.result c.loop-change-test.true c.change-item.is)

pub returns : goal.returns
returns c = c.loop-change.invariant ∙ ap changed_keys (take_all c.loop-change.change-index c.args.changes.now (omega arith))
