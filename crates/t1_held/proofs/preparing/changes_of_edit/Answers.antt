use Rattle.std.proofs.lemmas.Result.{err_from_is_err_and}
use Rattle.t1_source.specs.Changes.{changed}
use Rattle.t1_held.proofs.HeldLaws.{change_alone, edit_made}
use Rattle.t1_held.proofs.preparing.changes_of_edit.Goals as goal

pub returns-in_err-change : goal.returns-in_err-change
returns-in_err-change c = λ s k change h e.
    let p = err_from_is_err_and c.from_residual.result c.from_residual.ensures.1 in
    rw (p.1, p.2) (c.in_err-change.ensures.changed s (changed change s k).0 (edit_made s k c.args.edit.now change h e))

pub returns : goal.returns
returns c = λ s k change h e.
    change_alone s k c.args.edit.now change h e c.in_ok-change.change (c.in_ok-change.ensures.changed s (changed change s k).0 (edit_made s k c.args.edit.now change h e))
    c.in_ok-change_alone.field-0.items c.in_ok-change_alone.ensures
