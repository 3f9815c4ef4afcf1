use Rattle.std.proofs.Common.{◌≡◌, ◌∙◌, ap, map, subst, sym, refl, Ok}
use Rattle.std.specs.List.{list_any}
use Rattle.std.proofs.lemmas.Result.{err_from_is_err_and}
use Rattle.t1_frac.specs.Outcome.{Refuses}
use Rattle.t1_font.specs.Bodies.{bodies_check}
use Rattle.t1_held.specs.Batch.{entry_edit, is_fault, keys}
use Rattle.t1_held.specs.Drafting.{AreBatchChanges}
use Rattle.t1_held.specs.Noting.{kept_at, kept_bodies_check}
use Rattle.t1_held.proofs.Reporting.{batch-changes, changes-noted, faults-noted, first-fault, first-of-edits}
use Rattle.t1_held.proofs.batch.changes.batch_changes.Goals as goal
use Rattle.t1_held.proofs.batch.changes.batch_changes.Goals.{then-faulty+in_ok-check_entries, else-faulty}

pub returns-in_err-check_entries : goal.returns-in_err-check_entries
returns-in_err-check_entries c = λ old well fine edited.
    let p = err_from_is_err_and c.from_residual-in_err-check_entries.result c.from_residual-in_err-check_entries.ensures.1 in
    let r = c.in_err-check_entries.field-0.0 in
    let new = c.args.source.now in
    let m = kept_at c.in_ok-noted.noted.bodies in
    let first = first-of-edits c.args.entries.items old new edited fine m c.in_ok-noted.ensures.bodies in
    rw (p.1, p.2) (first-fault new new.items r refl (subst (Refuses r) (ap (kept_bodies_check m) c.items.ensures ∙ first) c.in_err-check_entries.ensures))

pub returns : goal.returns
returns c = λ old well fine edited.
    let es = c.args.entries.items in
    let new = c.args.source.now in
    let noted = c.in_ok-noted.noted in
    let known = c.in_ok-noted.ensures in
    let m = kept_at noted.bodies in
    let changes = c.in_ok-changes_of.field-0.items in
    let are = changes-noted es m noted.added.items noted.others.items changes known.bodies known.added known.others c.in_ok-changes_of.ensures in
    let right : bodies_check new.items ≡ Ok tt → AreBatchChanges old new (keys (map entry_edit es)) changes =
    λ checked. subst (AreBatchChanges old new (keys (map entry_edit es))) (sym are) (batch-changes es old new edited checked) in
    elim c.if-faulty.branch [
      | then-faulty+in_ok-check_entries w ↦ right
          (sym (ap (kept_bodies_check m) w.items.ensures ∙ first-of-edits es old new edited fine m known.bodies) ∙ w.in_ok-check_entries.ensures)
      | else-faulty w ↦ right
          (edited.sound fine
          (faults-noted es ∙ sym (c.have_fault-faulty.ensures ∙ ap (λ l. list_any (λ e. is_fault e.after) l) c.deref.ensures.value) ∙ w.if-faulty.false))
    ]
