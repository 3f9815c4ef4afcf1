use Rattle.std.proofs.Common.{rules, ◌≡◌, ◌∙◌, ap, refl, None, Some}
use Rattle.t1_font.specs.Runs.{drawing_kept}
use Rattle.t1_font.proofs.InTurnLaws.{faulty-metrics, plain-metrics}
use Rattle.t1_font.proofs.in_turn.row_by.Goals as goal

pub returns-in_ok-plain_metrics-in-Ok : goal.returns-in_ok-plain_metrics-in-Ok
returns-in_ok-plain_metrics-in-Ok c = λ run. λ h.
    let d = c.in-Ok.run'.drawing in
    let none : d.composite ≡ None = search rules in
    plain-metrics run c.args.name.now d c.in_ok-plain_metrics-in-Ok.field-0 (h ∙ ap Some (ap drawing_kept c.in-Ok.is)) none c.in_ok-plain_metrics-in-Ok.ensures

pub returns-in-Err : goal.returns-in-Err
returns-in-Err c = λ run. λ h. (refl, faulty-metrics run c.args.name.now c.in-Err.code (h ∙ ap Some (ap drawing_kept c.in-Err.is)))
