use Rattle.std.proofs.Common.{◌≡◌, ◌∙◌, subst, sym}
use Rattle.std.specs.Prelude.{IfOk}
use Rattle.t1_refusal.specs.Telling.{refused_fault_lines}
use Rattle.t1_refusal.specs.Bodies.{AreBodiesOf, HasFaultyBody}
use Rattle.t1_rerun.specs.Changing.{edited_font}
use Rattle.t1_session.proofs.EditedBodyLaws.{faulty_body, same_bodies}
use Rattle.t1_session.proofs.refused.fault_text.Goals as goal

pub run_fault_text-requires : goal.run_fault_text-requires
run_fault_text-requires c =
    let is = c.in-Ok.ensures.changed c.requires.old c.args.made.now c.requires.made in
    subst (AreBodiesOf (edited_font c.in_ok-bodies-in-Ok.bodies)) (sym c.items.ensures) (
      is.compiled,
      same_bodies c.args.edit.now c.requires.old c.args.made.now c.args.held.now.records c.requires.right c.in-Ok.change is c.deref.result.now (c.deref.ensures.value ∙ c.in_ok-changes-in-Ok.ensures)
          (edited_font c.in_ok-bodies-in-Ok.bodies) c.in_ok-bodies-in-Ok.ensures,
    )

pub returns-in_ok-bodies-in-Ok : goal.returns-in_ok-bodies-in-Ok
returns-in_ok-bodies-in-Ok c = subst (λ items. IfOk c.run_fault_text.result (λ text. text.items ≡ refused_fault_lines items c.args.fault.now)) c.items.ensures c.run_fault_text.ensures

pub body_fault_text-requires : goal.body_fault_text-requires
body_fault_text-requires c =
    subst HasFaultyBody (sym c.items-in-Err-Fault.ensures)
    (faulty_body c.args.edit.now c.requires.old c.args.made.now c.requires.made c.in-Err-Fault.field-0 c.in-Err-Fault._fault c.in-Err-Fault.field-0-is c.in-Err-Fault.ensures.change)
