use Rattle.t1_refusal.proofs.TellingLaws.{faulty_body}
use Rattle.t1_refusal.proofs.telling.fault_text.Goals as goal

pub body_fault_text-requires : goal.body_fault_text-requires
body_fault_text-requires c = faulty_body c.args.items.now c.in-Err-Fault.field-0 c.in-Err-Fault._fault c.in-Err-Fault.field-0-is c.in-Err-Fault.ensures.checked

pub run_fault_text-requires : goal.run_fault_text-requires
run_fault_text-requires c = (c.in-Ok.ensures.checked, c.in-Ok.ensures.bodies)
