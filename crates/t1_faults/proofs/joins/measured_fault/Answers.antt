use Rattle.t1_font.specs.Runs.{drawing_in}
use Rattle.t1_faults.proofs.CheckLaws.{one_measured, one_refusal}
use Rattle.t1_faults.proofs.joins.measured_fault.Goals as goal

pub returns-in-Ok : goal.returns-in-Ok
returns-in-Ok c = one_measured (drawing_in c.args.runs.now) c.args.name.now c.in-Ok._metrics.items c.in-Ok.ensures

pub returns-in-Err-Fault : goal.returns-in-Err-Fault
returns-in-Err-Fault c = one_refusal (drawing_in c.args.runs.now) c.args.name.now c.in-Err-Fault.field-0 c.in-Err-Fault.fault c.in-Err-Fault.field-0-is c.in-Err-Fault.ensures
