use Rattle.std.proofs.Common.{◌≡◌, subst, sym}
use Rattle.std.specs.Prelude.{IfOk}
use Rattle.t1_session.specs.KeptRefusals.{fault_of_edited}
use Rattle.t1_session.proofs.refused.edited_fault.Goals as goal

pub prepared_fault-fault-requires : goal.prepared_fault-fault-requires
prepared_fault-fault-requires c = record { held = c.requires; well = c.source_is_well_formed.ensures; serves = c.in-Ok.ensures.serves; made = c.in-Ok.ensures.change }

pub returns-in-Ok-clause-fault : goal.returns-in-Ok-clause-fault
returns-in-Ok-clause-fault c =
    subst (λ r. IfOk c.prepared_fault-fault.result (λ fault. fault ≡ fault_of_edited r)) (sym c.in-Ok.ensures.change) c.prepared_fault-fault.ensures.fault
