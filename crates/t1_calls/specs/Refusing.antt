-- Why calls that write to memory are refused.
use Rattle.t1_frac.specs.declared.fault.Refusal.{Refusal}
use Rattle.t1_frac.specs.declared.fault.Refusal.TheVariants as refusals
use Rattle.t1_session.specs.declared.error.ServeError.{ServeError}
use Rattle.t1_session.specs.declared.error.ServeError.TheVariants as errors

-- word: the refusal of a call that writes to memory, where a write fails for want of it alone
abbrev pub refused_by : ServeError → Refusal
refused_by (errors.Load fault) = refusals.Fault fault
refused_by errors.Read = refusals.Memory
refused_by errors.Write = refusals.Memory
refused_by errors.Memory = refusals.Memory
