-- Errors of one call as those of another.
use Rattle.std.specs.Prelude.{Result, Ok, Err}
use Rattle.t1_frac.specs.declared.fault.Refusal.{Refusal}
use Rattle.t1_frac.specs.declared.fault.Refusal.TheVariants as refusals
use Rattle.t1_code.specs.declared.parts.OutError.{OutError}
use Rattle.t1_code.specs.declared.parts.OutError.TheVariants as out
use Rattle.t1_session.specs.declared.error.ServeError.{ServeError}
use Rattle.t1_session.specs.declared.error.ServeError.TheVariants as errors

-- word: a fault of what is loaded is reported in Load
abbrev pub reported_by_refusal : Refusal → ServeError
reported_by_refusal (refusals.Fault fault) = errors.Load fault
reported_by_refusal refusals.Memory = errors.Memory

-- word: a fault of what is written is reported in Load too
abbrev pub reported_by_writing : OutError → ServeError
reported_by_writing (out.Fault fault) = errors.Load fault
reported_by_writing out.Write = errors.Write
reported_by_writing out.Memory = errors.Memory

-- word: what judging answers where measuring answers this
abbrev pub judged_by : {T : Type 0} → Result T ServeError → Result (Unit {0}) Refusal
judged_by (Ok done) = Ok tt
judged_by (Err errors.Write) = Ok tt
judged_by (Err (errors.Load fault)) = Err (refusals.Fault fault)
judged_by (Err errors.Read) = Err refusals.Memory
judged_by (Err errors.Memory) = Err refusals.Memory
