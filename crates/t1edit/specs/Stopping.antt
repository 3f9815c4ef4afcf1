-- Why calls stop, from one error to another.
use Rattle.std.specs.Prelude.{Result, Ok, Err}
use Rattle.t1_session.specs.declared.error.ServeError.{ServeError}
use Rattle.t1_session.specs.declared.error.ServeError.TheVariants.{Write, Memory}
use Rattle.t1_session.specs.LiftedErrors.{reported_by_refusal}
use Rattle.t1edit.specs.declared.file_error.FileError.TheVariants.{Served}
use Rattle.t1edit.specs.declared.status.Stop.{Stop}
use Rattle.t1edit.specs.declared.status.Stop.TheVariants.{Failed}
use Rattle.t1edit.specs.declared.unopened.Unopened.{Unopened}
use Rattle.t1edit.specs.declared.unopened.Unopened.TheVariants as unopened
use Rattle.t1_frac.specs.declared.fault.Refusal.{Refusal}

-- word: a call over a source stopped
abbrev pub stop_of_serving : ServeError → Stop
stop_of_serving error = Failed (Served error)

-- word: an output that can't be opened is a failed write, or out of memory
abbrev pub stop_of_unopened : Unopened → Stop
stop_of_unopened unopened.Refused = stop_of_serving Write
stop_of_unopened (unopened.Memory want) = stop_of_serving Memory

-- word: what judging answers, as a call over whole files does
abbrev pub reported : {T : Type 0} → Result T Refusal → Result T ServeError
reported (Ok done) = Ok done
reported (Err refused) = Err (reported_by_refusal refused)
