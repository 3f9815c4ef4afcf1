-- What calls over a file answer, by what they do over its source.
use Rattle.std.proofs.Common.{List, ℕ, refl, Option, Result, Ok, Err, inr}
use Rattle.t1_frac.specs.declared.fault.Fault.{Fault}
use Rattle.t1_session.specs.Serving.{Serves, Streams}
use Rattle.t1_session.specs.State.{SessionState}
use Rattle.t1_session.specs.declared.error.ServeError.TheVariants as errors

-- a session for which there is no memory reads and writes nothing, whatever it would be on
pub unopened : {R W : Type 0} (T : Type 0) (remaining : R → Option (List ℕ)) (contents : W → Option (List ℕ)) (given : Result SessionState Fault) (s : Streams R W) → Serves remaining contents {T = T} given s s (Err errors.Memory)
unopened T remaining contents (Ok state) s = inr refl
unopened T remaining contents (Err fault) s = (refl, tt)
