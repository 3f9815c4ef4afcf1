-- How an output is opened and ends, and how either can fail.
use Rattle.std.specs.Prelude.{◌≡◌, ◌≢◌, List, ℕ, Option, Some, None, Result, Ok, Err, codes, IfErr}
use Rattle.std.specs.IoError.{error_kind}
use Rattle.std.specs.declared.io.ErrorKind.TheVariants.{OutOfMemory}
use Rattle.std.specs.declared.io.Error.{Error}
use Rattle.t1_session.specs.declared.error.ServeError.TheVariants as errors
use Rattle.t1edit.specs.declared.output.Destination.{Destination}
use Rattle.t1edit.specs.declared.output.Destination.TheVariants as destinations
use Rattle.t1edit.specs.declared.output.Ended.{Ended}
use Rattle.t1edit.specs.declared.output.Ended.TheVariants as endings
use Rattle.t1edit.specs.declared.output.Output.{Output}
use Rattle.t1edit.specs.Stopping.{stop_of_serving}
use Rattle.t1edit.specs.declared.status.Stop.{Stop}
use Rattle.t1edit.specs.declared.unopened.Unopened.{Unopened}
use Rattle.t1edit.specs.declared.unopened.Unopened.TheVariants as unopened

-- word: an output isn't open since memory ran out
abbrev pub OutputWantsMemory : Unopened → Type 0
OutputWantsMemory (unopened.Memory want) = Unit {0}
OutputWantsMemory unopened.Refused = ⊥

-- word: out of memory is told of an error of the system that says so, and of no other
abbrev pub IsToldOf : Error → Unopened → Type 0
IsToldOf error (unopened.Memory want) = error_kind error ≡ OutOfMemory
IsToldOf error unopened.Refused = error_kind error ≢ OutOfMemory

-- word: why a call didn't write all is the answer; where it did, only a failed write is
abbrev pub HandsOn : {S T : Type 0} → Result S Stop → Result T Stop → Type 0
HandsOn (Err stop) result = result ≡ Err stop
HandsOn (Ok done) result = IfErr result (λ stop. stop ≡ stop_of_serving errors.Write)

-- word: a draft has taken its place, and nothing else has
abbrev pub EndsAs : Destination → Ended → Type 0
EndsAs (destinations.Draft draft) (endings.Drafted stood) = Unit {0}
EndsAs (destinations.Draft draft) endings.AsItStands = ⊥
EndsAs (destinations.Standard out) ended = ended ≡ endings.AsItStands
EndsAs (destinations.Error out) ended = ended ≡ endings.AsItStands
EndsAs (destinations.There file) ended = ended ≡ endings.AsItStands

-- word: what takes the bytes is standard output
abbrev pub IsStandard : Destination → Type 0
IsStandard (destinations.Standard out) = Unit {0}
IsStandard (destinations.Error out) = ⊥
IsStandard (destinations.There file) = ⊥
IsStandard (destinations.Draft draft) = ⊥

-- word: standard output is open, with no call counted
abbrev pub OpensStandard : Result Output Unopened → Type 0
OpensStandard (Ok output) = IsStandard output.out.inner × (output.out.failures ≡ 0)
OpensStandard (Err e) = ⊥

-- word: no path, and the word for standard output, open that
abbrev pub OpensByWord : Option (List ℕ) → Result Output Unopened → Type 0
OpensByWord None result = OpensStandard result
OpensByWord (Some word) result = word ≡ codes "-" → OpensStandard result
