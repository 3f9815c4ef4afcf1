-- Where and why a run fails: which word of which body, and the calls of Subrs on the way to it.
use Rattle.std.specs.Prelude.{◌≡◌, ◌<◌, ◌≤◌, ℕ, zero, suc, ◌+◌, List, [], ◌∷◌, length, Option, Some, None, Result, Ok, Err, option_map}
use Rattle.std.specs.Result.{result_err}
use Rattle.t1_frac.specs.declared.fault.Code.{Code}
use Rattle.t1_frac.specs.declared.fault.Code.TheVariants.{F32, F33, F34, F35, F36}
use Rattle.t1_code.specs.declared.command.Command.{Command}
use Rattle.t1_run.specs.declared.outline.Composite.{Composite}
use Rattle.t1_run.specs.declared.outline.Metric.{Metric}
use Rattle.t1_run.specs.State.{State, initial}
use Rattle.t1_run.specs.Step as steps
use Rattle.t1_run.specs.Step.{Step}
use Rattle.t1_run.specs.Words.{step}
use Rattle.t1_run.specs.Run.{FontBodies, entering, composite_of, body_stop, outcome_of}
use Rattle.t1_chain.specs.declared.failure.Call.{Call}
use Rattle.t1_chain.specs.declared.failure.Detail.{Detail}
use Rattle.t1_chain.specs.declared.failure.Detail.TheVariants.{Nothing}
use Rattle.t1_chain.specs.Details.{detail_of, recorded_in}

-- profile, faults: where and why a run fails
pub record Failure : Type 0 where
  pub code : Code
  -- the calls of Subrs on the way, from the glyph's own body on
  pub calls : List Call
  -- which word of the last body entered, from 0
  pub word : ℕ
  pub detail : Detail

-- profile, faults: the failure at this word of a body itself
abbrev pub failure_at : ℕ → Detail → Code → Failure
failure_at word detail code = record { code = code; calls = []; word = word; detail = detail }

-- profile, faults: a failure in the Subr that this call enters
abbrev pub within_call : Call → Failure → Failure
within_call call f = record f { calls = call ∷ f.calls }

-- profile, faults: how a list of commands stops, and where
pub data Ending : Type 0 where
  -- after its last word
  OutOfWords : State → Ending
  -- by the return that is this word of it
  Returned : ℕ → State → Ending
  -- by endchar or seac
  Completed : State → Ending
  -- by a fault
  Failed : Failure → Ending

-- profile: what a list of commands does from a state
abbrev pub Follower : Type 0
Follower = State → Ending

-- profile: what a call of a Subr does from there, or the fault of the call
abbrev pub CallFollower : Type 0
CallFollower = ℕ → State → Result Ending Code

-- Type 1 Font Format, Chapter 6 (return): where the Subr that this call entered is over, the caller goes on
abbrev pub caller_goes_on : Call → Follower → Ending → Ending
caller_goes_on call next (OutOfWords s) = next s
caller_goes_on call next (Returned word s) = next s
caller_goes_on call next (Completed s) = Completed s
caller_goes_on call next (Failed failure) = Failed (within_call call failure)

-- profile, faults: a call, of which the word fails so
abbrev pub called_at : (Code → Failure) → Call → Follower → Result Ending Code → Ending
called_at fails call next (Ok ending) = caller_goes_on call next ending
called_at fails call next (Err code) = Failed (fails code)

-- profile, faults: the run ends with its composite, or at this word
abbrev pub followed_composite : (Code → Failure) → State → Result Composite Code → Ending
followed_composite fails s (Ok composite) = Completed s
followed_composite fails s (Err code) = Failed (fails code)

-- profile, faults: what the step of this word does to the run; where the word is refused, it fails so
abbrev pub follow_step : FontBodies → CallFollower → (Code → Failure) → ℕ → Follower → Step → Ending
follow_step m caller fails word next (steps.Next s) = next s
follow_step m caller fails word next (steps.Call n s) = called_at fails (record { word = word; subr = n }) next (caller n s)
follow_step m caller fails word next (steps.Back s) = Returned word s
follow_step m caller fails word next (steps.End s) = Completed s
follow_step m caller fails word next (steps.Compose a s) = followed_composite fails s (composite_of m.glyphs a)
follow_step m caller fails word next (steps.Fault code) = Failed (fails code)

-- profile, faults: the failure at this word, which is this command, from this state
abbrev pub fails_at : FontBodies → ℕ → Command → State → Code → Failure
fails_at m word c s code = failure_at word (detail_of m.glyphs code c s.stack (recorded_in s.flex)) code

-- Type 1 Font Format, Chapter 6: the words one after another, the first of which is this word of its list
abbrev pub words_from : FontBodies → CallFollower → ℕ → List Command → Follower
words_from m caller word [] s = OutOfWords s
words_from m caller word (c ∷ cs) s = follow_step m caller (fails_at m word c s) word (words_from m caller (word + 1) cs) (step c s)

-- Type 1 Font Format, Chapter 6 (callsubr): a Subr's body, run so; F32 where there is no such Subr
abbrev pub followed_call : (List Command → State → Result Ending Code) → Option (List Command) → CallFollower
followed_call run None n s = Err F32
followed_call run (Some body) n s = run body (entering n s)

-- profile, limits: a body that is called where no Subr more may be active
abbrev pub followed_too_deep : List Command → State → Result Ending Code
followed_too_deep body s = Err F33

-- profile, limits: a call, where so many Subrs more may be active at once
abbrev pub followed_within : FontBodies → ℕ → CallFollower
followed_within m zero n s = followed_call followed_too_deep (m.subrs n) n s
followed_within m (suc levels) n s = followed_call (λ body. λ t. Ok (words_from m (followed_within m levels) 0 body t)) (m.subrs n) n s

-- profile, limits: how a list of commands stops, where so many Subrs may be active at once
abbrev pub endings : FontBodies → ℕ → List Command → Follower
endings m levels = words_from m (followed_within m levels) 0

-- profile: endchar and seac ask for the side bearing, so it is set where a run ends by them
abbrev pub unmeasured : ℕ → Option Metric → Option Failure
unmeasured count None = Some (failure_at count Nothing F36)
unmeasured count (Some metric) = None

-- Type 1 Font Format, Chapter 6 (endchar): a glyph's own body, of so many words, ends by endchar or seac
abbrev pub failure_by : ℕ → Ending → Option Failure
failure_by count (OutOfWords s) = Some (failure_at count Nothing F35)
failure_by count (Returned word s) = Some (failure_at word Nothing F34)
failure_by count (Completed s) = unmeasured count s.metric
failure_by count (Failed failure) = Some failure

-- profile, faults: where and why the run of a glyph's own body fails, in which ten Subrs may be active
unfoldable pub failure_in : FontBodies → List Command → Option Failure
failure_in m body = failure_by (length body) (endings m 10 body initial)

-- profile, faults: a run has a failure exactly where it has a fault, and both have one code
abbrev pub FailureLaw : Type 0
FailureLaw = (m : FontBodies) (body : List Command) → option_map (λ (f : Failure). f.code) (failure_in m body) ≡ result_err (outcome_of (body_stop m body))

-- profile, faults: from a body of so many words, by calls at its words and at those of Subrs that are there, to this word of the
-- last body
abbrev pub LeadsToWord : FontBodies → ℕ → List Call → ℕ → Type 0
LeadsToWord m count [] word = word < count
LeadsToWord m count (call ∷ calls) word =
    (call.word < count) × ((body : List Command) × (m.subrs call.subr ≡ Some body) × LeadsToWord m (length body) calls word)

-- profile, faults: the same, or to the end of the body itself
abbrev pub LeadsTo : FontBodies → ℕ → List Call → ℕ → Type 0
LeadsTo m count [] word = word ≤ count
LeadsTo m count (call ∷ calls) word = LeadsToWord m count (call ∷ calls) word

-- profile, faults: the calls of a failure lead to its word, which in a Subr is one of the Subr's words
abbrev pub LeadsLaw : Type 0
LeadsLaw = (m : FontBodies) (body : List Command) (f : Failure) → failure_in m body ≡ Some f → LeadsTo m (length body) f.calls f.word
