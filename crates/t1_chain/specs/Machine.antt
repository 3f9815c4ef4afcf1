-- How the definitions see what the code holds.
use Rattle.std.specs.Prelude.{◌≡◌, ◌<◌, ℕ, ◌==◌, if◌then◌else◌, List, Option, Some, None, IsSome}
use Rattle.std.specs.Result.{result_err}
use Rattle.t1_frac.specs.declared.fault.Code.{Code}
use Rattle.t1_frac.specs.declared.fault.Code.TheVariants.{F32, F33}
use Rattle.t1_code.specs.declared.command.Command.{Command}
use Rattle.t1_run.specs.declared.state.Control.{Control}
use Rattle.t1_run.specs.declared.state.Control.TheVariants as controls
use Rattle.t1_run.specs.Machine.{asked_step}
use Rattle.t1_run.specs.Run.{FontBodies, composite_of}
use Rattle.t1_run.specs.State.{State}
use Rattle.t1_run.specs.Step.{Step, Next}
use Rattle.t1_run.specs.Words.{step}
use Rattle.t1_chain.specs.Failing.{Failure, Ending, OutOfWords, Returned, Completed, Failed, CallFollower, Follower, follow_step, followed_within, called_at, fails_at}
use Rattle.t1_chain.specs.Details.{recorded_in}
use Rattle.t1_chain.specs.declared.failure.Failure.{Failure as FailureFields}
use Rattle.t1_chain.specs.declared.ending.Asked.{Asked}
use Rattle.t1_chain.specs.declared.ending.Asked.TheVariants.{Word, Subr, Over}
use Rattle.t1_chain.specs.declared.ending.Ending.{Ending as EndingFields}
use Rattle.t1_chain.specs.declared.ending.Ending.TheVariants as endings
use Rattle.t1_chain.specs.declared.noted.Noted.{Noted}

-- word: a failure as the definitions see it
abbrev pub failure_seen : FailureFields → Failure
failure_seen f = record { code = f.code; calls = f.calls.items; word = f.word; detail = f.detail }

-- word: the ending that the code names, in this state
abbrev pub ending_of : EndingFields → State → Ending
ending_of endings.OutOfWords s = OutOfWords s
ending_of (endings.Returned word) s = Returned word s
ending_of endings.Completed s = Completed s
ending_of (endings.Failed failure) s = Failed (failure_seen failure)

-- word: the ending, or what the next word does
abbrev pub ending_or : Follower → Option EndingFields → State → Ending
ending_or next None s = next s
ending_or next (Some ending) s = ending_of ending s

-- word: the step of a word that asks for this, or for the next word
abbrev pub asking : Option Control → State → Step
asking None s = Next s
asking (Some control) s = asked_step control s

-- word: the fault of a call of a Subr with this body, where so many Subrs more may be active
abbrev pub refused_call : ℕ → Option (List Command) → Option Code
refused_call levels None = Some F32
refused_call levels (Some body) = if levels == 0 then Some F33 else None

-- word: the fault of what a word asks for
abbrev pub refused_control : FontBodies → ℕ → Control → Option Code
refused_control m levels (controls.Call n) = refused_call levels (m.subrs n)
refused_control m levels (controls.Compose a) = result_err (composite_of m.glyphs a)
refused_control m levels _ = None

-- word: what is noted of this state
abbrev pub Notes : Noted → State → Type 0
Notes noted s = (noted.stack.items ≡ s.stack) × (noted.points ≡ recorded_in s.flex)

-- word: what this word leaves to the run, where what it asks for has no fault
abbrev pub asked_by : ℕ → Control → Asked
asked_by word (controls.Call n) = Subr n
asked_by word controls.Back = Over (endings.Returned word)
asked_by word controls.End = Over endings.Completed
asked_by word (controls.Compose a) = Over endings.Completed

-- word: what the run does from this word on, where this is left to it
abbrev pub after_asked : CallFollower → (Code → Failure) → ℕ → Follower → Asked → State → Ending
after_asked caller fails word next Word s = next s
after_asked caller fails word next (Subr n) s = called_at fails (record { word = word; subr = n }) next (caller n s)
after_asked caller fails word next (Over ending) s = ending_of ending s

-- word: the step of this word, which is this command, leaves this to the run, whatever comes after it
abbrev pub Acts : FontBodies → ℕ → ℕ → Command → Asked → State → State → Type 0
Acts m levels word c asked before after =
    (next : Follower)
    → follow_step m (followed_within m levels) (fails_at m word c before) word next (step c before)
    ≡ after_asked (followed_within m levels) (fails_at m word c before) word next asked after

-- word: a Subr that is asked for is there, and one more may be active
abbrev pub MayEnter : ℕ → (ℕ → Option (List Command)) → Asked → Type 0
MayEnter levels subrs Word = Unit {0}
MayEnter levels subrs (Subr n) = (0 < levels) × IsSome (subrs n)
MayEnter levels subrs (Over ending) = Unit {0}
