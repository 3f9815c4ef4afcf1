-- A run has a failure exactly where it has a fault.
use Rattle.std.proofs.Common.{◌≡◌, ℕ, zero, suc, ◌+◌, List, [], ◌∷◌, length, Option, Some, None, refl, ap, subst}
use Rattle.std.specs.Prelude.{Result, Ok, Err, option_map}
use Rattle.std.specs.Result.{result_err}
use Rattle.t1_frac.specs.declared.fault.Code.{Code}
use Rattle.t1_code.specs.declared.command.Command.{Command}
use Rattle.t1_run.specs.declared.outline.Composite.{Composite}
use Rattle.t1_run.specs.declared.outline.Metric.{Metric}
use Rattle.t1_run.specs.State.{State, initial}
use Rattle.t1_run.specs.Step.{Step, Next, Call, Back, End, Compose, Fault}
use Rattle.t1_run.specs.Words.{step}
use Rattle.t1_run.specs.Run as runs
use Rattle.t1_run.specs.Run.{FontBodies, RunEnd, Runner, entering, composite_of, body_stop, drawing_of, outcome_of}
use Rattle.t1_chain.specs.Failing.{Ending, OutOfWords, Returned, Completed, Failed, Failure, Follower, CallFollower, FailureLaw, follow_step, followed_within, followed_call, called_at, followed_composite, endings, failure_by, failure_in, fails_at, followed_too_deep, unmeasured, words_from}
use Rattle.t1_chain.specs.declared.failure.Call.{Call as SubrCall}

-- both stop in one way and state, or fail by one code
abbrev Alike : Ending → RunEnd → Type 0
Alike (OutOfWords s) (runs.OutOfWords t) = s ≡ t
Alike (Returned word s) (runs.Returned t) = s ≡ t
Alike (Completed s) (runs.Completed composite t) = s ≡ t
Alike (Failed failure) (runs.Failed code) = failure.code ≡ code
Alike _ _ = ⊥

-- so does a call
abbrev AlikeCall : Result Ending Code → RunEnd → Type 0
AlikeCall (Ok ending) stop = Alike ending stop
AlikeCall (Err found) (runs.Failed code) = found ≡ code
AlikeCall (Err found) _ = ⊥

-- a failure has the code that it is made of
abbrev Keeps : (Code → Failure) → Type 0
Keeps fails = (code : Code) → (fails code).code ≡ code

after-alike : (fails : Code → Failure) (call : SubrCall) (next : Follower) (next' : Runner) → Keeps fails → ((s : State) → Alike (next s) (next' s))
    → (ending : Result Ending Code) (stop : RunEnd) → AlikeCall ending stop → Alike (called_at fails call next ending) (runs.go_on next' stop)
after-alike fails call next next' keeps rest (Ok (OutOfWords s)) (runs.OutOfWords t) h = subst (λ u. Alike (next s) (next' u)) h (rest s)
after-alike fails call next next' keeps rest (Ok (Returned word s)) (runs.Returned t) h = subst (λ u. Alike (next s) (next' u)) h (rest s)
after-alike fails call next next' keeps rest (Ok (Completed s)) (runs.Completed composite t) h = h
after-alike fails call next next' keeps rest (Ok (Failed failure)) (runs.Failed code) h = h
after-alike fails call next next' keeps rest (Err found) (runs.Failed code) h = subst (λ c. (fails found).code ≡ c) h (keeps found)
after-alike fails call next next' keeps rest _ _ h = absurd h

composed-alike : (fails : Code → Failure) (s : State) → Keeps fails → (r : Result Composite Code) → Alike (followed_composite fails s r) (runs.composed r s)
composed-alike fails s keeps (Ok composite) = refl
composed-alike fails s keeps (Err code) = keeps code

act-alike : (m : FontBodies) (caller : CallFollower) (caller' : runs.Caller) (fails : Code → Failure) (word : ℕ) (next : Follower) (next' : Runner)
    → ((n : ℕ) (s : State) → AlikeCall (caller n s) (caller' n s)) → Keeps fails → ((s : State) → Alike (next s) (next' s))
    → (t : Step) → Alike (follow_step m caller fails word next t) (runs.act m caller' next' t)
act-alike m caller caller' fails word next next' calls keeps rest (Next s) = rest s
act-alike m caller caller' fails word next next' calls keeps rest (Call n s) =
    after-alike fails (record { word = word; subr = n }) next next' keeps rest (caller n s) (caller' n s) (calls n s)
act-alike m caller caller' fails word next next' calls keeps rest (Back s) = refl
act-alike m caller caller' fails word next next' calls keeps rest (End s) = refl
act-alike m caller caller' fails word next next' calls keeps rest (Compose a s) = composed-alike fails s keeps (composite_of m.glyphs a)
act-alike m caller caller' fails word next next' calls keeps rest (Fault code) = keeps code

words-alike : (m : FontBodies) (caller : CallFollower) (caller' : runs.Caller) → ((n : ℕ) (s : State) → AlikeCall (caller n s) (caller' n s))
    → (word : ℕ) (cs : List Command) (s : State) → Alike (words_from m caller word cs s) (runs.run_words m caller' cs s)
words-alike m caller caller' calls word [] s = refl
words-alike m caller caller' calls word (c ∷ cs) s =
    act-alike m caller caller' (fails_at m word c s) word (words_from m caller (word + 1) cs) (runs.run_words m caller' cs) calls (λ code. refl)
    (words-alike m caller caller' calls (word + 1) cs) (step c s)

called-alike : (run : List Command → State → Result Ending Code) (run' : List Command → Runner)
    → ((body : List Command) (s : State) → AlikeCall (run body s) (run' body s))
    → (body : Option (List Command)) (n : ℕ) (s : State) → AlikeCall (followed_call run body n s) (runs.called run' body n s)
called-alike run run' h None n s = refl
called-alike run run' h (Some body) n s = h body (entering n s)

calls-alike : (m : FontBodies) (levels n : ℕ) (s : State) → AlikeCall (followed_within m levels n s) (runs.call_within m levels n s)
calls-alike m zero n s = called-alike followed_too_deep runs.too_deep (λ body. λ t. refl) (m.subrs n) n s
calls-alike m (suc levels) n s =
    called-alike (λ body. λ t. Ok (words_from m (followed_within m levels) 0 body t)) (runs.run_words m (runs.call_within m levels))
    (words-alike m (followed_within m levels) (runs.call_within m levels) (calls-alike m levels) 0) (m.subrs n) n s

measured-alike : (count : ℕ) (composite : Option Composite) (s : State) (metric : Option Metric)
    → option_map (λ (f : Failure). f.code) (unmeasured count metric) ≡ result_err (drawing_of metric composite s)
measured-alike count composite s None = refl
measured-alike count composite s (Some metric) = refl

told : (count : ℕ) (ending : Ending) (stop : RunEnd) → Alike ending stop → option_map (λ (f : Failure). f.code) (failure_by count ending) ≡ result_err (outcome_of stop)
told count (OutOfWords s) (runs.OutOfWords t) h = refl
told count (Returned word s) (runs.Returned t) h = refl
told count (Completed s) (runs.Completed composite t) h =
    subst (λ u. option_map (λ (f : Failure). f.code) (unmeasured count s.metric) ≡ result_err (drawing_of u.metric composite u)) h (measured-alike count composite s s.metric)
told count (Failed failure) (runs.Failed code) h = ap Some h
told count _ _ h = absurd h

pub failures_told : FailureLaw
unfolding failure_in body_stop
failures_told m body = told (length body) (endings m 10 body initial) (body_stop m body) (words-alike m (followed_within m 10) (runs.call_within m 10) (calls-alike m 10) 0 body initial)
