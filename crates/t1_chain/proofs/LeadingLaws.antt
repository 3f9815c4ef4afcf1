-- The calls of a failure lead to its word.
use Rattle.std.proofs.Common.{◌≡◌, ℕ, zero, suc, ◌+◌, ◌<◌, ◌≤◌, List, [], ◌∷◌, length, Option, Some, None, refl, subst, arith}
use Rattle.std.specs.Prelude.{Result, Ok, Err}
use Rattle.t1_frac.specs.declared.fault.Code.{Code}
use Rattle.t1_frac.specs.declared.fault.Code.TheVariants.{F34, F35, F36}
use Rattle.t1_code.specs.declared.command.Command.{Command}
use Rattle.t1_run.specs.declared.outline.Composite.{Composite}
use Rattle.t1_run.specs.declared.outline.Metric.{Metric}
use Rattle.t1_run.specs.State.{State, initial}
use Rattle.t1_run.specs.Step.{Step, Next, Call, Back, End, Compose, Fault}
use Rattle.t1_run.specs.Words.{step}
use Rattle.t1_run.specs.Run.{FontBodies, entering, composite_of}
use Rattle.t1_chain.specs.Failing.{Ending, OutOfWords, Returned, Completed, Failed, Failure, Follower, CallFollower, LeadsLaw, LeadsTo, LeadsToWord, follow_step, followed_within, followed_call, called_at, followed_composite, endings, failure_at, failure_by, failure_in, fails_at, followed_too_deep, unmeasured, words_from}
use Rattle.t1_chain.specs.declared.failure.Call.{Call as SubrCall}
use Rattle.t1_chain.specs.declared.failure.Detail.TheVariants.{Nothing}

-- how a body of so many words stops: at one of them, or where calls from there lead to
abbrev Stands : FontBodies → ℕ → Ending → Type 0
Stands m count (OutOfWords s) = Unit {0}
Stands m count (Returned word s) = word < count
Stands m count (Completed s) = Unit {0}
Stands m count (Failed f) = LeadsToWord m count f.calls f.word

-- so does the body of a Subr that is called
abbrev StandsIn : FontBodies → ℕ → Result Ending Code → Type 0
StandsIn m n (Ok ending) = (body : List Command) × (m.subrs n ≡ Some body) × Stands m (length body) ending
StandsIn m n (Err code) = Unit {0}

-- a failure at a word of the body itself
abbrev AreOwn : FontBodies → ℕ → (Code → Failure) → Type 0
AreOwn m count fails = (code : Code) → Stands m count (Failed (fails code))

after-stands : (m : FontBodies) (count word n : ℕ) (fails : Code → Failure) (next : Follower) → word < count → AreOwn m count fails
    → ((s : State) → Stands m count (next s)) → (stopped : Result Ending Code) → StandsIn m n stopped
    → Stands m count (called_at fails (record { word = word; subr = n }) next stopped)
after-stands m count word n fails next below own rest (Ok (OutOfWords s)) h = rest s
after-stands m count word n fails next below own rest (Ok (Returned w s)) h = rest s
after-stands m count word n fails next below own rest (Ok (Completed s)) h = tt
after-stands m count word n fails next below own rest (Ok (Failed f)) h = (below, h)
after-stands m count word n fails next below own rest (Err code) h = own code

composed-stands : (m : FontBodies) (count : ℕ) (fails : Code → Failure) (s : State) → AreOwn m count fails → (r : Result Composite Code) → Stands m count (followed_composite fails s r)
composed-stands m count fails s own (Ok composite) = tt
composed-stands m count fails s own (Err code) = own code

act-stands : (m : FontBodies) (count word : ℕ) (caller : CallFollower) (fails : Code → Failure) (next : Follower)
    → ((n : ℕ) (s : State) → StandsIn m n (caller n s)) → word < count → AreOwn m count fails → ((s : State) → Stands m count (next s))
    → (t : Step) → Stands m count (follow_step m caller fails word next t)
act-stands m count word caller fails next calls below own rest (Next s) = rest s
act-stands m count word caller fails next calls below own rest (Call n s) = after-stands m count word n fails next below own rest (caller n s) (calls n s)
act-stands m count word caller fails next calls below own rest (Back s) = below
act-stands m count word caller fails next calls below own rest (End s) = tt
act-stands m count word caller fails next calls below own rest (Compose a s) = composed-stands m count fails s own (composite_of m.glyphs a)
act-stands m count word caller fails next calls below own rest (Fault code) = own code

words-stand : (m : FontBodies) (caller : CallFollower) → ((n : ℕ) (s : State) → StandsIn m n (caller n s))
    → (count word : ℕ) (cs : List Command) → word + length cs ≡ count → (s : State) → Stands m count (words_from m caller word cs s)
words-stand m caller calls count word [] all s = tt
words-stand m caller calls count word (c ∷ cs) all s =
    let below : word < count = omega (arith, all) in
    let left : word + 1 + length cs ≡ count = omega (arith, all) in
    act-stands m count word caller (fails_at m word c s) (words_from m caller (word + 1) cs) calls below (λ code. below)
    (words-stand m caller calls count (word + 1) cs left) (step c s)

called-stands : (m : FontBodies) (n : ℕ) (run : List Command → State → Result Ending Code)
    → ((body : List Command) → m.subrs n ≡ Some body → (s : State) → StandsIn m n (run body s))
    → (body : Option (List Command)) → m.subrs n ≡ body → (s : State) → StandsIn m n (followed_call run body n s)
called-stands m n run h None e s = tt
called-stands m n run h (Some body) e s = h body e (entering n s)

calls-stand : (m : FontBodies) (levels n : ℕ) (s : State) → StandsIn m n (followed_within m levels n s)
calls-stand m zero n s = called-stands m n followed_too_deep (λ body. λ e. λ t. tt) (m.subrs n) refl s
calls-stand m (suc levels) n s =
    called-stands m n (λ body. λ t. Ok (words_from m (followed_within m levels) 0 body t))
    (λ body. λ e. λ t. (body, e, words-stand m (followed_within m levels) (calls-stand m levels) (length body) 0 body (omega arith) t)) (m.subrs n) refl s

led : (m : FontBodies) (count : ℕ) (one f : Failure) → LeadsTo m count one.calls one.word → one ≡ f → LeadsTo m count f.calls f.word
led m count one f h e = subst (λ (x : Failure). LeadsTo m count x.calls x.word) e h

or-end : (m : FontBodies) (count : ℕ) (calls : List SubrCall) (word : ℕ) → LeadsToWord m count calls word → LeadsTo m count calls word
or-end m count [] word h = omega (arith, h)
or-end m count (call ∷ calls) word h = h

from-ending : (m : FontBodies) (count : ℕ) (ending : Ending) (f : Failure) → Stands m count ending → failure_by count ending ≡ Some f → LeadsTo m count f.calls f.word
from-ending m count (OutOfWords s) f h e = led m count (failure_at count Nothing F35) f (omega arith) (cc)
from-ending m count (Returned word s) f h e = led m count (failure_at word Nothing F34) f (omega (arith, h)) (cc)
from-ending m count (Completed s) f h e = by s.metric e where
  by : (metric : Option Metric) → unmeasured count metric ≡ Some f → LeadsTo m count f.calls f.word
  by None e' = led m count (failure_at count Nothing F36) f (omega arith) (cc)
  by (Some metric) e' = absurd (cc)
from-ending m count (Failed failure) f h e = led m count failure f (or-end m count failure.calls failure.word h) (cc)

pub calls_lead : LeadsLaw
unfolding failure_in
calls_lead m body f e =
    from-ending m (length body) (endings m 10 body initial) f (words-stand m (followed_within m 10) (calls-stand m 10) (length body) 0 body (omega arith) initial) e
