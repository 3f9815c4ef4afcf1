-- The parts of a run's composite have names of StandardEncoding.
use Rattle.std.proofs.Common.{◌≡◌, ℕ, zero, suc, List, [], ◌∷◌, Option, Some, None, refl, subst}
use Rattle.std.specs.Prelude.{Result, Ok, Err, IfSome}
use Rattle.t1_frac.specs.declared.fault.Code.{Code}
use Rattle.t1_code.specs.declared.command.Command.{Command}
use Rattle.t1_run.specs.declared.outline.Composite.{Composite}
use Rattle.t1_run.specs.declared.outline.Metric.{Metric}
use Rattle.t1_run.specs.Composite.{HasStandardParts}
use Rattle.t1_run.specs.State.{State, initial}
use Rattle.t1_run.specs.Step.{Step, Next, Call, Back, End, Compose, Fault}
use Rattle.t1_run.specs.Words.{step}
use Rattle.t1_run.specs.Run.{FontBodies, RunEnd, OutOfWords, Returned, Completed, Failed, Runner, Caller, Drawing, entering, composite_of, composed, go_on, act, run_words, called, too_deep, call_within, body_stop, drawing_of, outcome_of, own, own_of}
use Rattle.t1_run.proofs.Naming.{standard_parts}

-- so do those of a stop
abbrev StopsWell : RunEnd → Type 0
StopsWell (OutOfWords s) = Unit {0}
StopsWell (Returned s) = Unit {0}
StopsWell (Completed composite s) = IfSome composite HasStandardParts
StopsWell (Failed fault) = Unit {0}

composed-well : (glyphs : List ℕ → Option (List Command)) (a : Rattle.t1_run.specs.declared.outline.Accent.Accent) (r : Result Composite Code) (s : State)
    → composite_of glyphs a ≡ r → StopsWell (composed r s)
composed-well glyphs a (Ok c) s e = standard_parts glyphs a c e
composed-well glyphs a (Err fault) s e = tt

go_on-well : (next : Runner) (stop : RunEnd) → StopsWell stop → ((s : State) → StopsWell (next s)) → StopsWell (go_on next stop)
go_on-well next (OutOfWords s) h rest = rest s
go_on-well next (Returned s) h rest = rest s
go_on-well next (Completed composite s) h rest = h
go_on-well next (Failed fault) h rest = h

act-well : (m : FontBodies) (caller : Caller) (next : Runner) (t : Step) → ((n : ℕ) (s : State) → StopsWell (caller n s))
    → ((s : State) → StopsWell (next s)) → StopsWell (act m caller next t)
act-well m caller next (Next s) calls rest = rest s
act-well m caller next (Call n s) calls rest = go_on-well next (caller n s) (calls n s) rest
act-well m caller next (Back s) calls rest = tt
act-well m caller next (End s) calls rest = tt
act-well m caller next (Compose a s) calls rest = composed-well m.glyphs a (composite_of m.glyphs a) s refl
act-well m caller next (Fault fault) calls rest = tt

words-well : (m : FontBodies) (caller : Caller) → ((n : ℕ) (s : State) → StopsWell (caller n s)) → (cs : List Command) (s : State) → StopsWell (run_words m caller cs s)
words-well m caller calls [] s = tt
words-well m caller calls (c ∷ cs) s = act-well m caller (run_words m caller cs) (step c s) calls (words-well m caller calls cs)

called-well : (run : List Command → Runner) (body : Option (List Command)) (n : ℕ) (s : State) → ((cs : List Command) (s : State) → StopsWell (run cs s))
    → StopsWell (called run body n s)
called-well run None n s h = tt
called-well run (Some body) n s h = h body (entering n s)

calls-well : (m : FontBodies) (levels : ℕ) (n : ℕ) (s : State) → StopsWell (call_within m levels n s)
calls-well m zero n s = called-well too_deep (m.subrs n) n s (λ cs. λ s'. tt)
calls-well m (suc levels) n s = called-well (run_words m (call_within m levels)) (m.subrs n) n s (words-well m (call_within m levels) (calls-well m levels))

stop-well : (m : FontBodies) (body : List Command) → StopsWell (body_stop m body)
unfolding body_stop
stop-well m body = words-well m (call_within m 10) (calls-well m 10) body initial

drawn-well : (stop : RunEnd) (d : Drawing) (c : Composite) → StopsWell stop → outcome_of stop ≡ Ok d → d.composite ≡ Some c → HasStandardParts c
drawn-well (OutOfWords s) d c h e is = absurd (cc)
drawn-well (Returned s) d c h e is = absurd (cc)
drawn-well (Failed fault) d c h e is = absurd (cc)
drawn-well (Completed composite s) d c h e is = by s.metric e where
  by : (metric : Option Metric) → drawing_of metric composite s ≡ Ok d → HasStandardParts c
  by None f = absurd (cc)
  by (Some metric) f =
      let same : composite ≡ d.composite = cc in
      subst (λ o. IfSome o HasStandardParts) is (subst (λ o. IfSome o HasStandardParts) same h)

pub own_parts : (m : FontBodies) (g : List ℕ) (d : Drawing) (c : Composite) → own m g ≡ Some (Ok d) → d.composite ≡ Some c → HasStandardParts c
unfolding own
own_parts m g d c e is = by (m.glyphs g) e where
  by : (body : Option (List Command)) → own_of m body ≡ Some (Ok d) → HasStandardParts c
  by None f = absurd (cc)
  by (Some body) f =
      let outcome : outcome_of (body_stop m body) ≡ Ok d = cc in
      drawn-well (body_stop m body) d c (stop-well m body) outcome is
