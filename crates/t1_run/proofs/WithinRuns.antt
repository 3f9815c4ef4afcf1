-- A run from the start stays within its limits, word by word and call by call.
use Rattle.std.proofs.Common.{ℕ, zero, suc, List, [], ◌∷◌, Option, Some, None}
use Rattle.std.specs.Prelude.{Result, Ok, Err, IfOk, IfSome}
use Rattle.std.specs.Option.{ok_or}
use Rattle.t1_frac.specs.Outcome.{◌>>=◌}
use Rattle.t1_frac.specs.declared.fault.Code.{Code}
use Rattle.t1_frac.specs.declared.fault.Code.TheVariants.{F44, F45}
use Rattle.t1_code.specs.declared.command.Command.{Command}
use Rattle.t1_run.specs.declared.outline.Accent.{Accent}
use Rattle.t1_run.specs.declared.outline.Composite.{Composite}
use Rattle.t1_run.specs.declared.outline.Metric.{Metric}
use Rattle.t1_run.specs.Run.{FontBodies, RunEnd, OutOfWords, Returned, Completed, Failed, Runner, Caller, Drawing, go_on, act, run_words, call_within, called, too_deep, composed, composite_of, standard_glyph, entering, body_stop, own, own_of, drawing_of, outcome_of}
use Rattle.t1_run.specs.State.{State, initial}
use Rattle.t1_run.specs.Step.{Step, Next, Call, Back, End, Compose, Fault}
use Rattle.t1_run.specs.Words.{step}
use Rattle.t1_run.proofs.Within.{IsValue, IsPlaced, AllDrawn, zero-place}
use Rattle.t1_run.proofs.WithinSteps.{StateWithin, AccentWithin, MetricWithin, StepWithin, step-within}

pub record PartsWithin (c : Composite) : Type 0 where
  pub asb : IsValue c.asb
  pub adx : IsValue c.adx
  pub ady : IsValue c.ady

abbrev pub StopWithin : RunEnd → Type 0
StopWithin (OutOfWords s) = StateWithin s
StopWithin (Returned s) = StateWithin s
StopWithin (Completed composite s) = IfSome composite PartsWithin × StateWithin s
StopWithin (Failed fault) = Unit {0}

abbrev RunsWithin : Runner → Type 0
RunsWithin run = (s : State) → StateWithin s → StopWithin (run s)

abbrev CallsWithin : Caller → Type 0
CallsWithin caller = (n : ℕ) → RunsWithin (caller n)

-- ---- the end by a composite

-- a step that gives anything at all
after-any : {A B : Type 0} (Q : B → Type 0) (r : Result A Code) (next : A → Result B Code) → ((x : A) → IfOk (next x) Q) → IfOk (r >>= next) Q
after-any Q (Ok x) next h = h x
after-any Q (Err fault) next h = tt

composite-within : (glyphs : List ℕ → Option (List Command)) (a : Accent) → AccentWithin a → IfOk (composite_of glyphs a) PartsWithin
composite-within glyphs a h =
    after-any PartsWithin (ok_or (standard_glyph a.base) F44) _ (λ base.
    after-any PartsWithin (ok_or (standard_glyph a.accent) F44) _ (λ accent.
    after-any PartsWithin (ok_or (glyphs base) F45) _ (λ _.
    after-any PartsWithin (ok_or (glyphs accent) F45) _ (λ _.
    record { asb = h.asb; adx = h.adx; ady = h.ady }))))

composed-within : (r : Result Composite Code) (s : State) → IfOk r PartsWithin → StateWithin s → StopWithin (composed r s)
composed-within (Ok c) s k h = (k, h)
composed-within (Err fault) s k h = tt

-- ---- words, calls and runs

go_on-within : (next : Runner) → RunsWithin next → (e : RunEnd) → StopWithin e → StopWithin (go_on next e)
go_on-within next runs (OutOfWords s) h = runs s h
go_on-within next runs (Returned s) h = runs s h
go_on-within next runs (Completed composite s) h = h
go_on-within next runs (Failed fault) h = tt

act-within : (m : FontBodies) (caller : Caller) (next : Runner) → CallsWithin caller → RunsWithin next
    → (t : Step) → StepWithin t → StopWithin (act m caller next t)
act-within m caller next calls runs (Next s) h = runs s h
act-within m caller next calls runs (Call n s) h = go_on-within next runs (caller n s) (calls n s h)
act-within m caller next calls runs (Back s) h = h
act-within m caller next calls runs (End s) h = (tt, h)
act-within m caller next calls runs (Compose a s) h = composed-within (composite_of m.glyphs a) s (composite-within m.glyphs a h.0) h.1
act-within m caller next calls runs (Fault fault) h = tt

words-within : (m : FontBodies) (caller : Caller) → CallsWithin caller → (cs : List Command) → RunsWithin (run_words m caller cs)
words-within m caller calls [] s h = h
words-within m caller calls (c ∷ cs) s h =
    act-within m caller (run_words m caller cs) calls (words-within m caller calls cs) (step c s) (step-within c s h)

entering-within : (n : ℕ) (s : State) → StateWithin s → StateWithin (entering n s)
entering-within n s h =
    record { stack = h.stack; results = h.results; current = h.current; metric = h.metric; flex = h.flex; segments = h.segments }

called-within : (run : List Command → Runner) → ((body : List Command) → RunsWithin (run body)) → (b : Option (List Command)) → CallsWithin (called run b)
called-within run runs None n s h = tt
called-within run runs (Some body) n s h = runs body (entering n s) (entering-within n s h)

calls-within : (m : FontBodies) (levels : ℕ) → CallsWithin (call_within m levels)
calls-within m zero n s h = called-within too_deep (λ body s' h'. tt) (m.subrs n) n s h
calls-within m (suc levels) n s h =
    called-within (run_words m (call_within m levels)) (words-within m (call_within m levels) (calls-within m levels)) (m.subrs n) n s h

initial-within : StateWithin initial
initial-within = record {
  stack = tt;
  results = tt;
  current = record { x = zero-place; y = zero-place };
  metric = tt;
  flex = tt;
  segments = tt;
}

pub stop-within : (m : FontBodies) (body : List Command) → StopWithin (body_stop m body)
unfolding body_stop
stop-within m body = words-within m (call_within m 10) (calls-within m 10) body initial initial-within

-- ---- what a run answers

pub record DrawingWithin (d : Drawing) : Type 0 where
  pub width : IsPlaced d.width
  pub bearing : IsPlaced d.bearing
  pub segments : AllDrawn d.segments
  pub parts : IfSome d.composite PartsWithin

-- what is drawn, where anything is
abbrev pub OwnWithin : Option (Result Drawing Code) → Type 0
OwnWithin r = IfSome r (λ outcome. IfOk outcome DrawingWithin)

drawing-within : (metric : Option Metric) (composite : Option Composite) (s : State)
    → IfSome metric MetricWithin → IfSome composite PartsWithin → StateWithin s → IfOk (drawing_of metric composite s) DrawingWithin
drawing-within None composite s k c h = tt
drawing-within (Some metric) composite s k c h = record { width = k.width; bearing = k.bearing; segments = h.segments; parts = c }

pub outcome-within : (e : RunEnd) → StopWithin e → IfOk (outcome_of e) DrawingWithin
outcome-within (OutOfWords s) h = tt
outcome-within (Returned s) h = tt
outcome-within (Completed composite s) h = drawing-within s.metric composite s h.1.metric h.0 h.1
outcome-within (Failed fault) h = tt

body-within : (m : FontBodies) (b : Option (List Command)) → OwnWithin (own_of m b)
body-within m None = tt
body-within m (Some body) = outcome-within (body_stop m body) (stop-within m body)

pub own-within : (m : FontBodies) (g : List ℕ) → OwnWithin (own m g)
unfolding own
own-within m g = body-within m (m.glyphs g)
