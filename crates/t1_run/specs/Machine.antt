-- How the definitions see the runner's state and its answers.
use Rattle.std.specs.Prelude.{◌≡◌, ℕ, List, [], ◌∷◌, ◌++◌, map, reverse, take, Option, Result, Ok, Err}
use Rattle.std.specs.Option.{option_map}
use Rattle.std.specs.Borrow.{Bor}
use Rattle.t1_frac.specs.Outcome.{reported_at, Refuses}
use Rattle.t1_frac.specs.Refusals.{refusal}
use Rattle.t1_frac.specs.declared.fault.Code.{Code}
use Rattle.t1_frac.specs.declared.fault.Place.TheVariants.{Nowhere}
use Rattle.t1_frac.specs.declared.fault.Refusal.{Refusal}
use Rattle.t1_frac.specs.declared.fault.Refusal.TheVariants.{Memory}
use Rattle.t1_code.specs.declared.command.Command.{Command}
use Rattle.t1_run.specs.declared.halt.Halt.{Halt}
use Rattle.t1_run.specs.declared.halt.Halt.TheVariants as halts
use Rattle.t1_run.specs.declared.outline.Composite.{Composite}
use Rattle.t1_run.specs.declared.outline.Segment.{Segment}
use Rattle.t1_run.specs.declared.state.State.{State as StateFields}
use Rattle.t1_run.specs.declared.state.Control.{Control}
use Rattle.t1_run.specs.declared.state.Control.TheVariants as controls
use Rattle.t1_run.specs.State.{State}
use Rattle.t1_run.specs.Step.{Step, Next, Call, Back, End, Compose, Fault}
use Rattle.t1_run.specs.OtherSubrs.{end_flex, start_flex, add_flex}
use Rattle.t1_run.specs.Run.{Drawing, drawing_of}
use Rattle.t1_run.specs.declared.othersubrs.Effect.{Effect}
use Rattle.t1_run.specs.declared.othersubrs.Effect.TheVariants.{EndFlex, StartFlex, RecordPoint, Leave, Discard}

-- word: the state that the fields hold
abbrev pub state_of : StateFields → State
state_of s = record {
  stack = s.operands;
  results = s.results;
  current = s.current;
  metric = s.metric;
  flex = option_map (λ before. record { before = before; recorded = s.recorded }) s.flex;
  segments = s.segments;
  steps = s.steps;
  entered = s.entered;
}

-- word: the step of a word that asks for this, with the state after it
abbrev pub asked_step : Control → State → Step
asked_step (controls.Call n) s = Call n s
asked_step controls.Back s = Back s
asked_step controls.End s = End s
asked_step (controls.Compose a) s = Compose a s

-- word: a step is refused by its fault, or since memory ran out
abbrev pub RefusesStep : Halt → Step → Type 0
RefusesStep halts.Memory step = Unit {0}
RefusesStep (halts.Fault code) step = step ≡ Fault code

-- word: what a step is refused by refuses the run, a fault at no place
abbrev pub refusal_by : Halt → Refusal
refusal_by halts.Memory = Memory
refusal_by (halts.Fault code) = refusal code

-- word: the step after which the run goes on with the next word
abbrev pub going_on : Unit {0} → State → Step
going_on done s = Next s

-- word: the step of a call that takes no memory: that of its value and the state that it leaves, or its fault
abbrev pub answered : {A : Type 0} → (A → State → Step) → Result A Code → State → Step
answered step (Ok value) s = step value s
answered step (Err code) s = Fault code

-- word: a call makes this step: its value and the state that it leaves stand for it, or it refuses as the step does
abbrev pub MakesStep : {A : Type 0} → (A → State → Step) → Step → Result A Halt → StateFields → Type 0
MakesStep step made (Ok value) now = made ≡ step value (state_of now)
MakesStep step made (Err halt) now = RefusesStep halt made

-- word: a run that ends here draws what its state and its parts say, or is refused by its fault
abbrev pub Ends : Result Drawing Code → Result (Option Composite) Refusal → StateFields → Type 0
Ends outcome (Ok composite) s = outcome ≡ drawing_of s.metric composite (state_of s)
Ends outcome (Err refused) s = Refuses refused (reported_at Nowhere outcome)

-- word: the othersubr's effect, as the code names it
abbrev pub effect_of : Effect → State → Step
effect_of (EndFlex height x y) s = end_flex s.flex (height ∷ x ∷ y ∷ []) s
effect_of StartFlex s = start_flex s.flex s
effect_of RecordPoint s = add_flex s.flex s
effect_of (Leave value) s = Next (record s { results = value ∷ [] })
effect_of Discard s = Next (record s { results = [] })

-- word: the first so many rests of bodies, the last one first
abbrev pub waiting : ℕ → List (Bor (List Command)) → List (List Command)
waiting n rests = reverse (map (λ r. r.now) (take n rests))

-- word: the outline grew by the moved segments
abbrev pub AppendsMoved : Result (List Segment) Code → List Segment → List Segment → Type 0
AppendsMoved (Ok moved) old new = new ≡ old ++ moved
AppendsMoved (Err fault) old new = ⊥
