-- How far a run has come in the bodies that it is in, and what is left of it.
use Rattle.std.specs.Prelude.{◌≡◌, ℕ, suc, ◌+◌, length, List, [], ◌∷◌, Option, None, Some, Result, Ok, Err}
use Rattle.std.specs.Borrow.{Bor}
use Rattle.t1_frac.specs.declared.fault.Refusal.{Refusal}
use Rattle.t1_code.specs.declared.command.Command.{Command}
use Rattle.t1_run.specs.declared.halt.Halt.{Halt}
use Rattle.t1_run.specs.declared.state.Control.{Control}
use Rattle.t1_run.specs.declared.state.State.{State as StateFields}
use Rattle.t1_run.specs.State.{State}
use Rattle.t1_run.specs.Words.{step}
use Rattle.t1_run.specs.Machine.{state_of, asked_step, RefusesStep, refusal_by}
use Rattle.t1_run.specs.Run.{FontBodies, RunEnd, go_on, runs, body_stop}

-- word: where a body stopped, the bodies that wait go on, the innermost first; `levels` is what was left there
abbrev pub resume : FontBodies → ℕ → List (List Command) → RunEnd → RunEnd
resume m levels [] e = e
resume m levels (rest ∷ waiting) e = resume m (suc levels) waiting (go_on (runs m (suc levels) rest) e)

-- word: the present rest from the present state, and then the bodies that wait, stop as the whole body does
pub record Continues (m : FontBodies) (body rest : List Command) (waiting : List (List Command)) (s : State) : Type 0 where
  pub levels : ℕ
  pub room : levels + length waiting ≡ 10
  pub same : resume m levels waiting (runs m levels rest s) ≡ body_stop m body

-- word: the run has come to this command, whose step asks for this
pub record Asks (m : FontBodies) (body rest : List Command) (waiting : List (List Command)) (control : Control) (after : State) : Type 0 where
  pub command : Command
  pub before : State
  pub here : Continues m body (command ∷ rest) waiting before
  pub is : step command before ≡ asked_step control after

-- word: the run has come to a command whose step is refused, which refuses the run
pub record Meets (m : FontBodies) (body : List Command) (waiting : List (List Command)) (refusal : Refusal) : Type 0 where
  pub command : Command
  pub before : State
  pub rest : List Command
  pub here : Continues m body (command ∷ rest) waiting before
  pub halt : Halt
  pub by : refusal ≡ refusal_by halt
  pub is : RefusesStep halt (step command before)

-- word: commands that were executed one after another: the last of them, or one that asks for more than the next, or one that is
-- refused
abbrev pub Comes : FontBodies → List Command → List (List Command) → Result (Option (Control × Bor (List Command))) Refusal → StateFields → Type 0
Comes m body waiting (Ok None) s = Continues m body [] waiting (state_of s)
Comes m body waiting (Ok (Some (control, rest))) s = Asks m body rest.now waiting control (state_of s)
Comes m body waiting (Err refusal) s = Meets m body waiting refusal
