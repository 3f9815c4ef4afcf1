-- What the calls answer that C makes.
use Rattle.std.specs.Prelude.{◌≡◌, ℕ, Bool, true, false, not, ◌==◌, ◌||◌, List, [], ◌∷◌, ◌++◌, length, take, drop, Option, Some, None, is_none, Result, Ok, Err}
use Rattle.std.specs.List.{list_any}
use Rattle.t1_frac.specs.declared.fault.Fault.{Fault}
use Rattle.t1_disassemble.specs.declared.fault.FontFault.{FontFault}
use Rattle.t1_commands.specs.AnswerTexts.{fault_text}
use Rattle.t1_session.specs.State.{SessionState}
use Rattle.t1_fault_texts.specs.FontFaults.{font_fault_text}
use Rattle.t1_calls.specs.Framing.{is_call}
use Rattle.t1_calls.specs.Talking.{Turns}
use Rattle.t1_c.specs.declared.kept.HandleContents.{HandleContents}

-- profile: a status that a call may answer
abbrev pub is_status_among : List ℕ → ℕ → Bool
is_status_among statuses status = list_any (λ s. s == status) statuses

-- profile: a buffer with a text written over its beginning, as far as there is room
abbrev pub written_over : List ℕ → List ℕ → List ℕ
written_over text buffer = take (length buffer) text ++ drop (length text) buffer

-- profile: a text lies in a buffer, as far as there is room, and its length is told
pub record Told (text old new : List ℕ) (told : ℕ) : Type 0 where
  pub bytes : new ≡ written_over text old
  pub count : told ≡ length text

-- profile: nothing is told: the buffer and the length are as they were
pub record NothingTold (old new : List ℕ) (before told : ℕ) : Type 0 where
  pub bytes : new ≡ old
  pub count : told ≡ before

-- profile: a session is open in a state, and has performed no command yet
abbrev pub IsIn : Option HandleContents → SessionState → Type 0
IsIn None state = ⊥
IsIn (Some kept) state = (kept.talk.state ≡ state) × (kept.talk.answer ≡ [])

-- profile: a session was opened on what a definition gives
abbrev pub Opens : Result SessionState Fault → Option HandleContents → Type 0
Opens given held = (state : SessionState) × (given ≡ Ok state) × IsIn held state

-- profile: what was to be made has this fault, and the buffer has its text
abbrev pub RefusesWithText : {X : Type 0} → Result X Fault → List ℕ → List ℕ → ℕ → Type 0
RefusesWithText given old new told = (fault : Fault) × (given ≡ Err fault) × Told (fault_text fault) old new told

-- profile: the answer that an open session keeps
abbrev pub answer_in : Option HandleContents → List ℕ
answer_in None = []
answer_in (Some kept) = kept.talk.answer

-- profile: an open session performed the command that the texts of a call are
abbrev pub IsTurned : Option HandleContents → Option HandleContents → List ℕ → List ℕ → Type 0
IsTurned (Some was) (Some is) line body = Turns was.talk is.talk line body
IsTurned (Some was) None line body = ⊥
IsTurned None new line body = ⊥

-- profile: nothing can be performed: there is no session, or the texts aren't one command's
abbrev pub is_misuse : Option HandleContents → List ℕ → List ℕ → Bool
is_misuse held line body = is_none held || not (is_call line body)

-- profile: a call that tells a file: the file at 0, the first fault at 1, and at 2 nothing, since memory ran out
pub record Delivered (status : ℕ) (given : Result (List ℕ) Fault) (old new : List ℕ) (before told : ℕ) : Type 0 where
  pub done : status ≡ 0 → (file : List ℕ) × (given ≡ Ok file) × Told file old new told
  pub refused : status ≡ 1 → RefusesWithText given old new told
  pub memory : status ≡ 2 → NothingTold old new before told
  pub known : is_status_among (0 ∷ 1 ∷ 2 ∷ []) status ≡ true

-- profile: the same, of the source of a font's file
pub record DeliveredFont (status : ℕ) (given : Result (List ℕ) FontFault) (old new : List ℕ) (before told : ℕ) : Type 0 where
  pub done : status ≡ 0 → (file : List ℕ) × (given ≡ Ok file) × Told file old new told
  pub refused : status ≡ 1 → (fault : FontFault) × (given ≡ Err fault) × Told (font_fault_text fault) old new told
  pub memory : status ≡ 2 → NothingTold old new before told
  pub known : is_status_among (0 ∷ 1 ∷ 2 ∷ []) status ≡ true

-- profile: a call that judges: nothing is told at 0, the first fault at 1, and nothing at 2, since memory ran out
pub record Judged (status : ℕ) (given : Result (Unit {0}) Fault) (old new : List ℕ) (before told : ℕ) : Type 0 where
  pub passed : status ≡ 0 → given ≡ Ok tt
  pub done : status ≡ 0 → NothingTold old new before told
  pub refused : status ≡ 1 → RefusesWithText given old new told
  pub memory : status ≡ 2 → NothingTold old new before told
  pub known : is_status_among (0 ∷ 1 ∷ 2 ∷ []) status ≡ true

-- profile: a call that tells the lines of all faults: there are none at 0, some at 1, and at 2 nothing is told, since memory ran out
pub record Listed (status : ℕ) (lines old new : List ℕ) (before told : ℕ) : Type 0 where
  pub none : status ≡ 0 → lines ≡ []
  pub some : status ≡ 1 → (length lines == 0) ≡ false
  pub done : status ≡ 0 → Told lines old new told
  pub refused : status ≡ 1 → Told lines old new told
  pub memory : status ≡ 2 → NothingTold old new before told
  pub known : is_status_among (0 ∷ 1 ∷ 2 ∷ []) status ≡ true
