-- What a session answers to its input, for any machine that performs the commands.
use Rattle.std.specs.Prelude.{ℕ, Bool, false, ◌&&◌, if◌then◌else◌, List, [], ◌∷◌, ◌++◌}
use Rattle.t1_commands.specs.declared.command.SessionCommand.{SessionCommand}
use Rattle.t1_commands.specs.declared.answer.Answer.{Answer}
use Rattle.t1_commands.specs.declared.answer.Answer.TheVariants.{OutOfMemory}
use Rattle.t1_commands.specs.Commands.{input_commands}
use Rattle.t1_commands.specs.AnswerTexts.{answer_text}

-- profile, answers: what a command is answered, and the state after it
pub record Performed (S : Type 0) : Type 0 where
  pub answer : Answer
  pub next : S

-- profile, answers: how commands are performed, which of them may run out of memory, and what those leave that did
pub record Machine (S : Type 0) : Type 0 where
  pub perform : S → SessionCommand → Performed S
  pub may_want_memory : S → SessionCommand → Bool
  pub after_want : S → SessionCommand → S

-- profile, answers: the answer to a command, marked or not as one that ran out of memory
abbrev pub answer_to : {S : Type 0} → Machine S → S → SessionCommand → Bool → Performed S
answer_to m s r mark =
    if mark && m.may_want_memory s r then record { answer = OutOfMemory; next = m.after_want s r } else m.perform s r

-- profile, answers: the first mark; past the end of the list nothing is marked
abbrev pub first_mark : List Bool → Bool
first_mark [] = false
first_mark (mark ∷ marks) = mark

-- profile, answers: the marks after the first
abbrev pub other_marks : List Bool → List Bool
other_marks [] = []
other_marks (mark ∷ marks) = marks

-- profile, answers: the answers to the commands, one after another
abbrev pub answers : {S : Type 0} → Machine S → S → List SessionCommand → List Bool → List ℕ
answers m s [] marks = []
answers m s (r ∷ rs) marks =
    answer_text (answer_to m s r (first_mark marks)).answer ++ answers m (answer_to m s r (first_mark marks)).next rs (other_marks marks)

-- profile, answers: what a session answers to its input
abbrev pub session_answers : {S : Type 0} → Machine S → S → List ℕ → Bool → List Bool → List ℕ
session_answers m s input ended marks = answers m s (input_commands ended input) marks
