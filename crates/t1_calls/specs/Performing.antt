-- What a call answers to the one command of its texts.
use Rattle.std.specs.Prelude.{◌≡◌, Bool, true, Result, Ok, Err}
use Rattle.t1_commands.specs.declared.answer.Answer.{Answer}
use Rattle.t1_commands.specs.declared.command.SessionCommand.{SessionCommand}
use Rattle.t1_commands.specs.Answers.{answer_to}
use Rattle.t1_session.specs.Machine.{after_want, machine, may_want_memory, perform}
use Rattle.t1_session.specs.State.{SessionState}

-- word: a command was performed and answered; or it ran out of memory, and left what that leaves
abbrev pub IsCallAnswered : {E : Type 0} → SessionState → SessionState → SessionCommand → Result Answer E → Type 0
IsCallAnswered old new command (Ok answer) = (answer ≡ (perform old command).answer) × (new ≡ (perform old command).next)
IsCallAnswered old new command (Err e) = (may_want_memory old command ≡ true) × (new ≡ after_want old command)

-- word: the answer to one command, marked or not as one that ran out of memory
pub record IsAnswerTo (old new : SessionState) (command : SessionCommand) (answer : Answer) : Type 0 where
  pub mark : Bool
  pub is : answer ≡ (answer_to machine old command mark).answer
  pub next : new ≡ (answer_to machine old command mark).next
