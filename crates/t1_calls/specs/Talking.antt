-- A session by single calls.
use Rattle.std.specs.Prelude.{◌≡◌, ℕ, Bool, true, false, List, [], ◌++◌, Option, Some, None, Result, Ok, Err}
use Rattle.t1_frac.specs.Words.{words}
use Rattle.t1_commands.specs.declared.answer.Answer.{Answer}
use Rattle.t1_commands.specs.AnswerTexts.{answer_text}
use Rattle.t1_commands.specs.Answers.{session_answers}
use Rattle.t1_commands.specs.Commands.{takes_body}
use Rattle.t1_session.specs.Machine.{machine}
use Rattle.t1_session.specs.State.{SessionState}
use Rattle.t1_calls.specs.Framing.{framed, is_call}
use Rattle.t1_calls.specs.declared.talk.Unperformed.{Unperformed}
use Rattle.t1_calls.specs.declared.talk.Unperformed.TheVariants as unperformed

-- profile: what contracts see of a session by calls: its state, and the text of the answer that is kept
pub record Spoken : Type 0 where
  pub state : SessionState
  pub answer : List ℕ

-- profile: the text of the answer that is kept: none before the first command, nor for a line without words
abbrev pub kept_answer_text : Option Answer → List ℕ
kept_answer_text None = []
kept_answer_text (Some answer) = answer_text answer

-- profile, answers: this input brings a session from one state to another with this text, whatever input comes after, and
-- whether or not that has ended
pub record Brings (old new : SessionState) (input text : List ℕ) : Type 0 where
  pub marks : List Bool
  pub on : (rest : List ℕ) (ended : Bool) (more : List Bool) → session_answers machine old (input ++ rest) ended (marks ++ more) ≡ text ++ session_answers machine new rest ended more

-- profile, answers: the texts of a call are one command's, or have no words, and as input they bring the session from its
-- state to the next one with the answer that is kept
abbrev pub Turns : Spoken → Spoken → List ℕ → List ℕ → Type 0
Turns old new line body = (is_call line body ≡ true) × Brings old.state new.state (framed line body) new.answer

-- profile, answers: a call that performs a command; texts that aren't one command's, and out of memory for a body, leave
-- all as it was
abbrev pub Speaks : {T : Type 0} → Spoken → Spoken → List ℕ → List ℕ → Result T Unperformed → Type 0
Speaks old new line body (Ok done) = Turns old new line body
Speaks old new line body (Err unperformed.Misframed) = (is_call line body ≡ false) × (new ≡ old)
Speaks old new line body (Err unperformed.Memory) = (is_call line body ≡ true) × (takes_body (words line) ≡ true) × (new ≡ old)
