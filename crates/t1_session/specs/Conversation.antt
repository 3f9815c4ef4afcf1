-- The loop of a session in the midst of its input. The functions of the loop are stated in these words, each on the way of
-- a whole input; what a session answers is defined without them.
use Rattle.std.specs.Prelude.{◌≡◌, ◌⊎◌, ℕ, Bool, true, false, not, ◌==◌, ◌&&◌, if◌then◌else◌, List, [], ◌∷◌, ◌++◌, drop, Option, Some, None, Result, Ok, Err}
use Rattle.std.specs.List.{list_all}
use Rattle.t1_frac.specs.Ascii.{line_feed}
use Rattle.t1_code.specs.Counted.{Tally, WritesAll, WritesFront}
use Rattle.t1_code.specs.declared.parts.OutError.{OutError}
use Rattle.t1_code.specs.declared.parts.OutError.TheVariants as out
use Rattle.t1_text.specs.Lines.{unified, begins_with, is_line_end}
use Rattle.t1_session.specs.declared.error.ServeError.{ServeError}
use Rattle.t1_session.specs.declared.error.ServeError.TheVariants as errors
use Rattle.t1_commands.specs.declared.command.SessionCommand.{SessionCommand}
use Rattle.t1_commands.specs.Lines.{finished_lines}
use Rattle.t1_commands.specs.Commands.{OpenCommand, commands_of, ends_body}
use Rattle.t1_commands.specs.AnswerTexts.{answer_text}
use Rattle.t1_commands.specs.Answers.{answers, answer_to}
use Rattle.t1_session.specs.Flushing.{WritesAndFlushes}
use Rattle.t1_session.specs.LineEnds.{ends_line, ends_in_return}
use Rattle.t1_session.specs.Machine.{machine, may_want_memory, after_want}
use Rattle.t1_session.specs.State.{SessionState}

-- word: a session in the midst of its input: its state, the command whose body is being read, the unfinished line,
-- and whether the byte before was a CR
pub record Conversation : Type 0 where
  pub state : SessionState
  pub opening : Option OpenCommand
  pub line : List ℕ
  pub after_return : Bool

-- word: a session before its first byte
abbrev pub fresh : SessionState → Conversation
fresh s = record { state = s; opening = None; line = []; after_return = false }

-- word: an LF directly after a CR belongs to it
abbrev pub input_after : Bool → List ℕ → List ℕ
input_after after_return input = if after_return && begins_with line_feed input then drop 1 input else input

-- word: no line of the text has its end
abbrev pub is_unbroken : List ℕ → Bool
is_unbroken text = list_all (λ c. not (c == line_feed)) text

-- word: the commands that the rest of the input finishes
unfoldable pub commands_from : Conversation → List ℕ → Bool → List SessionCommand
commands_from c rest ended = commands_of ended c.opening (finished_lines ended (c.line ++ unified (input_after c.after_return rest)))

-- word: these commands bring a session from one state to another with this text, whatever commands come after
pub record Performs (old new : SessionState) (made : List SessionCommand) (text : List ℕ) : Type 0 where
  pub marks : List Bool
  pub on : (rest : List SessionCommand) (more : List Bool) → answers machine old (made ++ rest) (marks ++ more) ≡ text ++ answers machine new rest more

-- word: this input brings a conversation from one point to another, by these commands with this text, whatever comes
-- after
pub record Goes (old new : Conversation) (input text : List ℕ) : Type 0 where
  pub made : List SessionCommand
  pub spells : (rest : List ℕ) (ended : Bool) → commands_from old (input ++ rest) ended ≡ made ++ commands_from new rest ended
  pub performs : Performs old.state new.state made text
  pub returned : new.after_return ≡ ends_in_return old.after_return input

-- word: without further input no command is finished
abbrev pub IsQuiet : Conversation → Type 0
IsQuiet c = commands_from c [] false ≡ []

-- word: the text went out and was passed on, or a failed write cut it short
abbrev pub Sends : {W T : Type 0} → (W → Option (List ℕ)) → Tally W → Tally W → List ℕ → Result T ServeError → Type 0
Sends contents old new text (Ok done) = WritesAndFlushes contents old new text
Sends contents old new text (Err errors.Write) = WritesFront contents old new text
Sends contents old new text (Err errors.Memory) = ⊥
Sends contents old new text (Err errors.Read) = ⊥
Sends contents old new text (Err (errors.Load fault)) = ⊥

-- word: a command was performed, and its answer went out, or a failed write cut it short; or it ran out of memory,
-- and nothing was written
abbrev pub IsPerformed : {W T : Type 0} → (W → Option (List ℕ)) → SessionState → SessionState → Tally W → Tally W → SessionCommand → Result T OutError → Type 0
IsPerformed contents old new before after command (Ok done) =
    WritesAll contents before after (answer_text (machine.perform old command).answer) × (new ≡ (machine.perform old command).next)
IsPerformed contents old new before after command (Err out.Write) =
    WritesFront contents before after (answer_text (machine.perform old command).answer) × (new ≡ (machine.perform old command).next)
IsPerformed contents old new before after command (Err (out.Fault fault)) = ⊥
IsPerformed contents old new before after command (Err out.Memory) =
    (after ≡ before) × (may_want_memory old command ≡ true) × (new ≡ after_want old command)

-- word: the answer to one command, marked or not
pub record AnswersCommand {W T : Type 0} (contents : W → Option (List ℕ)) (old new : SessionState) (before after : Tally W) (command : SessionCommand) (result : Result T ServeError) : Type 0 where
  pub mark : Bool
  pub sends : Sends contents before after (answer_text (answer_to machine old command mark).answer) result
  pub next : new ≡ (answer_to machine old command mark).next

-- word: the end of a line brings a conversation from one point to another, whatever lines come after
pub record LineGoes (old new : Conversation) (text : List ℕ) : Type 0 where
  pub made : List SessionCommand
  pub spells : (lines : List (List ℕ)) (ended : Bool) → commands_of ended old.opening (old.line ∷ lines) ≡ made ++ commands_of ended new.opening lines
  pub performs : Performs old.state new.state made text
  pub no_line : new.line ≡ []
  pub same : new.after_return ≡ old.after_return

-- word: a line was answered whole
pub record LineAnswered {W : Type 0} (contents : W → Option (List ℕ)) (old new : Conversation) (before after : Tally W) : Type 0 where
  pub text : List ℕ
  pub goes : LineGoes old new text
  pub written : WritesAndFlushes contents before after text

-- word: the answer to a line went out in part
pub record LineStops {W : Type 0} (contents : W → Option (List ℕ)) (old : Conversation) (before after : Tally W) : Type 0 where
  pub text : List ℕ
  pub reached : Conversation
  pub goes : LineGoes old reached text
  pub written : WritesFront contents before after text

-- word: the end of a line that isn't one of a body is answered; it doesn't end a session when memory runs out
abbrev pub EndsCommandLine : {W T : Type 0} → (W → Option (List ℕ)) → Conversation → Conversation → Tally W → Tally W → Result T ServeError → Type 0
EndsCommandLine contents old new before after (Ok done) = LineAnswered contents old new before after
EndsCommandLine contents old new before after (Err errors.Write) = LineStops contents old before after
EndsCommandLine contents old new before after (Err errors.Memory) = ⊥
EndsCommandLine contents old new before after (Err errors.Read) = ⊥
EndsCommandLine contents old new before after (Err (errors.Load fault)) = ⊥

-- word: the line goes into a body
pub record IsBodyLine (opening : Option OpenCommand) (line : List ℕ) : Type 0 where
  pub opened : OpenCommand
  pub is : opening ≡ Some opened
  pub goes_on : ends_body line ≡ false

-- word: the end of a line is answered; memory may be wanted where it goes into a body
abbrev pub EndsLine : {W T : Type 0} → (W → Option (List ℕ)) → Conversation → Conversation → Tally W → Tally W → Result T ServeError → Type 0
EndsLine contents old new before after (Ok done) = LineAnswered contents old new before after
EndsLine contents old new before after (Err errors.Write) = LineStops contents old before after
EndsLine contents old new before after (Err errors.Memory) = (after ≡ before) × IsBodyLine old.opening old.line
EndsLine contents old new before after (Err errors.Read) = ⊥
EndsLine contents old new before after (Err (errors.Load fault)) = ⊥

-- word: a piece of input was answered whole
pub record Answered {W : Type 0} (contents : W → Option (List ℕ)) (old new : Conversation) (before after : Tally W) (piece : List ℕ) : Type 0 where
  pub text : List ℕ
  pub goes : Goes old new piece text
  pub written : WritesAndFlushes contents before after text

-- word: a byte that makes what is kept of the input longer: one of a line, or the end of a line that goes into a body,
-- so that a command would be open if the input ended there
abbrev pub Grows : Conversation → ℕ → Type 0
Grows c b = (is_line_end b ≡ false) ⊎ ((ends_line c.after_return b ≡ true) × (command : SessionCommand) × (commands_from c (b ∷ []) true ≡ command ∷ []))

-- word: memory was wanted for a byte of the piece that makes longer what is kept, and finishes no command; those before
-- it were answered
pub record StopsForRoom {W : Type 0} (contents : W → Option (List ℕ)) (old : Conversation) (before after : Tally W) (piece : List ℕ) : Type 0 where
  pub front : List ℕ
  pub byte : ℕ
  pub rest : List ℕ
  pub parts : piece ≡ front ++ byte ∷ rest
  pub reached : Conversation
  pub answered : Answered contents old reached before after front
  pub quiet : IsQuiet reached
  pub finishes_none : commands_from reached (byte ∷ []) false ≡ []
  pub grows : Grows reached byte

-- word: a write failed: the answers to a beginning of the piece went out in part
pub record StopsForWrite {W : Type 0} (contents : W → Option (List ℕ)) (old : Conversation) (before after : Tally W) (piece : List ℕ) : Type 0 where
  pub front : List ℕ
  pub rest : List ℕ
  pub parts : piece ≡ front ++ rest
  pub reached : Conversation
  pub text : List ℕ
  pub goes : Goes old reached front text
  pub written : WritesFront contents before after text

-- word: what a call leaves that takes a piece of input
abbrev pub Feeds : {W T : Type 0} → (W → Option (List ℕ)) → Conversation → Conversation → Tally W → Tally W → List ℕ → Result T ServeError → Type 0
Feeds contents old new before after piece (Ok done) = Answered contents old new before after piece
Feeds contents old new before after piece (Err errors.Memory) = StopsForRoom contents old before after piece
Feeds contents old new before after piece (Err errors.Write) = StopsForWrite contents old before after piece
Feeds contents old new before after piece (Err errors.Read) = ⊥
Feeds contents old new before after piece (Err (errors.Load fault)) = ⊥

-- word: the end of the input is answered; it doesn't end a session when memory runs out
pub record AnswersTheEnd {W T : Type 0} (contents : W → Option (List ℕ)) (old : Conversation) (before after : Tally W) (result : Result T ServeError) : Type 0 where
  pub marks : List Bool
  pub sends : Sends contents before after (answers machine old.state (commands_from old [] true) marks) result
