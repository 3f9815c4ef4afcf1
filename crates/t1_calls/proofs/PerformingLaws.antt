-- From what a command came to, to the step of a session that it is.
use Rattle.std.proofs.Common.{◌≡◌, ℕ, true, false, List, [], ◌∷◌, ◌++◌, refl, sym, ◌∙◌, ap, subst}
use Rattle.std.specs.Prelude.{Result, Ok, Err, IfOk}
use Rattle.t1_frac.specs.Words.{words}
use Rattle.t1_source.specs.declared.edit.Cause.{Cause}
use Rattle.t1_source.specs.declared.edit.Cause.TheVariants as causes
use Rattle.t1_source.specs.declared.edit.Rule.{Rule}
use Rattle.t1_text.specs.Lines.{joined, lines}
use Rattle.t1_commands.specs.declared.answer.Answer.{Answer}
use Rattle.t1_commands.specs.declared.answer.Answer.TheVariants.{Broken, OutOfMemory}
use Rattle.t1_commands.specs.declared.command.SessionCommand.{SessionCommand}
use Rattle.t1_commands.specs.declared.command.SessionCommand.TheVariants as commands
use Rattle.t1_commands.specs.declared.print.Print.{Print}
use Rattle.t1_commands.specs.declared.show.Show.{Show}
use Rattle.t1_commands.specs.AnswerTexts.{answer_text}
use Rattle.t1_commands.specs.Answering as told
use Rattle.t1_commands.specs.Answers.{answer_to, answers}
use Rattle.t1_commands.specs.Commands.{body_command, input_commands, is_wordless, line_command, takes_body}
use Rattle.t1_commands.specs.MadeCommands.{Makes, is_edit_or_query}
use Rattle.t1_session.specs.Conversation.{Performs}
use Rattle.t1_session.specs.Machine.{after_want, machine, may_want_memory, outcome, perform, printed, shown_answer}
use Rattle.t1_session.specs.Outcomes.{Takes}
use Rattle.t1_session.specs.State.{SessionState}
use Rattle.t1_calls.specs.Framing.{call_commands, framed, is_call}
use Rattle.t1_calls.specs.Talking.{Brings}
use Rattle.t1_calls.specs.Performing.{IsCallAnswered, IsAnswerTo}
use Rattle.t1_calls.proofs.FramingLaws.{of_call}

-- what was performed, and how it is answered
pub taken : {T E : Type 0} (old new : SessionState) (command : SessionCommand) (r : Result T Cause) (a : Result Answer E)
    → Takes old command r new → told.Answers r a → IsCallAnswered old new command a
taken old new command (Ok done) (Ok answer) took says = (says ∙ sym took.0, took.1)
taken old new command (Ok done) (Err e) took says = absurd says
taken old new command (Err (causes.Rule rule)) (Ok answer) took says = (says ∙ sym took.0, took.1)
taken old new command (Err (causes.Rule rule)) (Err e) took says = absurd says
taken old new command (Err (causes.Fault fault)) (Ok answer) took says = (says ∙ sym took.0, took.1)
taken old new command (Err (causes.Fault fault)) (Err e) took says = absurd says
taken old new command (Err causes.Memory) (Ok answer) took says = absurd says
taken old new command (Err causes.Memory) (Err e) took says = took

-- a print changes nothing
pub print_answered : {E : Type 0} (s : SessionState) (print : Print) (r : Result Answer E) → IfOk r (λ answer. answer ≡ printed s print) → IsCallAnswered s s (commands.Print print) r
unfolding perform outcome
print_answered s print (Ok answer) h = (h, refl)
print_answered s print (Err e) h = (refl, refl)

-- nor does a query
pub show_answered : {E : Type 0} (s : SessionState) (show : Show) (r : Result Answer E) → IfOk r (λ answer. answer ≡ shown_answer s show) → IsCallAnswered s s (commands.Show show) r
unfolding perform outcome
show_answered s show (Ok answer) h = (h, refl)
show_answered s show (Err e) h = (refl, refl)

-- nor does what is no command
pub broken_answered : (s : SessionState) (command : SessionCommand) (rule : Rule) → command ≡ commands.Broken rule
    → (Broken rule ≡ (perform s command).answer) × (s ≡ (perform s command).next)
unfolding perform outcome
broken_answered s command rule is = rw is (refl, refl)

-- an answer is a step that isn't marked
stepped : (E : Type 0) (old new : SessionState) (command : SessionCommand) (answer : Answer) → IsCallAnswered {E = E} old new command (Ok answer) → IsAnswerTo old new command answer
stepped E old new command answer h = record { mark = false; is = h.0; next = h.1 }

-- out of memory is a step that is marked
wanted : (old new : SessionState) (command : SessionCommand) → may_want_memory old command ≡ true → new ≡ after_want old command → IsAnswerTo old new command OutOfMemory
wanted old new command h n = record { mark = true; is = rw h refl; next = rw h n }

-- so is that for the command itself
unmade : (s : SessionState) (command : SessionCommand) → is_edit_or_query command ≡ true → IsAnswerTo s s command OutOfMemory
unmade s (commands.Edit edit) h = wanted s s (commands.Edit edit) refl refl
unmade s (commands.Show show) h = wanted s s (commands.Show show) refl refl
unmade s (commands.Print print) h = cc
unmade s commands.Begin h = cc
unmade s commands.Commit h = cc
unmade s commands.Abort h = cc
unmade s (commands.Broken rule) h = cc

-- the step of a command that was made
pub answered : (E : Type 0) (old new : SessionState) (command asked : SessionCommand) (answer : Answer) → IsCallAnswered {E = E} old new command (Ok answer) → command ≡ asked
    → IsAnswerTo old new asked answer
answered E old new command asked answer h is = subst (λ (q : SessionCommand). IsAnswerTo old new q answer) is (stepped E old new command answer h)

-- the step of one that ran out of memory
pub unanswered : {E : Type 0} (old new : SessionState) (command asked : SessionCommand) (e : E) → IsCallAnswered old new command (Err e) → command ≡ asked → IsAnswerTo old new asked OutOfMemory
unanswered old new command asked e h is = subst (λ (q : SessionCommand). IsAnswerTo old new q OutOfMemory) is (wanted old new command h.0 h.1)

-- the step of one that couldn't be made
pub not_made : {E : Type 0} (s : SessionState) (asked : SessionCommand) (e : E) → Makes (Err e) asked → IsAnswerTo s s asked OutOfMemory
not_made s asked e makes = unmade s asked makes.0

-- a step is the answer to one command, whatever commands come after
one : (old new : SessionState) (command : SessionCommand) (answer : Answer) → IsAnswerTo old new command answer → Performs old new (command ∷ []) (answer_text answer)
one old new command answer step = record {
  marks = step.mark ∷ [];
  on = λ rest more.
      subst (λ (s : SessionState). answers machine old (command ∷ rest) (step.mark ∷ more) ≡ answer_text answer ++ answers machine s rest more) (sym step.next)
      (ap (λ (a : Answer). answer_text a ++ answers machine (answer_to machine old command step.mark).next rest more) (sym step.is));
}

of_commands : (old new : SessionState) (made : List SessionCommand) (command : SessionCommand) (answer : Answer) → made ≡ command ∷ [] → IsAnswerTo old new command answer
    → Performs old new made (answer_text answer)
of_commands old new made command answer is step = subst (λ (cs : List SessionCommand). Performs old new cs (answer_text answer)) (sym is) (one old new command answer step)

-- no command, no answer
none : (s : SessionState) (made : List SessionCommand) → made ≡ [] → Performs s s made []
none s made is = subst (λ (cs : List SessionCommand). Performs s s cs []) (sym is) (record { marks = []; on = λ rest more. refl })

-- what a call's command does, its texts do as input
brought : (old new : SessionState) (line body text : List ℕ) → is_call line body ≡ true → Performs old new (call_commands line body) text → Brings old new (framed line body) text
brought old new line body text call performs = record {
  marks = performs.marks;
  on = λ rest ended more.
      ap (λ (cs : List SessionCommand). answers machine old cs (performs.marks ++ more)) (of_call ended line body rest call) ∙ performs.on (input_commands ended rest) more;
}

-- a line with its body
pub spoken_with : (old new : SessionState) (line body : List ℕ) (answer : Answer) → takes_body (words line) ≡ true → is_call line body ≡ true
    → IsAnswerTo old new (body_command (words line) (joined (lines body))) answer → Brings old new (framed line body) (answer_text answer)
spoken_with old new line body answer takes call step =
    let made : call_commands line body ≡ body_command (words line) (joined (lines body)) ∷ [] = rw takes refl in
    brought old new line body (answer_text answer) call (of_commands old new (call_commands line body) (body_command (words line) (joined (lines body))) answer made step)

-- a line that takes none
pub spoken : (old new : SessionState) (line body : List ℕ) (answer : Answer) → takes_body (words line) ≡ false → is_call line body ≡ true
    → is_wordless (words line) ≡ false → IsAnswerTo old new (line_command (words line)) answer → Brings old new (framed line body) (answer_text answer)
spoken old new line body answer takes call some step =
    let made : call_commands line body ≡ line_command (words line) ∷ [] = rw (takes, some) refl in
    brought old new line body (answer_text answer) call (of_commands old new (call_commands line body) (line_command (words line)) answer made step)

-- a line without words
pub unspoken : (s : SessionState) (line body : List ℕ) → takes_body (words line) ≡ false → is_call line body ≡ true → is_wordless (words line) ≡ true
    → Brings s s (framed line body) []
unspoken s line body takes call blank =
    let made : call_commands line body ≡ [] = rw (takes, blank) refl in
    brought s s line body [] call (none s (call_commands line body) made)
