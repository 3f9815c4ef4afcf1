-- Commands that were performed, and what was written of them.
use Rattle.std.proofs.Common.{◌≡◌, ℕ, true, List, Option, Result, Ok, Err, refl, sym, subst}
use Rattle.t1_frac.specs.declared.fault.Fault.{Fault}
use Rattle.t1_code.specs.declared.parts.OutError.{OutError}
use Rattle.t1_code.specs.declared.parts.OutError.TheVariants as out
use Rattle.t1_code.specs.Counted.{Tally, WritesAll, WritesFront}
use Rattle.t1_code.specs.Parts.{Prints}
use Rattle.t1_source.specs.declared.edit.Cause.TheVariants as causes
use Rattle.t1_source.specs.declared.edit.Rule.{Rule}
use Rattle.t1_commands.specs.declared.answer.Answer.{Answer}
use Rattle.t1_commands.specs.declared.answer.Answer.TheVariants.{Broken}
use Rattle.t1_commands.specs.declared.command.SessionCommand.{SessionCommand}
use Rattle.t1_commands.specs.declared.command.SessionCommand.TheVariants as commands
use Rattle.t1_commands.specs.declared.print.Print.{Print}
use Rattle.t1_commands.specs.declared.show.Show.{Show}
use Rattle.t1_commands.specs.AnswerTexts.{answer_text}
use Rattle.t1_commands.specs.Answering.{ReportsPerformed, SendsText}
use Rattle.t1_session.specs.Conversation.{IsPerformed}
use Rattle.t1_session.specs.Machine.{after_want, may_want_memory, outcome, perform, printed, shown_answer, stays}
use Rattle.t1_session.specs.State.{SessionState}

module _ {W : Type 0} (contents : W → Option (List ℕ)) (old new : SessionState) (before after : Tally W) where
  sent : {E : Type 0} (command : SessionCommand) (r : Result E OutError) (answer : Answer) → (perform old command).answer ≡ answer → new ≡ (perform old command).next
      → SendsText contents before after (answer_text answer) r → IsPerformed contents old new before after command r
  sent command (Ok done) answer is next h = (subst (λ (a : Answer). WritesAll contents before after (answer_text a)) (sym is) h, next)
  sent command (Err out.Write) answer is next h = (subst (λ (a : Answer). WritesFront contents before after (answer_text a)) (sym is) h, next)
  sent command (Err (out.Fault fault)) answer is next h = h
  sent command (Err out.Memory) answer is next h = absurd h

same-text : (text whole : List ℕ) → ◌≡◌ {A = Result (List ℕ) Fault} (Ok text) (Ok whole) → whole ≡ text
same-text text whole h = cc

-- a command that changes nothing, and may want memory, was answered
module _ {W E : Type 0} (contents : W → Option (List ℕ)) (s : SessionState) (before after : Tally W) (command : SessionCommand) (answer : Answer) (r : Result E OutError)
    (performed : perform s command ≡ stays s answer) (may_want : may_want_memory s command ≡ true) (want : after_want s command ≡ s) where
  pub shown_performed : Prints contents before after (Ok (answer_text answer)) r → IsPerformed contents s s before after command r
  shown_performed h = by r h
    where
      by : (r : Result E OutError) → Prints contents before after (Ok (answer_text answer)) r → IsPerformed contents s s before after command r
      by (Ok done) h = rw performed (subst (WritesAll contents before after) (same-text _ h.0 h.1) h.2, refl)
      by (Err out.Write) h = rw performed (subst (WritesFront contents before after) (same-text _ h.0 h.1) h.2, refl)
      by (Err (out.Fault fault)) h = absurd (let none = h.0 in cc)
      by (Err out.Memory) h = (h, may_want, sym want)

pub print_performed : {W E : Type 0} (contents : W → Option (List ℕ)) (s : SessionState) (before after : Tally W) (print : Print) (r : Result E OutError)
    → Prints contents before after (Ok (answer_text (printed s print))) r → IsPerformed contents s s before after (commands.Print print) r
unfolding perform outcome
print_performed contents s before after print r h =
    shown_performed contents s before after (commands.Print print) (printed s print) r refl refl refl h

pub query_performed : {W E : Type 0} (contents : W → Option (List ℕ)) (s : SessionState) (before after : Tally W) (show : Show) (r : Result E OutError)
    → Prints contents before after (Ok (answer_text (shown_answer s show))) r → IsPerformed contents s s before after (commands.Show show) r
unfolding perform outcome
query_performed contents s before after show r h =
    shown_performed contents s before after (commands.Show show) (shown_answer s show) r refl refl refl h

pub broken_performed : {W E : Type 0} (contents : W → Option (List ℕ)) (s : SessionState) (before after : Tally W) (rule : Rule) (r : Result E OutError)
    → ReportsPerformed {T = Unit {0}} contents before after (Err (causes.Rule rule)) r → IsPerformed contents s s before after (commands.Broken rule) r
unfolding perform outcome
broken_performed contents s before after rule r h = sent contents s s before after (commands.Broken rule) r (Broken rule) refl refl h
