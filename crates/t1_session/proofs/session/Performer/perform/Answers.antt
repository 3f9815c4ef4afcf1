use Rattle.std.proofs.Common.{Ok, subst, sym, ◌∙◌}
use Rattle.t1_code.specs.Parts.{Prints}
use Rattle.t1_commands.specs.AnswerTexts.{answer_text}
use Rattle.t1_commands.specs.declared.command.SessionCommand.TheVariants as commands
use Rattle.t1_session.specs.Conversation.{IsPerformed}
use Rattle.t1_session.specs.Machine.{printed, shown_answer}
use Rattle.t1_session.specs.State.{SessionState}
use Rattle.t1_session.proofs.Reporting.{broken_performed, print_performed, query_performed}
use Rattle.t1_session.proofs.session.Performer.perform.Goals as goal

pub returns-in-Print : goal.returns-in-Print
returns-in-Print g c =
    rw c.in-Print.is (print_performed g.W.Write.contents c.args.self.now c.args.out.now c.put_print.new.out c.in-Print.print c.put_print.result
    (subst (λ (s : SessionState). Prints g.W.Write.contents c.args.out.now c.put_print.new.out (Ok (answer_text (printed s c.in-Print.print))) c.put_print.result) c.self.view_is c.put_print.ensures))

pub returns-in-Show : goal.returns-in-Show
returns-in-Show g c =
    rw c.in-Show.is (subst (λ (s : SessionState). IsPerformed g.W.Write.contents c.args.self.now s c.args.out.now c.put_show.new.out (commands.Show c.in-Show.show) c.put_show.result)
    (sym (c.put_show.ensures.same ∙ c.self.view_is))
    (query_performed g.W.Write.contents c.args.self.now c.args.out.now c.put_show.new.out c.in-Show.show c.put_show.result
    (subst (λ (s : SessionState). Prints g.W.Write.contents c.args.out.now c.put_show.new.out (Ok (answer_text (shown_answer s c.in-Show.show))) c.put_show.result) c.self.view_is c.put_show.ensures.prints)))

pub returns-in-Broken : goal.returns-in-Broken
returns-in-Broken g c =
    rw c.in-Broken.is (broken_performed g.W.Write.contents c.args.self.now c.args.out.now c.report-in-Broken.new.out c.in-Broken.rule c.report-in-Broken.result c.report-in-Broken.ensures)
