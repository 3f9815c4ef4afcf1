use Rattle.std.proofs.Common.{◌≡◌, ◌∙◌, sym, ap, true, refl, Some}
use Rattle.t1_frac.specs.Words.{words}
use Rattle.t1_commands.specs.Commands.{OpenCommand, ends_body, body_command}
use Rattle.t1_session.specs.Conversation.{Conversation}
use Rattle.t1_session.specs.Dialogues.{opening_seen, conversation_of}
use Rattle.t1_session.proofs.Conversations.{EndsCommandLine-answered, EndsLine-command}
use Rattle.t1_session.proofs.dialogue.Dialogue.end_body_line.Goals as goal

pub returns-then-ends_body : goal.returns-then-ends_body
returns-then-ends_body g c =
    let is : ends_body c.args.self.now.line.items ≡ true = ap ends_body (sym c.deref.ensures.value) ∙ sym c.ends_body.ensures ∙ c.if-ends_body.true in
    let o : OpenCommand = opening_seen c.args.opening in
    let old : Conversation = record (conversation_of c.args.self.now) { opening = Some o } in
    let new : Conversation = record (conversation_of c.args.self.now) { state = c.answer_command.new.session; line = c.clear.new.self.items } in
    EndsLine-command g.W.Write.contents old new c.args.writer.now c.answer_command.new.writer c.answer_command.result
    (EndsCommandLine-answered g.W.Write.contents old new c.args.writer.now c.answer_command.new.writer (body_command (words o.heading) o.body) c.answer_command.result
    (λ lines ended. rw (is, c.requires) refl) c.clear.ensures.items refl
    (c.answer_command.ensures (body_command (words o.heading) o.body) (rw (← c.deref-then-ends_body.ensures.value, ← c.new.ensures) c.body_command-made.ensures)))
