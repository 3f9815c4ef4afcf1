use Rattle.std.proofs.Common.{◌≡◌, ◌∙◌, sym, ap, true, false, refl, Some}
use Rattle.t1_frac.specs.Words.{words}
use Rattle.t1_commands.specs.Commands.{OpenCommand, ends_body, body_command, open_command}
use Rattle.t1_session.specs.Conversation.{Conversation}
use Rattle.t1_session.specs.Dialogues.{opening_seen, conversation_of}
use Rattle.t1_session.proofs.Conversations.{Ends-answered, body_at_end, left_at_end}
use Rattle.t1_session.proofs.dialogue.Dialogue.finish_body.Goals as goal

pub returns-then-ends_body : goal.returns-then-ends_body
returns-then-ends_body g c =
    let is : ends_body c.args.self.now.line.items ≡ true = ap ends_body (sym c.deref.ensures.value) ∙ sym c.ends_body.ensures ∙ c.if-ends_body.true in
    let o : OpenCommand = opening_seen c.args.opening in
    let old : Conversation = record (conversation_of c.args.self.now) { opening = Some o } in
    Ends-answered g.W.Write.contents old c.answer_command.new.session c.args.writer.now c.answer_command.new.writer (body_command (words o.heading) o.body) c.answer_command.result
    (body_at_end old o c.args.self.now.unbroken refl is)
    (c.answer_command.ensures (body_command (words o.heading) o.body) (rw (← c.deref-then-ends_body.ensures.value, ← c.new.ensures) c.body_command-made.ensures))

pub returns : goal.returns
returns g c =
    let is : ends_body c.args.self.now.line.items ≡ false = ap ends_body (sym c.deref.ensures.value) ∙ sym c.ends_body.ensures ∙ c.if-ends_body.false in
    let o : OpenCommand = opening_seen c.args.opening in
    let old : Conversation = record (conversation_of c.args.self.now) { opening = Some o } in
    Ends-answered g.W.Write.contents old c.answer_command-2.new.session c.args.writer.now c.answer_command-2.new.writer (open_command (words o.heading)) c.answer_command-2.result
    (left_at_end old o c.args.self.now.unbroken refl is)
    (c.answer_command-2.ensures (open_command (words o.heading)) (rw (← c.deref-2.ensures.value) c.open_command.ensures))
