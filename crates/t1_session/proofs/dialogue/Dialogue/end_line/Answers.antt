use Rattle.std.proofs.Common.{◌≡◌, ◌∙◌, sym, Some, option_map}
use Rattle.t1_session.specs.Conversation.{Conversation}
use Rattle.t1_session.specs.Dialogues.{conversation_of, opening_seen}
use Rattle.t1_session.proofs.Conversations.{EndsLine-command}
use Rattle.t1_session.proofs.dialogue.Dialogue.end_line.Goals as goal

pub returns-in-None : goal.returns-in-None
returns-in-None g c =
    let is : c.args.self.now.opening ≡ c.take.new.self = sym c.take.ensures.value ∙ c.in-None.is ∙ sym c.take.ensures.after in
    let old : Conversation = record (conversation_of c.args.self.now) { opening = option_map opening_seen c.take.new.self } in
    rw is
    (EndsLine-command g.W.Write.contents old (conversation_of c.end_command_line.new.self) c.args.writer.now c.end_command_line.new.writer c.end_command_line.result
    c.end_command_line.ensures)

pub returns-in-Some : goal.returns-in-Some
returns-in-Some g c =
    let is : c.args.self.now.opening ≡ Some c.in-Some.opening = sym c.take.ensures.value ∙ c.in-Some.is in
    rw is c.end_body_line.ensures
