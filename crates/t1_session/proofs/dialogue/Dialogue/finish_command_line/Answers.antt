use Rattle.std.proofs.Common.{◌≡◌, ◌∙◌, sym, ap, refl, List, [], ◌∷◌, ℕ, true, false}
use Rattle.t1_frac.specs.Words.{words}
use Rattle.t1_commands.specs.Commands.{takes_body, is_wordless, line_command, open_command}
use Rattle.t1_session.specs.Conversation.{Conversation, commands_from}
use Rattle.t1_session.specs.Dialogues.{conversation_of}
use Rattle.t1_session.proofs.Conversations.{Ends-answered, Ends-nothing, alone_at_end, opened_at_end}
use Rattle.t1_session.proofs.dialogue.Dialogue.finish_command_line.Goals as goal

pub returns-then-takes_body : goal.returns-then-takes_body
returns-then-takes_body g c =
    let text : List ℕ = c.args.self.now.line.items in
    let old : Conversation = conversation_of c.args.self.now in
    let opens : takes_body (words text) ≡ true = ap (λ l. takes_body (words l)) (sym c.deref.ensures.value) ∙ sym c.takes_body.ensures ∙ c.if-takes_body.true in
    Ends-answered g.W.Write.contents old c.answer_command.new.session c.args.writer.now c.answer_command.new.writer (open_command (words text)) c.answer_command.result
    (opened_at_end old c.args.self.now.unbroken (rw c.requires refl) opens)
    (c.answer_command.ensures (open_command (words text)) (rw (← c.deref-then-takes_body.ensures.value) c.open_command.ensures))

pub returns-then-is_blank_line : goal.returns-then-is_blank_line
returns-then-is_blank_line g c =
    let text : List ℕ = c.args.self.now.line.items in
    let old : Conversation = conversation_of c.args.self.now in
    let plain : takes_body (words text) ≡ false = ap (λ l. takes_body (words l)) (sym c.deref.ensures.value) ∙ sym c.takes_body.ensures ∙ c.if-takes_body.false in
    let none : is_wordless (words text) ≡ true = ap (λ l. is_wordless (words l)) (sym c.deref-2.ensures.value) ∙ sym c.is_blank_line.ensures ∙ c.if-is_blank_line.true in
    let nothing : commands_from old [] true ≡ [] = alone_at_end old c.args.self.now.unbroken (rw c.requires refl) plain ∙ rw none refl in
    Ends-nothing g.W.Write.contents old c.args.writer.now nothing

pub returns : goal.returns
returns g c =
    let text : List ℕ = c.args.self.now.line.items in
    let old : Conversation = conversation_of c.args.self.now in
    let plain : takes_body (words text) ≡ false = ap (λ l. takes_body (words l)) (sym c.deref.ensures.value) ∙ sym c.takes_body.ensures ∙ c.if-takes_body.false in
    let some : is_wordless (words text) ≡ false = ap (λ l. is_wordless (words l)) (sym c.deref-2.ensures.value) ∙ sym c.is_blank_line.ensures ∙ c.if-is_blank_line.false in
    let one : commands_from old [] true ≡ line_command (words text) ∷ [] = alone_at_end old c.args.self.now.unbroken (rw c.requires refl) plain ∙ rw some refl in
    Ends-answered g.W.Write.contents old c.answer_command-2.new.session c.args.writer.now c.answer_command-2.new.writer (line_command (words text)) c.answer_command-2.result
    one (c.answer_command-2.ensures (line_command (words text)) (rw (← c.deref-3.ensures.value) c.line_command-made.ensures))
