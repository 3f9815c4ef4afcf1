use Rattle.std.proofs.Common.{◌≡◌, ◌∙◌, sym, ap, refl, List, [], ℕ, true, false, Some}
use Rattle.t1_frac.specs.Words.{words}
use Rattle.t1_commands.specs.Commands.{OpenCommand, takes_body, is_wordless, line_command}
use Rattle.t1_session.specs.Conversation.{Conversation}
use Rattle.t1_session.specs.Dialogues.{conversation_of}
use Rattle.t1_session.proofs.Flushing.{flushes-none}
use Rattle.t1_session.proofs.Conversations.{EndsCommandLine-answered, LineGoes-silent}
use Rattle.t1_session.proofs.dialogue.Dialogue.end_command_line.Goals as goal

-- a line that a body follows
pub returns-then-takes_body : goal.returns-then-takes_body
returns-then-takes_body g c =
    let kept = ap (λ v. v.items) c.replace-line.ensures.value in
    let cleared = ap (λ v. v.items) c.replace-line.ensures.after ∙ c.new.ensures.items in
    let text : List ℕ = c.args.self.now.line.items in
    let opens : takes_body (words text) ≡ true = ap (λ l. takes_body (words l)) (sym kept ∙ sym c.deref.ensures.value) ∙ sym c.takes_body.ensures ∙ c.if-takes_body.true in
    let old : Conversation = conversation_of c.args.self.now in
    let opening : OpenCommand = record { heading = c.replace-line.result.items; body = c.new-then-takes_body.result.items } in
    let new : Conversation = record old { opening = Some opening; line = c.replace-line.new.dest.items } in
    record {
      text = [];
      goes = LineGoes-silent old new (λ lines ended. rw (c.requires, opens, kept, c.new-then-takes_body.ensures.items) refl) refl cleared refl;
      written = flushes-none g.W.Write.contents c.args.writer.now;
    }

-- a line without words is skipped
pub returns-then-is_blank_line : goal.returns-then-is_blank_line
returns-then-is_blank_line g c =
    let kept = ap (λ v. v.items) c.replace-line.ensures.value in
    let cleared = ap (λ v. v.items) c.replace-line.ensures.after ∙ c.new.ensures.items in
    let text : List ℕ = c.args.self.now.line.items in
    let plain : takes_body (words text) ≡ false = ap (λ l. takes_body (words l)) (sym kept ∙ sym c.deref.ensures.value) ∙ sym c.takes_body.ensures ∙ c.if-takes_body.false in
    let none : is_wordless (words text) ≡ true = ap (λ l. is_wordless (words l)) (sym kept ∙ sym c.deref-2.ensures.value) ∙ sym c.is_blank_line.ensures ∙ c.if-is_blank_line.true in
    let old : Conversation = conversation_of c.args.self.now in
    let new : Conversation = record old { line = c.replace-line.new.dest.items } in
    record {
      text = [];
      goes = LineGoes-silent old new (λ lines ended. rw (c.requires, plain, none) refl) refl cleared refl;
      written = flushes-none g.W.Write.contents c.args.writer.now;
    }

pub returns : goal.returns
returns g c =
    let kept = ap (λ v. v.items) c.replace-line.ensures.value in
    let cleared = ap (λ v. v.items) c.replace-line.ensures.after ∙ c.new.ensures.items in
    let text : List ℕ = c.args.self.now.line.items in
    let plain : takes_body (words text) ≡ false = ap (λ l. takes_body (words l)) (sym kept ∙ sym c.deref.ensures.value) ∙ sym c.takes_body.ensures ∙ c.if-takes_body.false in
    let some : is_wordless (words text) ≡ false = ap (λ l. is_wordless (words l)) (sym kept ∙ sym c.deref-2.ensures.value) ∙ sym c.is_blank_line.ensures ∙ c.if-is_blank_line.false in
    let old : Conversation = conversation_of c.args.self.now in
    let new : Conversation = record old { state = c.answer_command.new.session; line = c.replace-line.new.dest.items } in
    EndsCommandLine-answered g.W.Write.contents old new c.args.writer.now c.answer_command.new.writer (line_command (words text)) c.answer_command.result
    (λ lines ended. rw (c.requires, plain, some) refl) cleared refl
    (c.answer_command.ensures (line_command (words text)) (rw (← kept, ← c.deref-3.ensures.value) c.line_command-made.ensures))
