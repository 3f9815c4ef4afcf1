use Rattle.std.proofs.Common.{◌≡◌, ◌∙◌, sym, [], ap, inl, refl}
use Rattle.std.specs.Prelude.{is_ok}
use Rattle.std.proofs.lemmas.Result.{err_from_is_err_and}
use Rattle.t1_session.specs.LineEnds.{ends_line}
use Rattle.t1_session.specs.Dialogues.{conversation_of}
use Rattle.t1_session.proofs.LineLaws.{unbroken_pushed, differs, not_return, after_a_return}
use Rattle.t1_session.proofs.Flushing.{flushes-none}
use Rattle.t1_session.proofs.Conversations.{Feeds-ended, stopped_at_once, byte_alone, Goes-byte, Goes-line_feed}
use Rattle.t1_session.proofs.dialogue.Dialogue.push.Goals as goal

pub returns-then-is_end : goal.returns-then-is_end
returns-then-is_end g c =
    Feeds-ended g.W.Write.contents (conversation_of c.args.self.now) (conversation_of c.end_line.new.self) c.args.writer.now c.end_line.new.writer c.args.byte c.end_line.result
    c.args.self.now.unbroken (sym c.ends_line-is_end.ensures ∙ c.if-is_end.true) c.end_line.ensures

pub invariant_of-self-2 : goal.invariant_of-self-2
invariant_of-self-2 g c =
    record { unbroken = rw c.push.ensures.items (unbroken_pushed (is_ok c.push.result) c.args.self.now.line.items c.args.byte c.args.self.now.unbroken (differs c.args.byte 10 c.if-byte-eq10.false)) }

pub returns-in_err-push : goal.returns-in_err-push
returns-in_err-push g c =
    let p = err_from_is_err_and c.from_residual.result c.from_residual.ensures.1 in
    let old = conversation_of c.args.self.now in
    let n10 = differs c.args.byte 10 c.if-byte-eq10.false in
    let n13 = not_return c.args.self.now.after_return c.args.byte (sym c.ends_line-is_end.ensures ∙ c.if-is_end.false) n10 in
    rw (p.1, p.2) (stopped_at_once g.W.Write.contents old c.args.writer.now c.args.byte c.args.self.now.unbroken (byte_alone old c.args.byte c.args.self.now.unbroken n13 n10) (inl (rw (n13, n10) refl)))

pub returns : goal.returns
returns g c =
    let n10 = differs c.args.byte 10 c.if-byte-eq10.false in
    let n13 = not_return c.args.self.now.after_return c.args.byte (sym c.ends_line-is_end.ensures ∙ c.if-is_end.false) n10 in
    record {
      text = [];
      goes = rw (c.in_ok-push.ensures.items, n13) (Goes-byte (conversation_of c.args.self.now) c.args.byte n13 n10);
      written = flushes-none g.W.Write.contents c.args.writer.now;
    }

pub returns-then-byte-eq10 : goal.returns-then-byte-eq10
returns-then-byte-eq10 g c =
    let is : c.args.byte ≡ 10 = c.if-byte-eq10.true in
    let after = after_a_return c.args.self.now.after_return (ap (ends_line c.args.self.now.after_return) (sym is) ∙ sym c.ends_line-is_end.ensures ∙ c.if-is_end.false) in
    record {
      text = [];
      goes = rw is (Goes-line_feed (conversation_of c.args.self.now) after);
      written = flushes-none g.W.Write.contents c.args.writer.now;
    }
