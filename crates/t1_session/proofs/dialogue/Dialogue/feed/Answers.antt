use Rattle.std.proofs.Common.{◌≡◌, ◌∙◌, sym, ap, ◌++◌, ◌∷◌, [], ◌+◌, take, drop, get_or, List, ℕ}
use Rattle.std.proofs.lemmas.Result.{err_from_is_err_and}
use Rattle.std.proofs.lemmas.List.{take_more, take-append-drop}
use Rattle.t1_session.specs.Dialogues.{conversation_of}
use Rattle.t1_session.proofs.Flushing.{flushes-none, flushes-append}
use Rattle.t1_session.proofs.Conversations.{Feeds-after, Goes-none, Goes-both}
use Rattle.t1_session.proofs.dialogue.Dialogue.feed.Goals as goal

pub loop-byte-init : goal.loop-byte-init
loop-byte-init g c = record { text = []; goes = Goes-none (conversation_of c.args.self.now); written = flushes-none g.W.Write.contents c.args.writer.now }

pub returns-in_err-push : goal.returns-in_err-push
returns-in_err-push g c =
    let i = c.loop-byte.invariant in
    let p = err_from_is_err_and c.from_residual.result c.from_residual.ensures.1 in
    let piece : List ℕ = c.args.piece.now in
    let at : ℕ = c.loop-byte.byte-index in
    let more = take_more piece at 0 c.loop-byte-test.true in
    let parts : piece ≡ (take at piece ++ get_or piece at 0 ∷ []) ++ drop (at + 1) piece = sym (take-append-drop (at + 1) piece) ∙ ap (λ s. s ++ drop (at + 1) piece) more in
    rw (p.1, p.2) (Feeds-after g.W.Write.contents (Unit {0}) (conversation_of c.args.self.now) (conversation_of c.loop-byte.self) (conversation_of c.push.new.self)
    c.args.writer.now c.loop-byte.writer c.push.new.writer (take at piece) (get_or piece at 0 ∷ []) (drop (at + 1) piece) piece i.text c.in_err-push.field-0.0 i.goes i.written parts c.in_err-push.ensures)

pub loop-byte-preserved : goal.loop-byte-preserved
loop-byte-preserved g c =
    let i = c.loop-byte.invariant in
    let did = c.in_ok-push.ensures in
    let piece : List ℕ = c.args.piece.now in
    let at : ℕ = c.loop-byte.byte-index in
    record {
      text = i.text ++ did.text;
      goes = rw (take_more piece at 0 c.loop-byte-test.true)
          (Goes-both (conversation_of c.args.self.now) (conversation_of c.loop-byte.self) (conversation_of c.push.new.self) (take at piece) (get_or piece at 0 ∷ []) i.text did.text i.goes did.goes);
      written = flushes-append g.W.Write.contents c.args.writer.now c.loop-byte.writer c.push.new.writer i.text did.text i.written did.written;
    }
