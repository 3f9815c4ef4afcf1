use Rattle.std.proofs.Common.{◌∙◌, ◌++◌, [], List, ℕ, ◌<◌, ap, sym, refl, subst, append-nil, length, arith, rules}
use Rattle.std.proofs.KnownBytes.{Consumes-nil, Consumes-trans, Consumes-kept}
use Rattle.std.proofs.lemmas.Result.{err_from_is_err_and}
use Rattle.std.specs.Io.KnownBytes.{Consumes}
use Rattle.t1_code.specs.Counted.{one_more}
use Rattle.t1_session.specs.Conversation.{Answered, fresh}
use Rattle.t1_session.specs.Dialogues.{conversation_of}
use Rattle.t1_session.specs.Serving.{streams}
use Rattle.t1_session.proofs.Flushing.{flushes-append}
use Rattle.t1_session.proofs.Conversations.{Answered-none, Goes-both, quiet}
use Rattle.t1_session.proofs.Sessions.{stopped_at_read, Converses-ended, Converses-fed}
use Rattle.t1_session.proofs.dialogue.Dialogue.converse.Goals as goal

pub pieces-init : goal.pieces-init
pieces-init g c =
    let sink = c.args.writer.now in (
      [],
      record { consumes = Consumes-nil (g.R.Read.remaining c.args.reader.now.inner); failures = refl },
      subst (λ d. Answered g.W.Write.contents (fresh c.args.self.now.session) d sink sink []) (sym c.requires) (Answered-none g.W.Write.contents (fresh c.args.self.now.session) sink),
    )

pub returns-in-Err : goal.returns-in-Err
returns-in-Err g c =
    let i = c.pieces.invariant in
    stopped_at_read g.R.Read.remaining g.W.Write.contents c.args.self.now.session (conversation_of c.pieces.self) (streams c.args.reader.now c.args.writer.now) (streams c.take.new.self c.pieces.writer)
    i.0 i.2.text i.2.goes (quiet (conversation_of c.pieces.self) c.pieces.self.unbroken)
    (record { consumes = Consumes-kept _ _ _ i.0 i.1.consumes c.in-Err.ensures.bytes; failures = c.in-Err.ensures.failures ∙ ap one_more i.1.failures }) i.2.written

pub returns-then-count-eq0 : goal.returns-then-count-eq0
returns-then-count-eq0 g c =
    let i = c.pieces.invariant in
    let remaining = g.R.Read.remaining in
    let none : Consumes (remaining c.pieces.reader.inner) (remaining c.take.new.self.inner) [] = rw c.if-count-eq0.true at c.in-Ok.ensures.bytes.0 in
    let room : 0 < length c.take.new.buffer = omega arith in
    Converses-ended remaining g.W.Write.contents c.args.self.now.session (conversation_of c.pieces.self) (streams c.args.reader.now c.args.writer.now) (streams c.take.new.self c.finish.new.writer)
    c.pieces.writer i.0 i.2.text c.finish.result i.2.goes
    (record { consumes = rw (← append-nil i.0) (Consumes-trans _ _ _ i.0 [] i.1.consumes none); failures = c.in-Ok.ensures.failures ∙ i.1.failures })
    (c.in-Ok.ensures.bytes.1 c.if-count-eq0.true room) i.2.written c.finish.ensures

pub pieces-preserved : goal.pieces-preserved
pieces-preserved g c =
    let i = c.pieces.invariant in
    let did = c.in_ok-feed.ensures in
    let remaining = g.R.Read.remaining in
    let piece : List ℕ = c.split_at.result.0.now in
    let took : Consumes (remaining c.pieces.reader.inner) (remaining c.take.new.self.inner) piece = rw c.split_at.ensures.front c.in-Ok.ensures.bytes.0 in (
      i.0 ++ piece,
      record { consumes = Consumes-trans _ _ _ i.0 piece i.1.consumes took; failures = c.in-Ok.ensures.failures ∙ i.1.failures },
      record {
        text = i.2.text ++ did.text;
        goes = Goes-both (fresh c.args.self.now.session) (conversation_of c.pieces.self) (conversation_of c.feed.new.self) i.0 piece i.2.text did.text i.2.goes did.goes;
        written = flushes-append g.W.Write.contents c.args.writer.now c.pieces.writer c.feed.new.writer i.2.text did.text i.2.written did.written;
      },
    )

pub returns-in_err-feed : goal.returns-in_err-feed
returns-in_err-feed g c =
    let i = c.pieces.invariant in
    let p = err_from_is_err_and c.from_residual.result c.from_residual.ensures.1 in
    let remaining = g.R.Read.remaining in
    let piece : List ℕ = c.split_at.result.0.now in
    let took : Consumes (remaining c.pieces.reader.inner) (remaining c.take.new.self.inner) piece = rw c.split_at.ensures.front c.in-Ok.ensures.bytes.0 in
    rw (p.1, p.2) (Converses-fed remaining g.W.Write.contents (Unit {0}) c.args.self.now.session (conversation_of c.pieces.self) (conversation_of c.feed.new.self)
    (streams c.args.reader.now c.args.writer.now) (streams c.take.new.self c.feed.new.writer) c.pieces.writer i.0 piece i.2.text c.in_err-feed.field-0.0 i.2.goes
    (record { consumes = Consumes-trans _ _ _ i.0 piece i.1.consumes took; failures = c.in-Ok.ensures.failures ∙ i.1.failures }) i.2.written c.in_err-feed.ensures)

pub pieces-smaller : goal.pieces-smaller
pieces-smaller g c = search rules
