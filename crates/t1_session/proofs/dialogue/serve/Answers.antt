use Rattle.std.proofs.Common.{◌∙◌, ap, subst, sym}
use Rattle.t1_session.specs.Conversation.{Conversation, fresh}
use Rattle.t1_session.specs.Serving.{Converses, streams}
use Rattle.t1_session.specs.State.{SessionState}
use Rattle.t1_session.specs.Machine.{scratch}
use Rattle.t1_session.proofs.Sessions.{Serves-wanted, Serves-opened}
use Rattle.t1_session.proofs.dialogue.serve.Goals as goal

pub converse-answered-requires : goal.converse-answered-requires
converse-answered-requires g c = c.new-dialogue.ensures ∙ ap (λ (old : Conversation). fresh old.state) (sym c.new-dialogue.ensures)

pub returns-in-Ok : goal.returns-in-Ok
returns-in-Ok g c =
    let before = streams c.args.reader.now c.args.writer.now in
    let after = streams c.converse-answered.new.reader c.converse-answered.new.writer in
    Serves-opened g.R.Read.remaining g.W.Write.contents (scratch c.args.source.now c.args.pairs.now) c.in-Ok.session before after c.converse-answered.result c.in-Ok.ensures
    (subst (λ (state : SessionState). Converses g.R.Read.remaining g.W.Write.contents state before after c.converse-answered.result)
    (ap (λ (old : Conversation). old.state) c.new-dialogue.ensures) c.converse-answered.ensures)

pub returns-in-Err-Memory : goal.returns-in-Err-Memory
returns-in-Err-Memory g c =
    Serves-wanted g.R.Read.remaining g.W.Write.contents (Unit {0}) (scratch c.args.source.now c.args.pairs.now) (streams c.args.reader.now c.args.writer.now)
