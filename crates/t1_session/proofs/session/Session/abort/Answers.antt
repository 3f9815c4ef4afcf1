use Rattle.std.proofs.Common.{ap, subst, sym}
use Rattle.t1_session.specs.Reruns.{AreKept}
use Rattle.t1_session.specs.State.{SessionView}
use Rattle.t1_session.proofs.RefusalLaws.{abort_takes}
use Rattle.t1_session.proofs.session.Session.abort.Goals as goal

pub returns-clause-takes : goal.returns-clause-takes
returns-clause-takes c =
    abort_takes c.args.self.now.state c.drop_batch-dropped.new.self.state c.keep.new.self.state c.drop_batch-dropped.result c.drop_batch-dropped.ensures.takes
    (ap (λ (v : SessionView). v.state) c.keep.ensures)

pub returns-clause-kept : goal.returns-clause-kept
returns-clause-kept c = subst (λ (v : SessionView). AreKept c.args.self.now v) (sym c.keep.ensures) c.drop_batch-dropped.ensures.kept
