use Rattle.std.proofs.Common.{ap, subst, sym}
use Rattle.t1_session.specs.Reruns.{AreKept}
use Rattle.t1_session.specs.State.{SessionView}
use Rattle.t1_session.proofs.RefusalLaws.{begin_takes}
use Rattle.t1_session.proofs.session.Session.begin.Goals as goal

pub returns-clause-takes : goal.returns-clause-takes
returns-clause-takes c =
    begin_takes c.args.self.now.state c.open_batch-begun.new.self.state c.keep.new.self.state c.open_batch-begun.result c.open_batch-begun.ensures.takes
    (ap (λ (v : SessionView). v.state) c.keep.ensures)

pub returns-clause-kept : goal.returns-clause-kept
returns-clause-kept c = subst (λ (v : SessionView). AreKept c.args.self.now v) (sym c.keep.ensures) c.open_batch-begun.ensures.kept
