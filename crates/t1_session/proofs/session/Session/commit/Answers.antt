use Rattle.std.proofs.Common.{ap, subst, sym}
use Rattle.t1_commands.specs.declared.command.SessionCommand.TheVariants as commands
use Rattle.t1_session.specs.Records.{AreFromScratch}
use Rattle.t1_session.specs.Reruns.{edition, Reruns}
use Rattle.t1_session.specs.State.{SessionView}
use Rattle.t1_session.specs.Users.{AreUsers}
use Rattle.t1_session.proofs.ClosureLaws.{reruns}
use Rattle.t1_session.proofs.RefusalLaws.{commit_takes, reruns_noted}
use Rattle.t1_session.proofs.session.Session.commit.Goals as goal

pub returns-clause-takes : goal.returns-clause-takes
returns-clause-takes c =
    commit_takes c.args.self.now.state c.close_batch-committed.new.self.state c.keep.new.self.state c.close_batch-committed.result.1 c.close_batch-committed.result.0 c.close_batch-committed.ensures.takes
    c.close_batch-committed.ensures.faulty (ap (λ (v : SessionView). v.state) c.keep.ensures)

pub returns-clause-right : goal.returns-clause-right
returns-clause-right c = subst (λ (v : SessionView). AreFromScratch v.state.source v.kept) (sym c.keep.ensures) c.records_are_right.ensures

pub returns-clause-users : goal.returns-clause-users
returns-clause-users c = subst (λ (v : SessionView). AreUsers v.state.source v.users) (sym c.keep.ensures) c.users_are_right.ensures

pub returns-clause-runs : goal.returns-clause-runs
returns-clause-runs c =
    let e = edition c.args.self.now.state commands.Commit in
    subst (λ (v : SessionView). Reruns e c.args.self.now c.close_batch-committed.result.0 v) (sym c.keep.ensures)
    (reruns_noted e c.args.self.now c.close_batch-committed.new.self _ c.close_batch-committed.result.0 (reruns _ _ _ _ c.reads_back.ensures.faultless c.close_batch-committed.ensures.runs))
