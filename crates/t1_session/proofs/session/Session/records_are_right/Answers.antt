use Rattle.std.proofs.Common.{subst}
use Rattle.t1_session.specs.Records.{AreFromScratch}
use Rattle.t1_session.specs.State.{SessionView}
use Rattle.t1_session.proofs.RecordLaws.{records_right}
use Rattle.t1_session.proofs.session.Session.records_are_right.Goals as goal

pub returns : goal.returns
returns c =
    let s = c.self.inside in
    subst (λ (v : SessionView). AreFromScratch v.state.source v.kept) c.self.view_is (records_right s.source s.held.records c.self.invariant.0.right)
