use Rattle.std.proofs.Common.{subst}
use Rattle.t1_session.specs.State.{SessionView}
use Rattle.t1_session.specs.Users.{AreUsers}
use Rattle.t1_session.proofs.UserLaws.{users_right}
use Rattle.t1_session.proofs.session.Session.users_are_right.Goals as goal

pub returns : goal.returns
returns c =
    let s = c.self.inside in
    subst (λ (v : SessionView). AreUsers v.state.source v.users) c.self.view_is (users_right s.source s.held.records c.self.invariant.0.right)
