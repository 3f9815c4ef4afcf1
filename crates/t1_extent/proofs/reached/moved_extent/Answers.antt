use Rattle.std.proofs.Common.{subst}
use Rattle.std.specs.Prelude.{IfSome}
use Rattle.t1_extent.specs.Exacts.{AreFine}
use Rattle.t1_extent.proofs.reached.moved_extent.Goals as goal

pub returns-in_ok-shifted-in-Some-clause-fine : goal.returns-in_ok-shifted-in-Some-clause-fine
returns-in_ok-shifted-in-Some-clause-fine c = λ n w f.
    c.in_ok-shifted-in-Some.ensures.fine n w (subst (λ e. IfSome e (AreFine n)) c.in-Some.is f)
