use Rattle.t1_session.proofs.ReadableLaws.{keeps_faultless, opens_faultless}
use Rattle.t1_session.proofs.laws.a_session_is_faultless.Goals as goal

pub returns-clause-opens : goal.returns-clause-opens
returns-clause-opens c = opens_faultless

pub returns-clause-keeps : goal.returns-clause-keeps
returns-clause-keeps c = keeps_faultless
