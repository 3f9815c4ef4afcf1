use Rattle.t1_calls.proofs.PerformingLaws.{broken_answered}
use Rattle.t1_calls.proofs.performing.perform.Goals as goal

pub returns-in-Broken : goal.returns-in-Broken
returns-in-Broken c = broken_answered c.args.session.now.state c.args.command c.in-Broken.rule c.in-Broken.is
