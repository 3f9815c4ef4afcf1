use Rattle.std.proofs.Common.{ap, ◌∙◌}
use Rattle.std.specs.List.{insert}
use Rattle.t1_buckets.proofs.buckets.Buckets.insert.Goals as goal

pub returns-clause-ok : goal.returns-clause-ok
returns-clause-ok g c = c.in_ok-insert.ensures.ok ∙ ap (λ xs. insert xs c.args.at c.args.element) c.self.view_is
