use Rattle.std.proofs.Common.{ap, ◌∙◌}
use Rattle.std.specs.List.{insert}
use Rattle.std.proofs.lemmas.List.Edits.{insert_end}
use Rattle.std.proofs.lemmas.Result.{on_ok_weaker}
use Rattle.t1_buckets.proofs.buckets.Buckets.push.Goals as goal

pub returns-clause-ok : goal.returns-clause-ok
returns-clause-ok g c =
    on_ok_weaker c.insert.result (λ e. e ∙ ap (λ n. insert c.args.self.now n c.args.element) c.len-end.ensures ∙ insert_end c.args.self.now c.args.element) c.insert.ensures.ok
