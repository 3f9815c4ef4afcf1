use Rattle.std.proofs.Common.{ap, length, slice_set, sym, ◌∙◌}
use Rattle.std.proofs.lemmas.List.{length-set}
use Rattle.t1_buckets.specs.Buckets.{shared_joined}
use Rattle.t1_buckets.proofs.buckets.Buckets.set.Goals as goal

pub invariant_of-self-2 : goal.invariant_of-self-2
invariant_of-self-2 g c = c.self.invariant ∙ sym (ap length c.in_ok-set.ensures.ok ∙ length-set (shared_joined c.self.inside.buckets.items) c.args.at c.args.element)

pub returns-clause-ok : goal.returns-clause-ok
returns-clause-ok g c = c.in_ok-set.ensures.ok ∙ ap (λ xs. slice_set xs c.args.at c.args.element) c.self.view_is
