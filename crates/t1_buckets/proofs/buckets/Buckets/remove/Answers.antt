use Rattle.std.proofs.Common.{ap, length, ◌∙◌, arith}
use Rattle.std.specs.List.{remove}
use Rattle.std.proofs.lemmas.List.Edits.{length-remove}
use Rattle.t1_buckets.specs.Buckets.{shared_joined}
use Rattle.t1_buckets.proofs.buckets.Buckets.remove.Goals as goal

pub invariant_of-self-2 : goal.invariant_of-self-2
invariant_of-self-2 g c =
    let xs = shared_joined c.self.inside.buckets.items in
    let view = ap length c.self.view_is in
    let less = length-remove xs c.args.at (omega (arith, view, c.requires)) in
    let size = ap length c.in_ok-remove.ensures.ok in
    omega (arith, less, size, view, c.requires, c.self.invariant)

pub returns-clause-ok : goal.returns-clause-ok
returns-clause-ok g c = c.in_ok-remove.ensures.ok ∙ ap (λ xs. remove xs c.args.at) c.self.view_is
