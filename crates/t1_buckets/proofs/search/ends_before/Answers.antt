use Rattle.std.proofs.Common.{is_lt, ap, refl, sym, ◌∙◌}
use Rattle.std.proofs.lemmas.Fn.{called}
use Rattle.t1_buckets.proofs.OrderLaws.{answers_next}
use Rattle.t1_buckets.proofs.search.ends_before.Goals as goal

pub returns-clause-answer : goal.returns-clause-answer
returns-clause-answer g c = λ by asked.
    let k = called g.F.FnMut c.order.ensures refl in
    let n = answers_next g.F.FnMut _ _ _ _ _ k asked in
    (n.1, (c.last.ensures.some, λ d. ap (λ y. is_lt (by y)) (c.last.ensures.value d) ∙ ap is_lt (sym n.0) ∙ sym c.is_lt.ensures))
