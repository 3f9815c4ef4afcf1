use Rattle.std.proofs.Common.{refl}
use Rattle.std.proofs.lemmas.Fn.{called}
use Rattle.t1_tree.proofs.ReachLaws.{answers_next}
use Rattle.t1_tree.proofs.search.is_through.Goals as goal

pub returns-clause-answer : goal.returns-clause-answer
returns-clause-answer g c = λ by asked.
    let k = called g.F.FnMut c.is_reached.ensures refl in
    let n = answers_next g.F.FnMut _ _ _ _ _ k asked in
    (n.1, n.0)
