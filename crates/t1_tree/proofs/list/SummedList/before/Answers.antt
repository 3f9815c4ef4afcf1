use Rattle.std.proofs.Common.{◌∙◌, ap, length, subst, sym, arith}
use Rattle.t1_tree.specs.Reached.{IsBoundary}
use Rattle.t1_tree.specs.Trees.{root_elements}
use Rattle.t1_tree.proofs.ReachLaws.{first_reached}
use Rattle.t1_tree.proofs.list.SummedList.before.Goals as goal

pub returns-in-Some-clause-first : goal.returns-in-Some-clause-first
returns-in-Some-clause-first g c = λ by asked stays.
    let none = g.T.Sum.Sum.none in
    let plus = g.T.Sum.Sum.plus in
    let one = g.T.Element.sum_of in
    let at = c.before-in-Some.result in
    let whole = ap root_elements (sym c.in-Some.is) ∙ c.self.view_is in
    let found = (c.before-in-Some.ensures.answer by asked).1 in
    let boundary = subst (λ xs. IsBoundary by none plus one xs at) whole (subst (λ s. IsBoundary by s plus one c.in-Some.root.0 at) c.zero.ensures found) in
    first_reached by none plus one c.args.self.now at (omega (arith, c.before-in-Some.ensures.within, ap length whole)) stays boundary
