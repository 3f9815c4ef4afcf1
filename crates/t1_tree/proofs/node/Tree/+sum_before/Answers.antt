use Rattle.std.proofs.Common.{rules, ◌≡◌, ◌<◌, ◌∙◌, take, ap, sym, subst, arith}
use Rattle.t1_tree.specs.Joins.{IsPlaceUpTo}
use Rattle.t1_tree.specs.Sums.{sum_from}
use Rattle.t1_tree.specs.Trees.{elements, lists_of, trees_joined, HasHeight}
use Rattle.t1_tree.proofs.HeightLaws.{lower_at}
use Rattle.t1_tree.proofs.SumLaws.{sum_from_append}
use Rattle.t1_tree.proofs.TreeLaws.{offset_up_to, taken_there, up_index}
use Rattle.t1_tree.proofs.node.Tree.+sum_before.Goals as goal

pub sum_before-requires : goal.sum_before-requires
sum_before-requires g t c κs within =
    let ts = c.in-Inner.trees.items in
    let p = c.place_up_to-index.result in
    let tree = c.index.result.now in
    let place : IsPlaceUpTo c.args.at (lists_of ts) p = subst (λ xs. IsPlaceUpTo c.args.at (lists_of xs) p) c.as_slice-all.ensures.value c.place_up_to-index.ensures in
    let inside = offset_up_to c.args.at ts p tree place c.index.ensures in
    let below = subst (HasHeight c.self.inside.height) (sym c.deref.ensures ∙ c.in-Inner.is) c.self.invariant.1 in
    let lower = lower_at c.self.inside.height p.0 ts tree (up_index c.args.at ts p tree place c.index.ensures) c.index.ensures below.1 in
    let height = ap (λ t. t.1) c.self.view_is in
    let falls : tree.1 < c.args.self.now.1 = omega (arith, lower, height) in
    search rules

pub returns-in-Inner : goal.returns-in-Inner
returns-in-Inner g t c =
    let ts = c.in-Inner.trees.items in
    let p = c.place_up_to-index.result in
    let tree = c.index.result.now in
    let place : IsPlaceUpTo c.args.at (lists_of ts) p = subst (λ xs. IsPlaceUpTo c.args.at (lists_of xs) p) c.as_slice-all.ensures.value c.place_up_to-index.ensures in
    let none = g.T.Sum.Sum.none in
    let plus = g.T.Sum.Sum.plus in
    let one = g.T.Element.sum_of in
    let whole : c.args.self.now.0 ≡ trees_joined ts = sym (ap (λ t. t.0) c.self.view_is) ∙ ap elements (sym c.deref.ensures ∙ c.in-Inner.is) in
    c.sum_before.ensures
    ∙ ap (λ s. sum_from s plus one (take p.1 tree.0)) (c.sum_through-through.ensures.value ∙ ap (λ us. sum_from c.args.sum plus one (trees_joined us)) (c.split_at-in-Inner.ensures.front ∙ ap (take p.0) c.as_slice-all.ensures.value))
    ∙ sym (sum_from_append none plus one c.args.sum (trees_joined (take p.0 ts)) (take p.1 tree.0))
    ∙ ap (sum_from c.args.sum plus one) (sym (taken_there c.args.at ts p tree place c.index.ensures) ∙ ap (take c.args.at) (sym whole))
