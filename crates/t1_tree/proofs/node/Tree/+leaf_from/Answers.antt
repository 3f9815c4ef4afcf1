use Rattle.std.proofs.Common.{rules, take, drop, ◌≡◌, ◌<◌, ◌∙◌, ap, sym, subst, length, arith}
use Rattle.t1_tree.specs.Joins.{IsPlaceIn}
use Rattle.t1_tree.specs.Trees.{elements, lists_of, trees_joined, HasHeight}
use Rattle.t1_tree.proofs.HeightLaws.{lower_at}
use Rattle.t1_tree.proofs.TreeLaws.{leaf_there, index_within, offset_within}
use Rattle.t1_tree.proofs.node.Tree.+leaf_from.Goals as goal

pub leaf_from-requires : goal.leaf_from-requires
leaf_from-requires g t c κs within =
    let ts = c.in-Inner.trees.items in
    let p = c.place_of-index.result in
    let tree = c.index.result.now in
    let place : IsPlaceIn c.args.at (lists_of ts) p = subst (λ xs. IsPlaceIn c.args.at (lists_of xs) p) c.as_slice-in-Inner.ensures.value c.place_of-index.ensures in
    let inside = offset_within c.args.at ts p tree place c.index.ensures in
    let below = subst (HasHeight c.self.inside.height) (sym c.deref.ensures ∙ c.in-Inner.is) c.self.invariant.1 in
    let lower = lower_at c.self.inside.height p.0 ts tree (index_within c.args.at ts p tree place c.index.ensures) c.index.ensures below.1 in
    let height = ap (λ t. t.1) c.self.view_is in
    let falls : tree.1 < c.args.self.now.1 = omega (arith, lower, height) in
    search rules

pub returns-in-Inner-clause-elements : goal.returns-in-Inner-clause-elements
returns-in-Inner-clause-elements g t c =
    let ts = c.in-Inner.trees.items in
    let p = c.place_of-index.result in
    let tree = c.index.result.now in
    let place : IsPlaceIn c.args.at (lists_of ts) p = subst (λ xs. IsPlaceIn c.args.at (lists_of xs) p) c.as_slice-in-Inner.ensures.value c.place_of-index.ensures in
    let whole : trees_joined ts ≡ c.args.self.now.0 = ap elements (sym c.in-Inner.is ∙ c.deref.ensures) ∙ ap (λ t. t.0) c.self.view_is in
    leaf_there c.args.at ts p tree c.leaf_from.result.now place c.index.ensures c.leaf_from.ensures.elements ∙ ap (λ xs. take (length c.leaf_from.result.now) (drop c.args.at xs)) whole
