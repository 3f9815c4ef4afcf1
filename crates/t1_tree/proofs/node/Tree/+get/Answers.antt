use Rattle.std.proofs.Common.{rules, ◌≡◌, ◌<◌, ◌∙◌, ap, sym, subst, arith}
use Rattle.std.specs.List.{slice_index_or}
use Rattle.t1_tree.specs.Joins.{IsPlaceIn}
use Rattle.t1_tree.specs.Trees.{elements, lists_of, trees_joined, HasHeight}
use Rattle.t1_tree.proofs.HeightLaws.{lower_at}
use Rattle.t1_tree.proofs.TreeLaws.{element_there, index_within, offset_within}
use Rattle.t1_tree.proofs.node.Tree.+get.Goals as goal

pub get-requires : goal.get-requires
get-requires g t c κs within =
    let ts = c.in-Inner.trees.items in
    let p = c.place_of-index.result in
    let tree = c.index-in-Inner.result.now in
    let place : IsPlaceIn c.args.at (lists_of ts) p = subst (λ xs. IsPlaceIn c.args.at (lists_of xs) p) c.as_slice.ensures.value c.place_of-index.ensures in
    let inside = offset_within c.args.at ts p tree place c.index-in-Inner.ensures in
    let below = subst (HasHeight c.self.inside.height) (sym c.deref.ensures ∙ c.in-Inner.is) c.self.invariant.1 in
    let lower = lower_at c.self.inside.height p.0 ts tree (index_within c.args.at ts p tree place c.index-in-Inner.ensures) c.index-in-Inner.ensures below.1 in
    let height = ap (λ t. t.1) c.self.view_is in
    let falls : tree.1 < c.args.self.now.1 = omega (arith, lower, height) in
    search rules

pub returns-in-Inner : goal.returns-in-Inner
returns-in-Inner g t c = λ d.
    let ts = c.in-Inner.trees.items in
    let p = c.place_of-index.result in
    let tree = c.index-in-Inner.result.now in
    let place : IsPlaceIn c.args.at (lists_of ts) p = subst (λ xs. IsPlaceIn c.args.at (lists_of xs) p) c.as_slice.ensures.value c.place_of-index.ensures in
    let whole : c.args.self.now.0 ≡ trees_joined ts = sym (ap (λ t. t.0) c.self.view_is) ∙ ap elements (sym c.deref.ensures ∙ c.in-Inner.is) in
    ap (λ xs. slice_index_or xs c.args.at d) whole ∙ element_there c.args.at ts p tree place c.index-in-Inner.ensures d ∙ c.get.ensures d
