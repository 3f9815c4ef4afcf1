use Rattle.std.proofs.Common.{◌<◌, ◌∙◌, ap, sym, subst, length, slice_set, arith}
use Rattle.std.specs.List.{slice_index_or}
use Rattle.std.proofs.lemmas.List.{length-set}
use Rattle.std.proofs.lemmas.Result.{on_ok_weaker, on_err_weaker}
use Rattle.t1_tree.specs.Joins.{joined, IsPlaceIn}
use Rattle.t1_tree.specs.Sums.{sum_all}
use Rattle.t1_tree.specs.TreeFalls.{deep_above, deep_below}
use Rattle.t1_tree.specs.Trees.{elements, lists_of, HasHeight}
use Rattle.t1_tree.proofs.HeightLaws.{filled_at, height_set}
use Rattle.t1_tree.proofs.NodeLaws.{at_err, at_ok, if_ok_then, is_ok_at, kept, like_either, like_is, like_then, some_set}
use Rattle.t1_tree.proofs.SumLaws.{sum_set}
use Rattle.t1_tree.proofs.TreeLaws.{element_there, index_within, lists_same, offset_within, set_there}
use Rattle.t1_tree.proofs.node.+set.Goals as goal

pub Node::set-set-requires : goal.Node::set-set-requires
Node::set-set-requires g t c κs within =
    let ts = c.in-Inner.trees.items in
    let p = c.place_of-index.result in
    let tree = c.index_mut-in-Inner.result.now in
    let place : IsPlaceIn c.args.at (lists_of ts) p = subst (λ xs. IsPlaceIn c.args.at (lists_of xs) p) c.as_slice.ensures.value c.place_of-index.ensures in
    let inside = offset_within c.args.at ts p tree place c.index_mut-in-Inner.ensures.value in
    let lower = deep_above g.row.T.Denot g.row.T-Sum.Denot g.T.Element g.T.Sum.Sum p.0 c.args.self.now c.in-Inner.trees tree c.in-Inner.is (index_within c.args.at ts p tree place c.index_mut-in-Inner.ensures.value) c.index_mut-in-Inner.ensures.value in
    (omega (arith, lower, c.decreases), (within.0, (within.1, inside)))

pub Node::set-returns-in-Inner-clause-ok : goal.Node::set-returns-in-Inner-clause-ok
Node::set-returns-in-Inner-clause-ok g t c =
    let ts = c.in-Inner.trees.items in
    let p = c.place_of-index.result in
    let tree = c.index_mut-in-Inner.result.now in
    let place : IsPlaceIn c.args.at (lists_of ts) p = subst (λ xs. IsPlaceIn c.args.at (lists_of xs) p) c.as_slice.ensures.value c.place_of-index.ensures in
    on_ok_weaker c.set.result (λ e. set_there c.args.at ts p tree place c.index_mut-in-Inner.ensures.value c.set.new.self c.args.element e ∙ ap (λ n. slice_set (elements n) c.args.at c.args.element) (sym c.in-Inner.is)) c.set.ensures.ok

pub Node::set-returns-in-Inner-clause-err : goal.Node::set-returns-in-Inner-clause-err
Node::set-returns-in-Inner-clause-err g t c =
    let ts = c.in-Inner.trees.items in
    let p = c.place_of-index.result in
    let tree = c.index_mut-in-Inner.result.now in
    on_err_weaker c.set.result (λ e. ap joined (lists_same p.0 ts c.set.new.self tree c.index_mut-in-Inner.ensures.value e) ∙ ap elements (sym c.in-Inner.is)) c.set.ensures.err

pub Node::set-returns-in-Inner-clause-sum : goal.Node::set-returns-in-Inner-clause-sum
Node::set-returns-in-Inner-clause-sum g t c =
    let ts = c.in-Inner.trees.items in
    let p = c.place_of-index.result in
    let tree = c.index_mut-in-Inner.result.now in
    let place : IsPlaceIn c.args.at (lists_of ts) p = subst (λ xs. IsPlaceIn c.args.at (lists_of xs) p) c.as_slice.ensures.value c.place_of-index.ensures in
    if_ok_then _ _ c.set.result (λ is_same holds yes d. ap (λ n. g.T.Element.sum_of (slice_index_or (elements n) c.args.at d)) c.in-Inner.is ∙ ap g.T.Element.sum_of (element_there c.args.at ts p tree place c.index_mut-in-Inner.ensures.value d) ∙ holds yes d) c.set.ensures.sum

pub Node::set-returns-in-Inner-clause-height : goal.Node::set-returns-in-Inner-clause-height
Node::set-returns-in-Inner-clause-height g t c = λ height has.
    let ts = c.in-Inner.trees.items in
    let p = c.place_of-index.result in
    let tree = c.index_mut-in-Inner.result.now in
    let place : IsPlaceIn c.args.at (lists_of ts) p = subst (λ xs. IsPlaceIn c.args.at (lists_of xs) p) c.as_slice.ensures.value c.place_of-index.ensures in
    let here = index_within c.args.at ts p tree place c.index_mut-in-Inner.ensures.value in
    let below = subst (HasHeight height) c.in-Inner.is has in
    let filled = filled_at p.0 ts tree here c.index_mut-in-Inner.ensures.value below.0.1 in
    let some = some_set c.set.result p.1 c.args.element tree.0 c.set.new.self.0 c.set.ensures.ok c.set.ensures.err filled in
    height_set height p.0 ts c.set.new.self tree here c.index_mut-in-Inner.ensures.value c.set.ensures.height some below

pub Tree::set-invariant_of-self : goal.Tree::set-invariant_of-self
Tree::set-invariant_of-self g t c =
    let old = c.self.inside.node.value in
    let new = c.make_mut.follows.lender-at-none.value in
    let like = like_either new old (at_err c.make_mut.result _ c.in_err-node.was c.make_mut.follows.holds-at-none) in
    kept g.T.Sum.Sum.none g.T.Sum.Sum.plus g.T.Element.sum_of c.self.inside.len c.self.inside.height c.self.inside.sum old new c.self.invariant like

pub Tree::set-set-requires : goal.Tree::set-set-requires
Tree::set-set-requires g t c κs within =
    let like = like_either c.in_ok-node.node.now c.self.inside.node.value c.in_ok-node.ensures.value in
    let same = ap length like.0 in
    let view = ap (λ t. length t.0) c.self.view_is in
    let inside : c.args.at < length (elements c.in_ok-node.node.now) = omega (arith, c.requires, same, view) in
    let height = ap (λ t. t.1) c.self.view_is in
    let lower = deep_below g.row.T.Denot g.row.T-Sum.Denot g.T.Element g.T.Sum.Sum c.self.inside.height c.in_ok-node.node.now (like.1 c.self.inside.height c.self.invariant.1) in
    (omega (arith, lower, height, c.decreases), (within.0, (within.1, inside)))

pub Tree::set-invariant_of-self-in_err-is_same : goal.Tree::set-invariant_of-self-in_err-is_same
Tree::set-invariant_of-self-in_err-is_same g t c =
    let old = c.self.inside.node.value in
    let mid = c.in_ok-node.node.now in
    let new = c.set.new.self in
    let written = c.make_mut.follows.holds new (is_ok_at c.make_mut.result _ c.in_ok-node.was) in
    let like = like_then old mid new (like_either mid old c.in_ok-node.ensures.value) (at_err c.set.result _ c.in_err-is_same.was c.set.ensures.err) c.set.ensures.height in
    kept g.T.Sum.Sum.none g.T.Sum.Sum.plus g.T.Element.sum_of c.self.inside.len c.self.inside.height c.self.inside.sum old _ c.self.invariant (like_is old new _ like written)

pub Tree::set-invariant_of-self-2 : goal.Tree::set-invariant_of-self-2
Tree::set-invariant_of-self-2 g t c =
    let old = c.self.inside.node.value in
    let mid = c.in_ok-node.node.now in
    let new = c.set.new.self in
    let written = c.make_mut.follows.holds new (is_ok_at c.make_mut.result _ c.in_ok-node.was) in
    let like = like_either mid old c.in_ok-node.ensures.value in
    let made = at_ok c.set.result _ c.in_ok-is_same.was c.set.ensures.ok in
    let size = ap length made in
    let kept_size = length-set (elements mid) c.args.at c.args.element in
    let same = ap length like.0 in
    let there = ap (λ n. length (elements n)) written in (
      omega (arith, c.self.invariant.0, size, kept_size, same, there),
      subst (HasHeight c.self.inside.height) (sym written) (c.set.ensures.height c.self.inside.height (like.1 c.self.inside.height c.self.invariant.1)),
      c.sum-sum.ensures ∙ ap (λ n. sum_all g.T.Sum.Sum.none g.T.Sum.Sum.plus g.T.Element.sum_of (elements n)) (sym written),
    )

pub Tree::set-invariant_of-self-then-is_same : goal.Tree::set-invariant_of-self-then-is_same
Tree::set-invariant_of-self-then-is_same g t c =
    let none = g.T.Sum.Sum.none in
    let plus = g.T.Sum.Sum.plus in
    let one = g.T.Element.sum_of in
    let old = c.self.inside.node.value in
    let mid = c.in_ok-node.node.now in
    let new = c.set.new.self in
    let written = c.make_mut.follows.holds new (is_ok_at c.make_mut.result _ c.in_ok-node.was) in
    let like = like_either mid old c.in_ok-node.ensures.value in
    let made = at_ok c.set.result _ c.in_ok-is_same.was c.set.ensures.ok in
    let size = ap length made in
    let kept_size = length-set (elements mid) c.args.at c.args.element in
    let same = ap length like.0 in
    let there = ap (λ n. length (elements n)) written in
    let alike = sum_set none plus one (elements mid) c.args.at c.args.element (c.in_ok-is_same.ensures.sum c.if-is_same.true) in (
      omega (arith, c.self.invariant.0, size, kept_size, same, there),
      subst (HasHeight c.self.inside.height) (sym written) (c.set.ensures.height c.self.inside.height (like.1 c.self.inside.height c.self.invariant.1)),
      c.self.invariant.2
          ∙ ap (λ xs. sum_all none plus one xs) (sym like.0)
          ∙ sym alike
          ∙ ap (λ xs. sum_all none plus one xs) (sym made)
          ∙ ap (λ n. sum_all none plus one (elements n)) (sym written),
    )
