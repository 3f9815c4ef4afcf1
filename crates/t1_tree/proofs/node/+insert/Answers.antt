use Rattle.std.proofs.Common.{ℕ, ◌≤◌, ◌∙◌, ap, sym, subst, length, arith}
use Rattle.std.specs.List.{insert}
use Rattle.std.proofs.lemmas.Result.{on_ok_weaker, on_err_weaker}
use Rattle.t1_tree.specs.Joins.{joined}
use Rattle.t1_tree.specs.Sums.{sum_all}
use Rattle.t1_tree.specs.TreeFalls.{deep_below, deep_has}
use Rattle.t1_tree.specs.Trees.{elements, HasHeight}
use Rattle.t1_tree.proofs.HeightLaws.{filled_at, height_set, lower_at}
use Rattle.t1_tree.proofs.NodeLaws.{at_err, at_ok, has_parts, is_ok_at, kept, like_either, like_is, like_then, some_inserted}
use Rattle.t1_tree.proofs.TreeLaws.{inserted_there, length-insert, lists_same, offset_up_to, tree_within, up_index}
use Rattle.t1_tree.proofs.node.+insert.Goals as goal

pub Node::insert-returns-in_err-index-in-Inner-clause-height :
    goal.Node::insert-returns-in_err-index-in-Inner-clause-height
Node::insert-returns-in_err-index-in-Inner-clause-height g t c = λ height has.
    let below = subst (HasHeight height) c.in-Inner.is has in
    (c.place_with_room.ensures.heights.1 below.0, c.place_with_room.ensures.heights.0 height below.1)

pub Node::insert-insert-requires-in-Inner : goal.Node::insert-insert-requires-in-Inner
Node::insert-insert-requires-in-Inner g t c κs within =
    let ts = c.place_with_room.new.trees.items in
    let p : ℕ × ℕ = (c.in_ok-index-in-Inner.index, c.in_ok-index-in-Inner.offset) in
    let tree = c.index_mut.result.now in
    let place = c.in_ok-index-in-Inner.ensures.place in
    let here = up_index c.args.at ts p tree place c.index_mut.ensures.value in
    let inside = offset_up_to c.args.at ts p tree place c.index_mut.ensures.value in
    let whole = ap length (c.place_with_room.ensures.same ∙ ap elements (sym c.in-Inner.is)) in
    let few = tree_within p.0 ts tree here c.index_mut.ensures.value in
    let deep = deep_has g.row.T.Denot g.row.T-Sum.Denot g.T.Element g.T.Sum.Sum c.args.self.now c.in-Inner.trees c.in-Inner.is in
    let lower = lower_at _ p.0 ts tree here c.index_mut.ensures.value (c.place_with_room.ensures.heights.0 _ deep) in
    (omega (arith, lower, c.decreases), (within.0, (within.1, (inside, omega (arith, few, whole, c.requires.few)))))

pub Node::insert-returns-in_ok-index-in-Inner-clause-ok :
    goal.Node::insert-returns-in_ok-index-in-Inner-clause-ok
Node::insert-returns-in_ok-index-in-Inner-clause-ok g t c =
    let ts = c.place_with_room.new.trees.items in
    let p : ℕ × ℕ = (c.in_ok-index-in-Inner.index, c.in_ok-index-in-Inner.offset) in
    let tree = c.index_mut.result.now in
    let whole = c.place_with_room.ensures.same ∙ ap elements (sym c.in-Inner.is) in
    on_ok_weaker c.insert-in-Inner.result (λ e. inserted_there c.args.at ts p tree c.in_ok-index-in-Inner.ensures.place c.index_mut.ensures.value c.insert-in-Inner.new.self c.args.element e ∙ ap (λ xs. insert xs c.args.at c.args.element) whole) c.insert-in-Inner.ensures.ok

pub Node::insert-returns-in_ok-index-in-Inner-clause-err :
    goal.Node::insert-returns-in_ok-index-in-Inner-clause-err
Node::insert-returns-in_ok-index-in-Inner-clause-err g t c =
    let ts = c.place_with_room.new.trees.items in
    let tree = c.index_mut.result.now in
    let whole = c.place_with_room.ensures.same ∙ ap elements (sym c.in-Inner.is) in
    on_err_weaker c.insert-in-Inner.result (λ e. ap joined (lists_same c.in_ok-index-in-Inner.index ts c.insert-in-Inner.new.self tree c.index_mut.ensures.value e) ∙ whole) c.insert-in-Inner.ensures.err

pub Node::insert-returns-in_ok-index-in-Inner-clause-height :
    goal.Node::insert-returns-in_ok-index-in-Inner-clause-height
Node::insert-returns-in_ok-index-in-Inner-clause-height g t c = λ height has.
    let ts = c.place_with_room.new.trees.items in
    let p : ℕ × ℕ = (c.in_ok-index-in-Inner.index, c.in_ok-index-in-Inner.offset) in
    let tree = c.index_mut.result.now in
    let place = c.in_ok-index-in-Inner.ensures.place in
    let here = up_index c.args.at ts p tree place c.index_mut.ensures.value in
    let inside = offset_up_to c.args.at ts p tree place c.index_mut.ensures.value in
    let below = subst (HasHeight height) c.in-Inner.is has in
    let parts = c.place_with_room.ensures.heights.1 below.0 in
    let filled = filled_at p.0 ts tree here c.index_mut.ensures.value parts.1 in
    let some = some_inserted c.insert-in-Inner.result p.1 c.args.element tree.0 c.insert-in-Inner.new.self.0 c.insert-in-Inner.ensures.ok c.insert-in-Inner.ensures.err inside filled in
    height_set height p.0 ts c.insert-in-Inner.new.self tree here c.index_mut.ensures.value c.insert-in-Inner.ensures.height some (parts, c.place_with_room.ensures.heights.0 height below.1)

pub Tree::insert-invariant_of-self : goal.Tree::insert-invariant_of-self
Tree::insert-invariant_of-self g t c =
    let old = c.self.inside.node.value in
    let new = c.make_mut.follows.lender-at-none.value in
    let like = like_either new old (at_err c.make_mut.result _ c.in_err-node.was c.make_mut.follows.holds-at-none) in
    kept g.T.Sum.Sum.none g.T.Sum.Sum.plus g.T.Element.sum_of c.self.inside.len c.self.inside.height c.self.inside.sum old new c.self.invariant like

pub Tree::insert-insert-requires : goal.Tree::insert-insert-requires
Tree::insert-insert-requires g t c κs within =
    let like = like_either c.in_ok-node.node.now c.self.inside.node.value c.in_ok-node.ensures.value in
    let same = ap length like.0 in
    let view = ap (λ t. length t.0) c.self.view_is in
    let inside : c.args.at ≤ length (elements c.in_ok-node.node.now) = omega (arith, c.requires.within, same, view) in
    let height = ap (λ t. t.1) c.self.view_is in
    let lower = deep_below g.row.T.Denot g.row.T-Sum.Denot g.T.Element g.T.Sum.Sum c.self.inside.height c.in_ok-node.node.now (like.1 c.self.inside.height c.self.invariant.1) in
    (omega (arith, lower, height, c.decreases), (within.0, (within.1, (inside, (omega (arith, c.requires.few, same, view), has_parts c.self.inside.height c.in_ok-node.node.now (like.1 c.self.inside.height c.self.invariant.1))))))

pub Tree::insert-invariant_of-self-in_err-insert : goal.Tree::insert-invariant_of-self-in_err-insert
Tree::insert-invariant_of-self-in_err-insert g t c =
    let old = c.self.inside.node.value in
    let mid = c.in_ok-node.node.now in
    let new = c.insert.new.self in
    let written = c.make_mut.follows.holds new (is_ok_at c.make_mut.result _ c.in_ok-node.was) in
    let like = like_then old mid new (like_either mid old c.in_ok-node.ensures.value) (at_err c.insert.result _ c.in_err-insert.was c.insert.ensures.err) c.insert.ensures.height in
    kept g.T.Sum.Sum.none g.T.Sum.Sum.plus g.T.Element.sum_of c.self.inside.len c.self.inside.height c.self.inside.sum old _ c.self.invariant (like_is old new _ like written)

pub Tree::insert-invariant_of-self-2 : goal.Tree::insert-invariant_of-self-2
Tree::insert-invariant_of-self-2 g t c =
    let old = c.self.inside.node.value in
    let mid = c.in_ok-node.node.now in
    let new = c.insert.new.self in
    let written = c.make_mut.follows.holds new (is_ok_at c.make_mut.result _ c.in_ok-node.was) in
    let like = like_either mid old c.in_ok-node.ensures.value in
    let made = at_ok c.insert.result _ c.in_ok-insert.was c.insert.ensures.ok in
    let size = ap length made in
    let kept_size = length-insert c.args.at (elements mid) c.args.element (omega (arith, c.requires.within, ap length like.0, ap (λ t. length t.0) c.self.view_is)) in
    let same = ap length like.0 in
    let there = ap (λ n. length (elements n)) written in (
      omega (arith, c.self.invariant.0, size, kept_size, same, there),
      subst (HasHeight c.self.inside.height) (sym written) (c.insert.ensures.height c.self.inside.height (like.1 c.self.inside.height c.self.invariant.1)),
      c.sum-sum.ensures ∙ ap (λ n. sum_all g.T.Sum.Sum.none g.T.Sum.Sum.plus g.T.Element.sum_of (elements n)) (sym written),
    )
