use Rattle.std.proofs.Common.{ℕ, ◌<◌, ◌∙◌, ap, sym, subst, length, arith}
use Rattle.std.specs.List.{remove}
use Rattle.std.proofs.lemmas.Result.{on_ok_weaker, on_err_weaker}
use Rattle.t1_tree.specs.Joins.{joined}
use Rattle.t1_tree.specs.Sums.{sum_all}
use Rattle.t1_tree.specs.TreeFalls.{deep_below, deep_has}
use Rattle.t1_tree.specs.Trees.{elements, AreBelow, AreParts, HasHeight}
use Rattle.t1_tree.proofs.HeightLaws.{height_removed, height_set, lower_at}
use Rattle.t1_tree.proofs.NodeLaws.{at_err, at_ok, is_ok_at, kept, like_either, like_is, like_then, some_removed}
use Rattle.t1_tree.proofs.TreeLaws.{gone_there, index_within, length-remove, lists_same, many_trees, offset_within, removed_there, same_at}
use Rattle.t1_tree.proofs.node.+remove.Goals as goal

pub Node::remove-returns-in_err-index-in-Inner-clause-height :
    goal.Node::remove-returns-in_err-index-in-Inner-clause-height
Node::remove-returns-in_err-index-in-Inner-clause-height g t c = λ height has.
    let below = subst (HasHeight height) c.in-Inner.is has in
    (c.place_in_filled.ensures.heights.1 below.0, c.place_in_filled.ensures.heights.0 height below.1)

pub Node::remove-returns-then-len-eq1-clause-ok : goal.Node::remove-returns-then-len-eq1-clause-ok
Node::remove-returns-then-len-eq1-clause-ok g t c =
    let ts = c.place_in_filled.new.trees.items in
    let p : ℕ × ℕ = (c.in_ok-index-in-Inner.index, c.in_ok-index-in-Inner.offset) in
    let tree = c.index.result.now in
    let place = c.in_ok-index-in-Inner.ensures.place in
    let whole = c.place_in_filled.ensures.same ∙ ap elements (sym c.in-Inner.is) in
    gone_there c.args.at ts c.remove-then-len-eq1.new.self.items p tree place c.index.ensures c.remove-then-len-eq1.ensures.items (omega (arith, c.len.ensures.value, c.if-len-eq1.true))
    ∙ ap (λ xs. remove xs c.args.at) whole

pub Node::remove-returns-then-len-eq1-clause-height :
    goal.Node::remove-returns-then-len-eq1-clause-height
Node::remove-returns-then-len-eq1-clause-height g t c = λ height has.
    let ts = c.place_in_filled.new.trees.items in
    let p : ℕ × ℕ = (c.in_ok-index-in-Inner.index, c.in_ok-index-in-Inner.offset) in
    let tree = c.index.result.now in
    let place = c.in_ok-index-in-Inner.ensures.place in
    let here = index_within c.args.at ts p tree place c.index.ensures in
    let below = subst (HasHeight height) c.in-Inner.is has in
    let whole = ap length (c.place_in_filled.ensures.same ∙ ap elements (sym c.in-Inner.is)) in
    let many = many_trees p.0 ts tree here c.index.ensures (omega (arith, c.len.ensures.value, c.if-len-eq1.true)) (omega (arith, whole, c.requires.others)) in
    subst (λ us. AreParts us × AreBelow height us) (sym c.remove-then-len-eq1.ensures.items)
    (height_removed height p.0 ts here many (c.place_in_filled.ensures.heights.1 below.0, c.place_in_filled.ensures.heights.0 height below.1))

pub Node::remove-remove-requires-in-Inner : goal.Node::remove-remove-requires-in-Inner
Node::remove-remove-requires-in-Inner g t c κs within =
    let ts = c.place_in_filled.new.trees.items in
    let p : ℕ × ℕ = (c.in_ok-index-in-Inner.index, c.in_ok-index-in-Inner.offset) in
    let tree = c.index_mut.result.now in
    let place = c.in_ok-index-in-Inner.ensures.place in
    let here = index_within c.args.at ts p tree place c.index_mut.ensures.value in
    let inside = offset_within c.args.at ts p tree place c.index_mut.ensures.value in
    let deep = deep_has g.row.T.Denot g.row.T-Sum.Denot g.T.Element g.T.Sum.Sum c.args.self.now c.in-Inner.trees c.in-Inner.is in
    let lower = lower_at _ p.0 ts tree here c.index_mut.ensures.value (c.place_in_filled.ensures.heights.0 _ deep) in
    let same = same_at p.0 ts tree c.index.result.now here c.index_mut.ensures.value c.index.ensures in
    let many : 1 < length tree.0 = omega (arith, ap (λ t. length t.0) same, c.len.ensures.value, c.len.ensures.some, c.if-len-eq1.false) in
    (omega (arith, lower, c.decreases), (within.0, (within.1, (inside, many))))

pub Node::remove-returns-else-len-eq1-clause-ok :
    goal.Node::remove-returns-else-len-eq1-clause-ok
Node::remove-returns-else-len-eq1-clause-ok g t c =
    let ts = c.place_in_filled.new.trees.items in
    let p : ℕ × ℕ = (c.in_ok-index-in-Inner.index, c.in_ok-index-in-Inner.offset) in
    let tree = c.index_mut.result.now in
    let whole = c.place_in_filled.ensures.same ∙ ap elements (sym c.in-Inner.is) in
    on_ok_weaker c.remove-in-Inner.result (λ e. removed_there c.args.at ts p tree c.in_ok-index-in-Inner.ensures.place c.index_mut.ensures.value c.remove-in-Inner.new.self e ∙ ap (λ xs. remove xs c.args.at) whole) c.remove-in-Inner.ensures.ok

pub Node::remove-returns-else-len-eq1-clause-err :
    goal.Node::remove-returns-else-len-eq1-clause-err
Node::remove-returns-else-len-eq1-clause-err g t c =
    let ts = c.place_in_filled.new.trees.items in
    let tree = c.index_mut.result.now in
    let whole = c.place_in_filled.ensures.same ∙ ap elements (sym c.in-Inner.is) in
    on_err_weaker c.remove-in-Inner.result (λ e. ap joined (lists_same c.in_ok-index-in-Inner.index ts c.remove-in-Inner.new.self tree c.index_mut.ensures.value e) ∙ whole) c.remove-in-Inner.ensures.err

pub Node::remove-returns-else-len-eq1-clause-height :
    goal.Node::remove-returns-else-len-eq1-clause-height
Node::remove-returns-else-len-eq1-clause-height g t c = λ height has.
    let ts = c.place_in_filled.new.trees.items in
    let p : ℕ × ℕ = (c.in_ok-index-in-Inner.index, c.in_ok-index-in-Inner.offset) in
    let tree = c.index_mut.result.now in
    let place = c.in_ok-index-in-Inner.ensures.place in
    let here = index_within c.args.at ts p tree place c.index_mut.ensures.value in
    let inside = offset_within c.args.at ts p tree place c.index_mut.ensures.value in
    let below = subst (HasHeight height) c.in-Inner.is has in
    let same = same_at p.0 ts tree c.index.result.now here c.index_mut.ensures.value c.index.ensures in
    let many : 1 < length tree.0 = omega (arith, ap (λ t. length t.0) same, c.len.ensures.value, c.len.ensures.some, c.if-len-eq1.false) in
    let some = some_removed c.remove-in-Inner.result p.1 tree.0 c.remove-in-Inner.new.self.0 c.remove-in-Inner.ensures.ok c.remove-in-Inner.ensures.err inside many in
    height_set height p.0 ts c.remove-in-Inner.new.self tree here c.index_mut.ensures.value c.remove-in-Inner.ensures.height some (c.place_in_filled.ensures.heights.1 below.0, c.place_in_filled.ensures.heights.0 height below.1)

pub Tree::remove-invariant_of-self : goal.Tree::remove-invariant_of-self
Tree::remove-invariant_of-self g t c =
    let old = c.self.inside.node.value in
    let new = c.make_mut.follows.lender-at-none.value in
    let like = like_either new old (at_err c.make_mut.result _ c.in_err-node.was c.make_mut.follows.holds-at-none) in
    kept g.T.Sum.Sum.none g.T.Sum.Sum.plus g.T.Element.sum_of c.self.inside.len c.self.inside.height c.self.inside.sum old new c.self.invariant like

pub Tree::remove-remove-requires : goal.Tree::remove-remove-requires
Tree::remove-remove-requires g t c κs within =
    let like = like_either c.in_ok-node.node.now c.self.inside.node.value c.in_ok-node.ensures.value in
    let same = ap length like.0 in
    let view = ap (λ t. length t.0) c.self.view_is in
    let inside : c.args.at < length (elements c.in_ok-node.node.now) = omega (arith, c.requires.within, same, view) in
    let many : 1 < length (elements c.in_ok-node.node.now) = omega (arith, c.requires.others, same, view) in
    let height = ap (λ t. t.1) c.self.view_is in
    let lower = deep_below g.row.T.Denot g.row.T-Sum.Denot g.T.Element g.T.Sum.Sum c.self.inside.height c.in_ok-node.node.now (like.1 c.self.inside.height c.self.invariant.1) in
    (omega (arith, lower, height, c.decreases), (within.0, (within.1, (inside, many))))

pub Tree::remove-invariant_of-self-in_err-remove : goal.Tree::remove-invariant_of-self-in_err-remove
Tree::remove-invariant_of-self-in_err-remove g t c =
    let old = c.self.inside.node.value in
    let mid = c.in_ok-node.node.now in
    let new = c.remove.new.self in
    let written = c.make_mut.follows.holds new (is_ok_at c.make_mut.result _ c.in_ok-node.was) in
    let like = like_then old mid new (like_either mid old c.in_ok-node.ensures.value) (at_err c.remove.result _ c.in_err-remove.was c.remove.ensures.err) c.remove.ensures.height in
    kept g.T.Sum.Sum.none g.T.Sum.Sum.plus g.T.Element.sum_of c.self.inside.len c.self.inside.height c.self.inside.sum old _ c.self.invariant (like_is old new _ like written)

pub Tree::remove-invariant_of-self-2 : goal.Tree::remove-invariant_of-self-2
Tree::remove-invariant_of-self-2 g t c =
    let old = c.self.inside.node.value in
    let mid = c.in_ok-node.node.now in
    let new = c.remove.new.self in
    let written = c.make_mut.follows.holds new (is_ok_at c.make_mut.result _ c.in_ok-node.was) in
    let like = like_either mid old c.in_ok-node.ensures.value in
    let made = at_ok c.remove.result _ c.in_ok-remove.was c.remove.ensures.ok in
    let size = ap length made in
    let kept_size = length-remove c.args.at (elements mid) (omega (arith, c.requires.within, ap length like.0, ap (λ t. length t.0) c.self.view_is)) in
    let same = ap length like.0 in
    let there = ap (λ n. length (elements n)) written in (
      omega (arith, c.self.invariant.0, size, kept_size, same, there),
      subst (HasHeight c.self.inside.height) (sym written) (c.remove.ensures.height c.self.inside.height (like.1 c.self.inside.height c.self.invariant.1)),
      c.sum-sum.ensures ∙ ap (λ n. sum_all g.T.Sum.Sum.none g.T.Sum.Sum.plus g.T.Element.sum_of (elements n)) (sym written),
    )
