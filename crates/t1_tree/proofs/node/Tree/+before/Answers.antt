use Rattle.std.proofs.Common.{rules, ◌≡◌, ◌<◌, ◌∙◌, ◌+◌, take, ap, sym, subst, length, arith}
use Rattle.std.specs.List.{slice_index_or}
use Rattle.t1_tree.specs.Trees.{elements, trees_joined, AreFilled, HasHeight}
use Rattle.t1_tree.proofs.HeightLaws.{filled_at, lower_at}
use Rattle.t1_tree.proofs.ReachLaws.{boundary_at, boundary_end, boundary_in, boundary_past}
use Rattle.t1_tree.proofs.SumLaws.{sum_from_more, sum_from_more_trees, sum_from_whole}
use Rattle.t1_tree.proofs.TreeLaws.{length_more, through_tree}
use Rattle.t1_tree.proofs.node.Tree.+before.Goals as goal

pub loop-item-preserved : goal.loop-item-preserved
loop-item-preserved g t c =
    let xs = c.deref-item-items.result.now in
    let more = sum_from_more g.T.Sum.Sum.none g.T.Sum.Sum.plus g.T.Element.sum_of c.args.before c.loop-item.item-index xs c.item-item.result (omega (arith, c.loop-item-test.true)) c.item-item.is in
    let sum = c.add-sum.ensures ∙ ap (λ s. g.T.Sum.Sum.plus s c.sum.result) c.loop-item.invariant.2 ∙ ap (g.T.Sum.Sum.plus _) c.sum.ensures ∙ sym more in (
      omega (arith, c.loop-item.invariant.0),
      c.is_through.ensures.callable,
      sum,
      λ by asked.
          let n = c.is_through.ensures.answer by (c.loop-item.invariant.3 by asked).0 in
          (n.0, λ some. sym n.1 ∙ c.if-is_through.false),
    )

pub returns-then-is_through-clause-answer : goal.returns-then-is_through-clause-answer
returns-then-is_through-clause-answer g t c = λ by asked.
    let xs = c.deref-item-items.result.now in
    let whole : c.args.self.now.0 ≡ xs = sym (ap (λ t. t.0) c.self.view_is) ∙ ap elements (sym c.deref.ensures ∙ c.in-Leaf.is) ∙ sym c.deref-item-items.ensures.value in
    let i = c.loop-item.invariant.3 by asked in
    let n = c.is_through.ensures.answer by i.0 in (
      n.0,
      boundary_at by g.T.Sum.Sum.none g.T.Sum.Sum.plus g.T.Element.sum_of c.args.before c.args.self.now.0 xs c.loop-item.item-index c.loop-item.passed c.item-item.result c.loop-item.sum c.add-sum.result c.is_through.result whole c.loop-item.invariant.0
          (omega (arith, c.loop-item-test.true)) c.item-item.is c.loop-item.invariant.2 (c.add-sum.ensures ∙ ap (g.T.Sum.Sum.plus _) c.sum.ensures) i.1 n.1 c.if-is_through.true,
    )

pub returns-after-loop-item-clause-answer : goal.returns-after-loop-item-clause-answer
returns-after-loop-item-clause-answer g t c = λ by asked.
    let xs = c.deref-item-items.result.now in
    let whole : c.args.self.now.0 ≡ xs = sym (ap (λ t. t.0) c.self.view_is) ∙ ap elements (sym c.deref.ensures ∙ c.in-Leaf.is) ∙ sym c.deref-item-items.ensures.value in
    let i = c.loop-item.invariant.3 by asked in
    (i.0, boundary_end by g.T.Sum.Sum.none g.T.Sum.Sum.plus g.T.Element.sum_of c.args.before c.args.self.now.0 xs c.loop-item.item-index c.loop-item.passed c.loop-item.sum whole c.loop-item.invariant.0 (omega arith) (omega arith) c.loop-item.invariant.2 i.1)

pub before-requires : goal.before-requires
before-requires g t c κs within =
    let ts = c.deref-tree-items.result.now in
    let i = c.loop-tree.tree-index in
    let laws = g.met.T.Sum.Sum in
    let whole = sum_from_whole g.T.Sum.Sum.none g.T.Sum.Sum.plus g.T.Element.sum_of laws.grouping laws.none_after_none laws.none_after c.args.before c.requires.sum (trees_joined (take i ts)) in
    let sum = subst (λ s. g.T.Sum.Sum.plus s g.T.Sum.Sum.none ≡ s) (sym c.loop-tree.invariant.2) whole in
    let below = subst (HasHeight c.self.inside.height) (sym c.deref.ensures ∙ c.in-Inner.is) c.self.invariant.1 in
    let items = ap (λ n. n) c.deref-tree-items.ensures.value in
    let lower = lower_at c.self.inside.height i c.in-Inner.trees.items c.tree-item.result (omega (arith, c.loop-tree-test.true, ap length items)) (subst (λ us. c.tree-item.result ≡ slice_index_or us i c.tree-item.result) items c.tree-item.is) below.1 in
    let height = ap (λ t. t.1) c.self.view_is in
    let falls : c.tree-item.result.1 < c.args.self.now.1 = omega (arith, lower, height) in
    search rules

pub overflow_add-result : goal.overflow_add-result
overflow_add-result g t c =
    let ts = c.deref-tree-items.result.now in
    let i = c.loop-tree.tree-index in
    let here = through_tree i ts c.tree-item.result (omega (arith, c.loop-tree-test.true)) c.tree-item.is in
    let whole : length (trees_joined ts) ≡ length c.args.self.now.0 = ap (λ xs. length (trees_joined xs)) c.deref-tree-items.ensures.value ∙ ap (λ n. length (elements n)) (sym c.in-Inner.is ∙ c.deref.ensures) ∙ ap (λ t. length t.0) c.self.view_is in
    omega (arith, here, whole, c.loop-tree.invariant.0, c.before-then-is_through-2.ensures.within, c.len-len.ensures.value)

pub returns-then-is_through-2-clause-within : goal.returns-then-is_through-2-clause-within
returns-then-is_through-2-clause-within g t c =
    let ts = c.deref-tree-items.result.now in
    let i = c.loop-tree.tree-index in
    let here = through_tree i ts c.tree-item.result (omega (arith, c.loop-tree-test.true)) c.tree-item.is in
    let whole : length (trees_joined ts) ≡ length c.args.self.now.0 = ap (λ xs. length (trees_joined xs)) c.deref-tree-items.ensures.value ∙ ap (λ n. length (elements n)) (sym c.in-Inner.is ∙ c.deref.ensures) ∙ ap (λ t. length t.0) c.self.view_is in
    omega (arith, here, whole, c.loop-tree.invariant.0, c.before-then-is_through-2.ensures.within)

pub returns-then-is_through-2-clause-answer : goal.returns-then-is_through-2-clause-answer
returns-then-is_through-2-clause-answer g t c = λ by asked.
    let ts = c.deref-tree-items.result.now in
    let i = c.loop-tree.tree-index in
    let laws = g.met.T.Sum.Sum in
    let here : i < length ts = omega (arith, c.loop-tree-test.true) in
    let whole : c.args.self.now.0 ≡ trees_joined ts = sym (ap (λ t. t.0) c.self.view_is) ∙ ap elements (sym c.deref.ensures ∙ c.in-Inner.is) ∙ ap trees_joined (sym c.deref-tree-items.ensures.value) in
    let below = subst (HasHeight c.self.inside.height) (sym c.deref.ensures ∙ c.in-Inner.is) c.self.invariant.1 in
    let filled = subst AreFilled (sym c.deref-tree-items.ensures.value) below.0.1 in
    let some = filled_at i ts c.tree-item.result here c.tree-item.is filled in
    let before = sum_from_whole g.T.Sum.Sum.none g.T.Sum.Sum.plus g.T.Element.sum_of laws.grouping laws.none_after_none laws.none_after c.args.before c.requires.sum (trees_joined (take i ts)) in
    let sum = subst (λ s. g.T.Sum.Sum.plus s g.T.Sum.Sum.none ≡ s) (sym c.loop-tree.invariant.2) before in
    let j = c.loop-tree.invariant.3 by asked in
    let n = c.is_through-in-loop-tree.ensures.answer by j.0 in
    let found = c.before-then-is_through-2.ensures.answer by n.0 in (
      found.0,
      boundary_in by g.T.Sum.Sum.none g.T.Sum.Sum.plus g.T.Element.sum_of c.args.before laws.grouping laws.none_after_none laws.none_after c.args.self.now.0 ts i c.loop-tree.passed c.before-then-is_through-2.result c.tree-item.result c.loop-tree.sum c.add-through.result c.is_through-in-loop-tree.result
          whole here c.tree-item.is c.before-then-is_through-2.ensures.within c.loop-tree.invariant.0 c.loop-tree.invariant.2 sum (c.add-through.ensures ∙ ap (g.T.Sum.Sum.plus _) c.sum-in-loop-tree.ensures) j.1 n.1 c.if-is_through-2.true some found.1,
    )

pub returns-after-loop-tree-clause-answer : goal.returns-after-loop-tree-clause-answer
returns-after-loop-tree-clause-answer g t c = λ by asked.
    let ts = c.deref-tree-items.result.now in
    let whole : c.args.self.now.0 ≡ trees_joined ts = sym (ap (λ t. t.0) c.self.view_is) ∙ ap elements (sym c.deref.ensures ∙ c.in-Inner.is) ∙ ap trees_joined (sym c.deref-tree-items.ensures.value) in
    let j = c.loop-tree.invariant.3 by asked in
    (j.0, boundary_past by g.T.Sum.Sum.none g.T.Sum.Sum.plus g.T.Element.sum_of c.args.before c.args.self.now.0 ts c.loop-tree.tree-index c.loop-tree.passed c.loop-tree.sum whole c.loop-tree.invariant.0 (omega arith) c.loop-tree.invariant.2 j.1)

pub overflow_add-passed-in-loop-tree : goal.overflow_add-passed-in-loop-tree
overflow_add-passed-in-loop-tree g t c =
    let ts = c.deref-tree-items.result.now in
    let i = c.loop-tree.tree-index in
    let here = through_tree i ts c.tree-item.result (omega (arith, c.loop-tree-test.true)) c.tree-item.is in
    let whole : length (trees_joined ts) ≡ length c.args.self.now.0 = ap (λ xs. length (trees_joined xs)) c.deref-tree-items.ensures.value ∙ ap (λ n. length (elements n)) (sym c.in-Inner.is ∙ c.deref.ensures) ∙ ap (λ t. length t.0) c.self.view_is in
    omega (arith, here, whole, c.loop-tree.invariant.0, c.len-passed.ensures.value, c.len-len.ensures.value)

pub loop-tree-preserved : goal.loop-tree-preserved
loop-tree-preserved g t c =
    let ts = c.deref-tree-items.result.now in
    let i = c.loop-tree.tree-index in
    let laws = g.met.T.Sum.Sum in
    let more = length_more i ts c.tree-item.result (omega (arith, c.loop-tree-test.true)) c.tree-item.is in
    let size : c.loop-tree.passed + c.len-passed.result ≡ length (trees_joined (take (i + 1) ts)) = omega (arith, more, c.loop-tree.invariant.0, c.len-passed.ensures.value) in
    let added = sum_from_more_trees g.T.Sum.Sum.none g.T.Sum.Sum.plus g.T.Element.sum_of laws.grouping laws.none_after_none laws.none_after c.args.before c.requires.sum i ts c.tree-item.result (omega (arith, c.loop-tree-test.true)) c.tree-item.is in
    let sum = c.add-through.ensures ∙ ap (λ s. g.T.Sum.Sum.plus s c.sum-in-loop-tree.result) c.loop-tree.invariant.2 ∙ ap (g.T.Sum.Sum.plus _) c.sum-in-loop-tree.ensures ∙ sym added in (
      size,
      c.is_through-in-loop-tree.ensures.callable,
      sum,
      λ by asked.
          let n = c.is_through-in-loop-tree.ensures.answer by (c.loop-tree.invariant.3 by asked).0 in
          (n.0, λ some. sym n.1 ∙ c.if-is_through-2.false),
    )
