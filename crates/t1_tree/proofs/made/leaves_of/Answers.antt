use Rattle.std.proofs.Common.{rules, ◌<◌, ◌++◌, length, subst, sym, arith}
use Rattle.std.proofs.lemmas.List.{nil_from_length}
use Rattle.t1_tree.proofs.MadeLaws.{IsLeaves, leaf_made, leaves_ended, taken_first}
use Rattle.t1_tree.proofs.NodeLaws.{if_ok_then}
use Rattle.t1_tree.proofs.made.leaves_of.Goals as goal

pub loop-item-preserved-then-len-parts : goal.loop-item-preserved-then-len-parts
loop-item-preserved-then-len-parts g c =
    let all = c.args.items.items in
    let rest = c.next.new.self.rest.items in
    let waits = subst (IsLeaves all c.loop-item.leaves.items) (sym (taken_first c.loop-item.leaf.items c.loop-item.item-iterator.rest.items rest c.push.new.self.items c.in-Some.item c.in-Some.ensures.steps.0 c.in_ok-push.ensures.items)) c.loop-item.invariant in
    let some : 0 < length c.push.new.self.items = omega arith in
    subst (λ w. IsLeaves all c.add_leaf.new.leaves.items (w ++ rest)) (sym c.in_ok-leaf-2.ensures.items)
    (leaf_made all c.loop-item.leaves.items c.add_leaf.new.leaves.items c.push.new.self.items rest waits some c.in_ok-add_leaf.ensures)

pub loop-item-preserved : goal.loop-item-preserved
loop-item-preserved g c =
    let all = c.args.items.items in
    let rest = c.next.new.self.rest.items in
    subst (IsLeaves all c.loop-item.leaves.items) (sym (taken_first c.loop-item.leaf.items c.loop-item.item-iterator.rest.items rest c.push.new.self.items c.in-Some.item c.in-Some.ensures.steps.0 c.in_ok-push.ensures.items)) c.loop-item.invariant

pub returns-clause-same : goal.returns-clause-same
returns-clause-same g c =
    let none = nil_from_length c.loop-item.item-iterator.rest.items (search rules) in
    if_ok_then _ _ c.with_last_leaf.result (λ new whole. whole.0) (leaves_ended c.with_last_leaf.result c.args.items.items c.loop-item.leaves.items c.loop-item.leaf.items c.loop-item.item-iterator.rest.items c.loop-item.invariant none c.with_last_leaf.ensures.none c.with_last_leaf.ensures.some)

pub returns-clause-filled : goal.returns-clause-filled
returns-clause-filled g c =
    let none = nil_from_length c.loop-item.item-iterator.rest.items (search rules) in
    if_ok_then _ _ c.with_last_leaf.result (λ new whole. whole.1) (leaves_ended c.with_last_leaf.result c.args.items.items c.loop-item.leaves.items c.loop-item.leaf.items c.loop-item.item-iterator.rest.items c.loop-item.invariant none c.with_last_leaf.ensures.none c.with_last_leaf.ensures.some)

pub returns-clause-heights : goal.returns-clause-heights
returns-clause-heights g c =
    let none = nil_from_length c.loop-item.item-iterator.rest.items (search rules) in
    if_ok_then _ _ c.with_last_leaf.result (λ new whole. whole.2) (leaves_ended c.with_last_leaf.result c.args.items.items c.loop-item.leaves.items c.loop-item.leaf.items c.loop-item.item-iterator.rest.items c.loop-item.invariant none c.with_last_leaf.ensures.none c.with_last_leaf.ensures.some)
