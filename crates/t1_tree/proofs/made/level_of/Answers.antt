use Rattle.std.proofs.Common.{rules, ◌<◌, ◌++◌, length, subst, sym, arith}
use Rattle.std.proofs.lemmas.List.{nil_from_length}
use Rattle.t1_tree.proofs.MadeLaws.{IsLevel, level_ended, level_made, taken_first, waits_below}
use Rattle.t1_tree.proofs.NodeLaws.{if_ok_then}
use Rattle.t1_tree.proofs.made.level_of.Goals as goal

pub add_tree-requires : goal.add_tree-requires
add_tree-requires g c =
    let all = c.args.trees.items in
    let rest = c.next.new.self.rest.items in
    let waits = subst (λ w. IsLevel all c.args.height c.loop-tree.level.items w) (sym (taken_first c.loop-tree.below.items c.loop-tree.tree-iterator.rest.items rest c.push.new.self.items c.in-Some.tree c.in-Some.ensures.steps.0 c.in_ok-push.ensures.items)) c.loop-tree.invariant in
    let parts = waits_below all c.args.height c.loop-tree.level.items c.push.new.self.items rest waits in
    ((omega arith, parts.0), parts.1)

pub loop-tree-preserved-then-len-parts : goal.loop-tree-preserved-then-len-parts
loop-tree-preserved-then-len-parts g c =
    let all = c.args.trees.items in
    let rest = c.next.new.self.rest.items in
    let waits = subst (λ w. IsLevel all c.args.height c.loop-tree.level.items w) (sym (taken_first c.loop-tree.below.items c.loop-tree.tree-iterator.rest.items rest c.push.new.self.items c.in-Some.tree c.in-Some.ensures.steps.0 c.in_ok-push.ensures.items)) c.loop-tree.invariant in
    let many : 1 < length c.push.new.self.items = omega arith in
    subst (λ w. IsLevel all c.args.height c.add_tree.new.level.items (w ++ rest)) (sym c.in_ok-below-2.ensures.items)
    (level_made all c.args.height c.loop-tree.level.items c.add_tree.new.level.items c.push.new.self.items rest waits many c.in_ok-add_tree.ensures)

pub loop-tree-preserved : goal.loop-tree-preserved
loop-tree-preserved g c =
    let all = c.args.trees.items in
    let rest = c.next.new.self.rest.items in
    subst (λ w. IsLevel all c.args.height c.loop-tree.level.items w) (sym (taken_first c.loop-tree.below.items c.loop-tree.tree-iterator.rest.items rest c.push.new.self.items c.in-Some.tree c.in-Some.ensures.steps.0 c.in_ok-push.ensures.items)) c.loop-tree.invariant

pub with_last-requires : goal.with_last-requires
with_last-requires g c = waits_below c.args.trees.items c.args.height c.loop-tree.level.items c.loop-tree.below.items c.loop-tree.tree-iterator.rest.items c.loop-tree.invariant

pub returns-clause-same : goal.returns-clause-same
returns-clause-same g c =
    let none = nil_from_length c.loop-tree.tree-iterator.rest.items (search rules) in
    if_ok_then _ _ c.with_last.result (λ new whole. whole.0) (level_ended c.with_last.result c.args.trees.items c.args.height c.loop-tree.level.items c.loop-tree.below.items c.loop-tree.tree-iterator.rest.items c.loop-tree.invariant none c.requires.many c.with_last.ensures.none c.with_last.ensures.some)

pub returns-clause-filled : goal.returns-clause-filled
returns-clause-filled g c =
    let none = nil_from_length c.loop-tree.tree-iterator.rest.items (search rules) in
    if_ok_then _ _ c.with_last.result (λ new whole. whole.1) (level_ended c.with_last.result c.args.trees.items c.args.height c.loop-tree.level.items c.loop-tree.below.items c.loop-tree.tree-iterator.rest.items c.loop-tree.invariant none c.requires.many c.with_last.ensures.none c.with_last.ensures.some)

pub returns-clause-heights : goal.returns-clause-heights
returns-clause-heights g c =
    let none = nil_from_length c.loop-tree.tree-iterator.rest.items (search rules) in
    if_ok_then _ _ c.with_last.result (λ new whole. whole.2) (level_ended c.with_last.result c.args.trees.items c.args.height c.loop-tree.level.items c.loop-tree.below.items c.loop-tree.tree-iterator.rest.items c.loop-tree.invariant none c.requires.many c.with_last.ensures.none c.with_last.ensures.some)

pub returns-clause-fewer : goal.returns-clause-fewer
returns-clause-fewer g c =
    let none = nil_from_length c.loop-tree.tree-iterator.rest.items (search rules) in
    if_ok_then _ _ c.with_last.result (λ new whole. whole.3) (level_ended c.with_last.result c.args.trees.items c.args.height c.loop-tree.level.items c.loop-tree.below.items c.loop-tree.tree-iterator.rest.items c.loop-tree.invariant none c.requires.many c.with_last.ensures.none c.with_last.ensures.some)
