use Rattle.std.proofs.Common.{◌≡◌, ◌<◌, ◌++◌, length, arith}
use Rattle.t1_tree.proofs.HeightLaws.{cut_heights}
use Rattle.t1_tree.proofs.NodeLaws.{some_at}
use Rattle.t1_tree.proofs.TreeLaws.{cut_trees}
use Rattle.t1_tree.proofs.balance.cut.Goals as goal

pub returns-clause-same : goal.returns-clause-same
returns-clause-same g c =
    let old = c.args.trees.now.items in
    let t = c.index.result.now in
    let both = some_at (λ h. (h.0.0 ++ h.1.0 ≡ t.0) × (0 < length h.0.0) × (0 < length h.1.0) × (h.0.1 ≡ t.1) × (h.1.1 ≡ t.1)) c.in_ok-front.field-0 (c.in-Some.front, c.in-Some.back) c.in-Some.is c.in_ok-front.ensures in
    cut_trees c.args.index old c.reserve.new.self.items c.insert-room_was_reserved.new.self.items t c.in-Some.front c.in-Some.back _ c.reserve.ensures.items c.requires c.index.ensures both.0
    (c.insert-room_was_reserved.ensures.succeeds (omega (arith, c.in_ok-reserve.ensures.ok))) c.insert-room_was_reserved.ensures.items

pub returns-clause-heights : goal.returns-clause-heights
returns-clause-heights g c =
    let old = c.args.trees.now.items in
    let t = c.index.result.now in
    let both = some_at (λ h. (h.0.0 ++ h.1.0 ≡ t.0) × (0 < length h.0.0) × (0 < length h.1.0) × (h.0.1 ≡ t.1) × (h.1.1 ≡ t.1)) c.in_ok-front.field-0 (c.in-Some.front, c.in-Some.back) c.in-Some.is c.in_ok-front.ensures in
    cut_heights c.args.index old c.reserve.new.self.items c.insert-room_was_reserved.new.self.items t c.in-Some.front c.in-Some.back _ c.reserve.ensures.items c.requires c.index.ensures both.1 both.2 both.3 both.4
    (c.insert-room_was_reserved.ensures.succeeds (omega (arith, c.in_ok-reserve.ensures.ok))) c.insert-room_was_reserved.ensures.items
