use Rattle.std.proofs.Common.{◌≡◌, ◌<◌, ◌∙◌, ◌++◌, ap, length, refl}
use Rattle.t1_tree.specs.Trees.{trees_joined}
use Rattle.t1_tree.proofs.HeightLaws.{joined_heights, shared_heights}
use Rattle.t1_tree.proofs.NodeLaws.{some_at}
use Rattle.t1_tree.proofs.TreeLaws.{joined_trees, shared_trees}
use Rattle.t1_tree.proofs.balance.join.Goals as goal

pub returns-then-has_room-clause-same : goal.returns-then-has_room-clause-same
returns-then-has_room-clause-same g c =
    let t = c.index.result.now in
    let n = c.index-2.result.now in
    let made = some_at (λ b. (b.0 ≡ t.0 ++ n.0) × (0 < length b.0) × (b.1 ≡ t.1)) c.in_ok-both.field-0 c.in-Some.both c.in-Some.is c.in_ok-both.ensures in
    ap trees_joined c.remove.ensures.items ∙ joined_trees c.args.index c.args.trees.now.items t n c.in-Some.both c.requires c.index.ensures c.index-2.ensures made.0

pub returns-then-has_room-clause-heights : goal.returns-then-has_room-clause-heights
returns-then-has_room-clause-heights g c =
    let t = c.index.result.now in
    let n = c.index-2.result.now in
    let made = some_at (λ b. (b.0 ≡ t.0 ++ n.0) × (0 < length b.0) × (b.1 ≡ t.1)) c.in_ok-both.field-0 c.in-Some.both c.in-Some.is c.in_ok-both.ensures in
    joined_heights c.args.index c.args.trees.now.items c.remove.new.self.items t c.in-Some.both c.requires c.index.ensures made.1 made.2 c.remove.ensures.items

pub returns-clause-same : goal.returns-clause-same
returns-clause-same g c =
    let t = c.index.result.now in
    let n = c.index-2.result.now in
    let made = some_at (λ b. (b.0 ≡ t.0 ++ n.0) × (0 < length b.0) × (b.1 ≡ t.1)) c.in_ok-both.field-0 c.in-Some.both c.in-Some.is c.in_ok-both.ensures in
    let pair = some_at (λ h. (h.0.0 ++ h.1.0 ≡ c.in-Some.both.0) × (0 < length h.0.0) × (0 < length h.1.0) × (h.0.1 ≡ c.in-Some.both.1) × (h.1.1 ≡ c.in-Some.both.1)) c.in_ok-front.field-0 (c.in-Some-2.front, c.in-Some-2.back) c.in-Some-2.is c.in_ok-front.ensures in
    shared_trees c.args.index c.args.trees.now.items t n c.in-Some-2.front c.in-Some-2.back c.requires c.index.ensures c.index-2.ensures (pair.0 ∙ made.0)

pub returns-clause-heights : goal.returns-clause-heights
returns-clause-heights g c =
    let t = c.index.result.now in
    let n = c.index-2.result.now in
    let made = some_at (λ b. (b.0 ≡ t.0 ++ n.0) × (0 < length b.0) × (b.1 ≡ t.1)) c.in_ok-both.field-0 c.in-Some.both c.in-Some.is c.in_ok-both.ensures in
    let pair = some_at (λ h. (h.0.0 ++ h.1.0 ≡ c.in-Some.both.0) × (0 < length h.0.0) × (0 < length h.1.0) × (h.0.1 ≡ c.in-Some.both.1) × (h.1.1 ≡ c.in-Some.both.1)) c.in_ok-front.field-0 (c.in-Some-2.front, c.in-Some-2.back) c.in-Some-2.is c.in_ok-front.ensures in
    shared_heights c.args.index c.args.trees.now.items _ t c.in-Some-2.front c.in-Some-2.back c.requires c.index.ensures pair.1 pair.2 (pair.3 ∙ made.2) (pair.4 ∙ made.2) refl
