use Rattle.std.proofs.Common.{◌≡◌, subst, sym, arith}
use Rattle.t1_tree.specs.Trees.{HasHeight, IsBoth}
use Rattle.t1_tree.proofs.NodeLaws.{some_at}
use Rattle.t1_tree.proofs.node.Tree.joined_with.Goals as goal

pub of-requires : goal.of-requires
of-requires g c =
    let both = some_at (λ b. IsBoth c.deref.result.now c.deref-2.result.now b) c.in_ok-both.field-0 c.in-Some.both c.in-Some.is c.in_ok-both.ensures in
    let same : c.next.inside.height ≡ c.self.inside.height = omega (arith, c.if-self-next.false) in
    both.1 c.self.inside.height
    (subst (HasHeight c.self.inside.height) (sym c.deref.ensures) c.self.invariant.1)
    (subst (HasHeight c.self.inside.height) (sym c.deref-2.ensures) (subst (λ h. HasHeight h c.next.inside.node.value) same c.next.invariant.1))
