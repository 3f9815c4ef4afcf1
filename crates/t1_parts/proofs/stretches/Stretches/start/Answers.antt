use Rattle.std.proofs.Common.{ap, sym, subst, ◌∙◌, length, take, arith}
use Rattle.t1_parts.specs.Items.{items_in}
use Rattle.t1_parts.specs.Stretches.{AreSingle}
use Rattle.t1_parts.proofs.SingleLaws.{single_taken}
use Rattle.t1_parts.proofs.StartLaws.{start_read, starts_length}
use Rattle.t1_parts.proofs.stretches.Stretches.start.Goals as goal

pub returns-then-self : goal.returns-then-self
returns-then-self c = sym (single_taken c.args.index c.args.self.now (subst AreSingle c.self.view_is (c.self.invariant.0 c.if-self.true)) (omega (arith, c.requires)))

pub index-requires : goal.index-requires
index-requires c =
    let size = ap length (c.self.invariant.1 c.if-self.false) ∙ starts_length 0 c.self.inside.stretches.items in
    let view = ap length c.self.view_is in
    let len = c.self.inside.starts.ok.0 in
    omega (arith, size, view, len, c.requires)

pub returns : goal.returns
returns c =
    let view = ap length c.self.view_is in
    c.index.ensures
    ∙ start_read c.args.index _ c.self.inside.starts.items c.self.inside.stretches.items (c.self.invariant.1 c.if-self.false) (omega (arith, view, c.requires))
    ∙ ap (λ ss. length (items_in (take c.args.index ss))) c.self.view_is
