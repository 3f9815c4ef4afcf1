use Rattle.std.proofs.Common.{sym, ◌∙◌, ap, subst}
use Rattle.std.specs.Prelude.{IfOk, Result}
use Rattle.t1_frac.specs.Fraction.{Fraction}
use Rattle.t1_frac.specs.Limits.{IsCoordinate}
use Rattle.t1_frac.specs.declared.fault.Code.{Code}
use Rattle.t1_frac.proofs.Coordinates.{read_again, sum_within, whole_sum}
use Rattle.t1_frac.proofs.frac.Frac.add.Goals as goal

pub returns-then-other-eq1-clause-sum : goal.returns-then-other-eq1-clause-sum
returns-then-other-eq1-clause-sum c =
    let own = ap (λ (a : Fraction). a.den) (sym c.self.view_is) in
    let others = ap (λ (a : Fraction). a.den) (sym c.other.view_is) in
    c.whole_coordinate.ensures
    ∙ whole_sum c.args.self.now c.args.other.now _ (read_again _ c.sum_num.ensures.size ∙ c.sum_num.ensures.value) (own ∙ c.if-self-eq1.true) (others ∙ c.if-other-eq1.true)

pub returns-clause-within : goal.returns-clause-within
returns-clause-within c =
    subst (λ (r : Result Fraction Code). IfOk r IsCoordinate) (sym c.add_fraction.ensures)
    (sum_within _ _ c.self.invariant.0 c.other.invariant.0)
