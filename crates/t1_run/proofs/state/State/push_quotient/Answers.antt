use Rattle.std.proofs.Common.{rules, ◌≡◌, sym, ◌+◌, ◌≤◌, Ok, length, subst}
use Rattle.t1_frac.specs.Fraction.{whole}
use Rattle.t1_frac.specs.Limits.{quotient}
use Rattle.t1_run.specs.Continuing.{Continues}
use Rattle.t1_run.specs.Machine.{state_of}
use Rattle.t1_run.proofs.Pushing.{quotient_goes}
use Rattle.t1_run.proofs.state.State.push_quotient.Goals as goal

pub returns-clause-pushed : goal.returns-clause-pushed
returns-clause-pushed c = λ _. λ m. λ own. λ rest. λ waiting. λ h.
    let few : c.args.self.now.steps + 3 ≤ 100000 = search rules in
    let room : length c.args.self.now.operands + 2 ≤ 24 = search rules in
    let is : quotient (whole c.args.dividend) (whole c.args.divisor) ≡ Ok c.in-Ok.quotient = search rules in
    subst (λ stack. Continues m own rest waiting (record (state_of c.args.self.now) { stack = stack; steps = c.args.self.now.steps + 3 })) (sym c.push.ensures)
    (quotient_goes m own rest waiting (state_of c.args.self.now) c.args.dividend c.args.divisor c.in-Ok.quotient few room is h)
