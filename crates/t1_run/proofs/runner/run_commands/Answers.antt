use Rattle.std.proofs.Common.{rules}
use Rattle.std.proofs.lemmas.Result.{err_from_is_err_and}
use Rattle.t1_run.specs.Machine.{state_of, RefusesStep}
use Rattle.t1_run.specs.Words.{step}
use Rattle.t1_run.proofs.Continuing.{at_rest, meets}
use Rattle.t1_run.proofs.runner.run_commands.Goals as goal

pub returns-in_err-step_by_number-in-Num-clause-comes : goal.returns-in_err-step_by_number-in-Num-clause-comes
returns-in_err-step_by_number-in-Num-clause-comes c = λ m. λ own. λ waiting. λ h.
    let p = err_from_is_err_and c.from_residual.result c.from_residual.ensures.1 in
    let goes = c.push_values-others.ensures.goes m own waiting (c.commands.invariant.goes m own waiting h) in
    let refused : RefusesStep c.in_err-step_by_number-in-Num.field-0.0 (step c.in-Some.command.now (state_of c.push_values-others.new.self)) = search rules in
    rw (p.1, p.2) (meets c.in_err-step_by_number-in-Num.field-0.0 goes c.in-Some.ensures.cases.0 refused)

pub returns-in_err-step_on-in_default-command-clause-comes : goal.returns-in_err-step_on-in_default-command-clause-comes
returns-in_err-step_on-in_default-command-clause-comes c = λ m. λ own. λ waiting. λ h.
    let p = err_from_is_err_and c.from_residual-in_err-step_on-in_default-command.result c.from_residual-in_err-step_on-in_default-command.ensures.1 in
    let goes = c.push_values-others.ensures.goes m own waiting (c.commands.invariant.goes m own waiting h) in
    rw (p.1, p.2) (meets c.in_err-step_on-in_default-command.field-0.0 goes c.in-Some.ensures.cases.0 c.in_err-step_on-in_default-command.ensures.reported)

pub returns-in_err-control-in-CallSubr-clause-comes : goal.returns-in_err-control-in-CallSubr-clause-comes
returns-in_err-control-in-CallSubr-clause-comes c = λ m. λ own. λ waiting. λ h.
    let p = err_from_is_err_and c.from_residual-in_err-control-in-CallSubr.result c.from_residual-in_err-control-in-CallSubr.ensures.1 in
    let goes = c.push_values-others.ensures.goes m own waiting (c.commands.invariant.goes m own waiting h) in
    rw (p.1, p.2) (meets c.in_err-control-in-CallSubr.field-0.0 goes c.in-Some.ensures.cases.0 c.in_err-control-in-CallSubr.ensures.reported)

pub returns-in-CallSubr-clause-comes : goal.returns-in-CallSubr-clause-comes
returns-in-CallSubr-clause-comes c = λ m. λ own. λ waiting. λ h. record {
  command = c.in-Some.command.now;
  before = state_of c.push_values-others.new.self;
  here = at_rest (c.push_values-others.ensures.goes m own waiting (c.commands.invariant.goes m own waiting h)) c.in-Some.ensures.cases.0;
  is = c.in_ok-control-in-CallSubr.ensures.reported;
}
