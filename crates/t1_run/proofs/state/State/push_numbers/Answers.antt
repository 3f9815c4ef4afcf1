use Rattle.std.proofs.Common.{rules, ◌-◌, ◌≤◌, length}
use Rattle.t1_run.specs.Machine.{state_of}
use Rattle.t1_run.proofs.Pushing.{pushed_go}
use Rattle.t1_run.proofs.state.State.push_numbers.Goals as goal

pub returns-clause-goes : goal.returns-clause-goes
returns-clause-goes c = λ m. λ own. λ waiting. λ h.
    let few : c.min.result ≤ 100000 - c.args.self.now.steps = search rules in
    let room : c.min.result ≤ 24 - length c.args.self.now.operands = search rules in
    pushed_go c.min.result c.push_numbers-count.result.0 m own c.args.commands.now c.push_numbers-count.result.1.now waiting (state_of c.args.self.now) c.push_numbers-count.new.self few room
    c.push_numbers-count.ensures.count c.push_numbers-count.ensures.rest c.push_numbers-count.ensures.pushed h
