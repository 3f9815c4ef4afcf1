use Rattle.std.proofs.Common.{◌≤◌, List, length}
use Rattle.t1_code.specs.declared.command.Command.{Command}
use Rattle.t1_run.specs.Continuing.{Continues}
use Rattle.t1_run.specs.Machine.{state_of}
use Rattle.t1_run.specs.Run.{FontBodies}
use Rattle.t1_run.proofs.state.State.push_quotients.Given as goal

-- what is left goes on as the whole list does
abbrev pub invariant-quotients : goal.invariant-quotients
invariant-quotients l = record {
  goes : (m : FontBodies) (own : List Command) (waiting : List (List Command)) → Continues m own l.fn.commands waiting (state_of l.fn.self)
      → Continues m own l.rest waiting (state_of l.self);
  kept : l.fn.self.steps ≤ l.self.steps;
  left : length l.rest ≤ length l.fn.commands;
}

abbrev pub decreases-quotients : goal.decreases-quotients
decreases-quotients l = length l.rest
