use Rattle.std.proofs.Common.{◌≤◌, List, length}
use Rattle.t1_code.specs.declared.command.Command.{Command}
use Rattle.t1_run.specs.Continuing.{Continues}
use Rattle.t1_run.specs.Machine.{state_of}
use Rattle.t1_run.specs.Run.{FontBodies}
use Rattle.t1_run.proofs.runner.run_commands.Given as goal

-- what is left goes on as the whole list does
abbrev pub invariant-commands : goal.invariant-commands
invariant-commands l = record {
  goes : (m : FontBodies) (own : List Command) (waiting : List (List Command)) → Continues m own l.fn.body waiting (state_of l.fn.state)
      → Continues m own l.rest waiting (state_of l.state);
  kept : l.fn.state.steps ≤ l.state.steps;
}

abbrev pub decreases-commands : goal.decreases-commands
decreases-commands l = length l.rest
