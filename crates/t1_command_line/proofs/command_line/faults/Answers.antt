use Rattle.t1_command_line.proofs.command_line.faults.Goals as goal

pub returns : goal.returns
returns c = c.of_sources.ensures _ (c.with_arg.ensures _ _ c.named-command.ensures c.json.ensures.rule c.json.ensures.local)
